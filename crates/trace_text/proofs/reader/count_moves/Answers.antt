use Rattle.std.proofs.Common.{◌+◌, [], ◌∷◌, ◌++◌, Some, Ok, Err, ap, ◌∙◌, arith}
use Rattle.std.proofs.lemmas.List.{length_push}
use Rattle.std.proofs.lemmas.Result.{err_from_is_err_and}
use Rattle.trace_text.specs.States.{GivesMove}
use Rattle.trace_text.proofs.Turns.{reads_on, whole, halts}
use Rattle.trace_text.proofs.reader.count_moves.Goals as goal

pub loop-next-preserved : goal.loop-next-preserved
loop-next-preserved c =
    let inv = c.loop-next.invariant in
    let m = c.in_ok-next.field-0 in
    let more : GivesMove c.loop-next.next-iterator (Some (Ok m)) c.next.new.self = rw c.in_ok-next.was at c.in-Some.ensures.steps in
    record {
      can_next = tt;
      is_finite = tt;
      moves = (
        inv.moves.0 ++ m ∷ [],
        reads_on c.args.text.now inv.moves.0 c.loop-next.next-iterator c.next.new.self inv.moves.1 m more,
        length_push inv.moves.0 m ∙ ap (λ n. n + 1) inv.moves.2,
      );
      few = omega (arith, inv.few, c.in-Some.ensures.goes.on tt);
    }

pub returns-in_err-next : goal.returns-in_err-next
returns-in_err-next c =
    let p = err_from_is_err_and c.from_residual.result c.from_residual.ensures.1 in
    let inv = c.loop-next.invariant in
    let stop : GivesMove c.loop-next.next-iterator (Some (Err c.in_err-next.field-0.0)) c.next.new.self = rw c.in_err-next.was at c.in-Some.ensures.steps in
    rw (p.1, p.2) (halts c.args.text.now inv.moves.0 c.loop-next.next-iterator c.next.new.self inv.moves.1 c.in_err-next.field-0.0 stop)

pub returns : goal.returns
returns c =
    let inv = c.loop-next.invariant in
    (inv.moves.0, whole c.args.text.now inv.moves.0 c.loop-next.next-iterator c.next.new.self inv.moves.1 c.in-None.ensures.steps, inv.moves.2)
