use Rattle.std.proofs.Common.{◌<◌, [], ◌∷◌, ◌++◌, length, Some, Ok, Err, refl, ap, ◌∙◌, arith}
use Rattle.std.proofs.lemmas.List.{length_push}
use Rattle.lent_list.specs.Lent.{items, places}
use Rattle.lent_list.proofs.Filling.{put_more}
use Rattle.text.proofs.Reading.{means_or_stops}
use Rattle.trace_text.specs.States.{GivesMove}
use Rattle.trace_text.specs.Traces.{IsTrace}
use Rattle.trace_text.proofs.Turns.{reads_on, front, whole, halts}
use Rattle.trace_text.proofs.reader.fill.Goals as goal

pub loop-next-preserved : goal.loop-next-preserved
loop-next-preserved c =
    let inv = c.loop-next.invariant in
    let w = items c.loop-next.moves in
    let m = c.in_ok-next.field-0 in
    let more : GivesMove c.loop-next.next-iterator (Some (Ok m)) c.next.new.self = rw c.in_ok-next.was at c.in-Some.ensures.steps in
    let on = reads_on c.args.text.now w c.loop-next.next-iterator c.next.new.self inv.moves m more in
    let few = front c.args.text.now (w ++ m ∷ []) c.next.new.self c.next.new.self on c.requires.0 c.requires.1 in
    let size = ap length c.clear.ensures.places in
    let room : length w < length (places c.clear.new.self) = omega (arith, c.requires.2, length_push w m) in
    let put = put_more (places c.clear.new.self) w (places c.loop-next.moves) (items c.push.new.self) (places c.push.new.self) m _ c.push.result inv.memory.1 room c.push.ensures.done in
    record {
      can_next = tt;
      is_finite = tt;
      moves = rw put.0 on;
      memory = (refl, put.1, c.push.ensures.lender ∙ inv.memory.2);
    }

pub returns-in_err-next : goal.returns-in_err-next
returns-in_err-next c =
    let err : GivesMove c.loop-next.next-iterator (Some (Err c.in_err-next.field-0.0)) c.next.new.self = rw c.in_err-next.was at c.in-Some.ensures.steps in
    let stop = halts c.args.text.now (items c.loop-next.moves) c.loop-next.next-iterator c.next.new.self c.loop-next.invariant.moves c.in_err-next.field-0.0 err in
    absurd (means_or_stops IsTrace c.args.text.now c.requires.0 stop.0 c.requires.1 stop.2)

pub returns-clause-moves : goal.returns-clause-moves
returns-clause-moves c =
    whole c.args.text.now (items c.loop-next.moves) c.loop-next.next-iterator c.next.new.self c.loop-next.invariant.moves c.in-None.ensures.steps

pub returns-clause-within : goal.returns-clause-within
returns-clause-within c =
    let few = front c.args.text.now (items c.loop-next.moves) c.loop-next.next-iterator c.next.new.self c.loop-next.invariant.moves c.requires.0 c.requires.1 in
    omega (arith, c.requires.2)
