use Rattle.std.proofs.Common.{◌++◌, length, sym, ap, ◌∙◌, arith, length-append}
use Rattle.lent_list.specs.Lent.{items, places, over}
use Rattle.lent_list.proofs.Filling.{length_over, over-over}
use Rattle.lyndon.specs.Factoring.{factors}
use Rattle.word.specs.Calls.{paced}
use Rattle.word.proofs.Passing.{passed}
use Rattle.word.proofs.Starts.{length-starts, listed_all, listed_length, listed_more}
use Rattle.word.proofs.factoring.list_starts.Goals as goal

pub push_starts-requires-clause-room : goal.push_starts-requires-clause-room
push_starts-requires-clause-room g c =
    let l = c.loop-from in
    let p = passed g.O.Order.ranks l.from-iterator (c.in-Some.from, c.in-Some.run') c.next.new.self l.invariant.0 c.in-Some.ensures.steps in
    let n = listed_length g.O.Order.ranks l.from-iterator (items l.starts) _ l.invariant.2 in
    let m = length-starts 0 (factors (g.O.Order.ranks c.args.order.now) c.args.word.now) in
    let e = ap length l.invariant.3 in
    let k = ap length c.clear.ensures.places in
    let o = length_over (places c.clear.new.self) (items l.starts) (omega (arith, c.requires.room)) in
    omega (arith, c.requires.room, p.counted)

pub loop-from-preserved : goal.loop-from-preserved
loop-from-preserved g c =
    let l = c.loop-from in
    let p = passed g.O.Order.ranks l.from-iterator (c.in-Some.from, c.in-Some.run') c.next.new.self l.invariant.0 c.in-Some.ensures.steps in
    let was = items l.starts in
    let now = items c.push_starts.new.starts in
    let pushed = c.push_starts.ensures in (
      p.within,
      c.in-Some.ensures.steps.3 ∙ l.invariant.1,
      listed_more g.O.Order.ranks l.from-iterator was _ l.invariant.2 c.in-Some.run' c.next.new.self now p (pushed.0 ∙ ap (λ n. was ++ paced n c.in-Some.run'.period c.in-Some.run'.count) c.in-Some.ensures.steps.0),
      pushed.1 ∙ ap (λ z. over z (places l.starts)) (sym pushed.0) ∙ ap (over now) l.invariant.3 ∙ over-over (places c.clear.new.self) was now (omega (arith, ap length pushed.0, length-append was (paced c.in-Some.from c.in-Some.run'.period c.in-Some.run'.count))),
      pushed.2 ∙ l.invariant.4,
    )

pub returns-clause-count : goal.returns-clause-count
returns-clause-count g c =
    let l = c.loop-from in
    let all = listed_all g.O.Order.ranks l.from-iterator (items l.starts) _ l.invariant.2 c.next.new.self c.in-None.ensures.steps in
    c.count.ensures.value ∙ ap length all ∙ length-starts 0 (factors (g.O.Order.ranks c.args.order.now) c.args.word.now)
