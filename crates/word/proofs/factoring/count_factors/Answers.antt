use Rattle.std.proofs.Common.{rules, length, ap, ◌∙◌, arith}
use Rattle.lyndon.specs.Factoring.{factors}
use Rattle.word.proofs.Passing.{counts_summed}
use Rattle.word.proofs.factoring.count_factors.Goals as goal

pub sum-requires-clause-fits : goal.sum-requires-clause-fits
sum-requires-clause-fits g c = λ p _ at.
    let n = counts_summed g.O.Order.ranks _ _ c.new.result p c.new.ensures.from (c.map.ensures.runs p p.seen at) (λ x n f' call. search rules) in
    omega (arith, n.few, ap length c.new.ensures.word)

pub returns : goal.returns
returns g c =
    let r = c.sum.ensures.runs tt in
    let n = counts_summed g.O.Order.ranks _ _ c.new.result r.0 c.new.ensures.from (c.map.ensures.runs r.0 r.0.seen r.1) (λ x n f' call. search rules) in
    r.3 ∙ n.all r.2 ∙ ap (λ order. length (factors (g.O.Order.ranks order) c.new.result.word.now)) c.new.ensures.order ∙ ap (λ w. length (factors (g.O.Order.ranks c.args.order.now) w)) c.new.ensures.word
