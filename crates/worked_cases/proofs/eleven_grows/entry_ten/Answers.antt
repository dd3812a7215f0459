use Rattle.std.proofs.Common.{◌≡◌, ltb, ap, ◌∙◌, arith}
use Rattle.faults.specs.declared.Layer.TheVariants as layer
use Rattle.faults.specs.Faults.{found}
use Rattle.faults.specs.Outcome.{refuse_if}
use Rattle.faults.specs.Outcome.Outcome.{answered}
use Rattle.bracket_table.specs.Calls.{grow_outcome, grown, look_outcome}
use Rattle.bracket_table.specs.Seen.{view}
use Rattle.worked_cases.proofs.Grows.{after, after_grow, look_ten}
use Rattle.worked_cases.proofs.eleven_grows.entry_ten.Goals as goal

pub loop-preserved : goal.loop-preserved
loop-preserved c =
    c.grow.ensures.step
    ∙ ap (λ v. grown (grow_outcome v) v) c.loop.invariant
    ∙ after_grow (view c.open.new.self).room c.loop.counter c.loop-test.true

pub returns : goal.returns
returns c =
    let all : c.loop.counter ≡ 11 = omega (arith, c.loop-test.false, c.loop.auto.counter-end) in
    c.look.ensures.outcome
    ∙ ap (λ v. look_outcome v 10) (c.loop.invariant ∙ ap (after (view c.open.new.self).room) all)
    ∙ look_ten (view c.open.new.self).room
    ∙ ap (λ v. refuse_if (ltb v.room 11) (found 10 layer.Table 0 0) (answered (record { length = 5; code = 5; left = 3; right = 2 }))) c.in_ok-open.ensures.step
