use Rattle.std.proofs.Common.{rules, length, sym, ap, ◌∙◌, arith}
use Rattle.lyndon.specs.Factoring.{ahead}
use Rattle.word.proofs.LastFactor.{no_last, some_last, last_start}
use Rattle.word.proofs.splitting.last_factor.Goals as goal

pub returns-in_err-from : goal.returns-in_err-from
returns-in_err-from g c =
    let none = no_last g.O.Order.ranks g.met.O.Order.total c.new.result c.last.result c.new.ensures.from c.last.ensures.ran c.in_err-from.was in
    rw c.from_residual.ensures (sym c.new.ensures.word ∙ none)

pub overflow_sub-result : goal.overflow_sub-result
overflow_sub-result g c =
    let l = some_last g.O.Order.ranks g.met.O.Order.total c.new.result c.last.result _ c.new.ensures.from c.last.ensures.ran c.in_ok-from.was in
    omega arith

pub overflow_mul-result : goal.overflow_mul-result
overflow_mul-result g c =
    let l = some_last g.O.Order.ranks g.met.O.Order.total c.new.result c.last.result _ c.new.ensures.from c.last.ensures.ran c.in_ok-from.was in
    let e = ap length c.new.ensures.word in
    search rules

pub overflow_add-result : goal.overflow_add-result
overflow_add-result g c =
    let l = some_last g.O.Order.ranks g.met.O.Order.total c.new.result c.last.result _ c.new.ensures.from c.last.ensures.ran c.in_ok-from.was in
    let e = ap length c.new.ensures.word in
    search rules

pub returns : goal.returns
returns g c =
    let l = some_last g.O.Order.ranks g.met.O.Order.total c.new.result c.last.result _ c.new.ensures.from c.last.ensures.ran c.in_ok-from.was in
    let start = last_start g.O.Order.ranks g.met.O.Order.total c.new.result _ c.new.ensures.from l in (
      start ∙ ap (λ order. ahead (g.O.Order.ranks order) c.new.result.word.now) c.new.ensures.order ∙ ap (ahead (g.O.Order.ranks c.args.order.now)) c.new.ensures.word,
      omega (arith, ap length c.new.ensures.word),
    )
