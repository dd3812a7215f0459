use Rattle.lyndon.proofs.Theorems.{factorizations}
use Rattle.word.proofs.factoring.factor.Goals as goal

pub returns-in_err-check_longest-clause-factorizations : goal.returns-in_err-check_longest-clause-factorizations
returns-in_err-check_longest-clause-factorizations g c = factorizations (g.met.O.Order.total c.args.order.now)

pub returns-then-not-fits-clause-factorizations : goal.returns-then-not-fits-clause-factorizations
returns-then-not-fits-clause-factorizations g c = factorizations (g.met.O.Order.total c.args.order.now)

pub returns-clause-factorizations : goal.returns-clause-factorizations
returns-clause-factorizations g c = factorizations (g.met.O.Order.total c.args.order.now)
