use Rattle.lyndon.proofs.Splitting.{tested}
use Rattle.lyndon.proofs.Theorems.{splits}
use Rattle.word.proofs.splitting.split.Goals as goal

pub returns-in_err-check_longest-clause-lyndon : goal.returns-in_err-check_longest-clause-lyndon
returns-in_err-check_longest-clause-lyndon g c = tested (g.met.O.Order.total c.args.order.now)

pub returns-in_err-check_longest-clause-splits : goal.returns-in_err-check_longest-clause-splits
returns-in_err-check_longest-clause-splits g c = splits (g.met.O.Order.total c.args.order.now)

pub returns-then-not-is_lyndon-clause-lyndon : goal.returns-then-not-is_lyndon-clause-lyndon
returns-then-not-is_lyndon-clause-lyndon g c = tested (g.met.O.Order.total c.args.order.now)

pub returns-then-not-is_lyndon-clause-splits : goal.returns-then-not-is_lyndon-clause-splits
returns-then-not-is_lyndon-clause-splits g c = splits (g.met.O.Order.total c.args.order.now)

pub returns-clause-lyndon : goal.returns-clause-lyndon
returns-clause-lyndon g c = tested (g.met.O.Order.total c.args.order.now)

pub returns-clause-splits : goal.returns-clause-splits
returns-clause-splits g c = splits (g.met.O.Order.total c.args.order.now)
