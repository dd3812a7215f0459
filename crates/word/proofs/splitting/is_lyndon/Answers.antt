use Rattle.std.proofs.Common.{rules}
use Rattle.word.proofs.LastFactor.{lyndon_by_first}
use Rattle.word.proofs.splitting.is_lyndon.Goals as goal

pub returns : goal.returns
returns g c =
    lyndon_by_first (g.met.O.Order.total c.args.order.now) c.args.word.now c.leading_run.result c.is_some_and.result c.leading_run.ensures c.is_some_and.ensures (λ run h. search rules)
