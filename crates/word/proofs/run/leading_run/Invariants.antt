use Rattle.std.proofs.Common.{◌<◌, ◌≤◌}
use Rattle.lyndon.proofs.Runs.{Reading}
use Rattle.word.proofs.run.leading_run.Given as goal

abbrev pub invariant-loop-read : goal.invariant-loop-read
invariant-loop-read g l =
    (0 < l.period) × (l.period ≤ l.read) × Reading (g.O.Order.ranks l.order) l.word l.read l.period
