use Rattle.std.proofs.Common.{◌≡◌, ℕ, ◌<◌, get_or}
use Rattle.sheet.proofs.expanding.clear.Given as goal

abbrev pub invariant-loop-value : goal.invariant-loop-value
invariant-loop-value g l = (p : ℕ) → p < l.value-index → get_or l.sheet p g.R.Ring.ring.zero ≡ g.R.Ring.ring.zero
