-- What an audit comes to.
use Rattle.std.specs.Prelude.{ℕ, length}
use Rattle.faults.specs.Outcome.{Outcome}
use Rattle.faults.specs.Outcome.Outcome.{answered}
use Rattle.bracket_table.specs.Calls.{when_open}
use Rattle.bracket_table.specs.Views.{View}

-- how many entries stand
abbrev pub count_outcome : View → Outcome ℕ
count_outcome v = when_open v.shape (λ s. answered (length v.entries))
