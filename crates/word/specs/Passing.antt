-- Going over a word run by run.
use Rattle.std.specs.Prelude.{◌≡◌, ℕ, ◌+◌, ◌*◌, ◌≤◌, Option, MatchOption, length, drop}
use Rattle.std.specs.declared.cmp.Ordering.{Ordering}
use Rattle.lyndon.specs.Runs.{LeadingRun}
use Rattle.word.specs.declared.run.Run.{Run}
use Rattle.word.specs.declared.run.Runs.{Runs}

-- from s the run was passed that begins behind the `from` letters passed before, or no letters were left
abbrev pub gives_run : {L O : Type 0} → (O → L → L → Ordering) → Runs L O → Option (ℕ × Run) → Runs L O → Type 0
gives_run ranks s r t =
    MatchOption r (length s.word.now ≤ s.from)
    (λ found. (found.0 ≡ s.from) × LeadingRun (ranks s.order.now) (drop s.from s.word.now) found.1.period found.1.count
    × (t.order.now ≡ s.order.now) × (t.word.now ≡ s.word.now) × (t.from ≡ s.from + found.1.count * found.1.period))
