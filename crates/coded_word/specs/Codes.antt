-- Words by their codes.
use Rattle.std.specs.Prelude.{◌≡◌, ℕ, List, length}
use Rattle.faults.specs.Outcome.{Outcome, checked}
use Rattle.faults.specs.Outcome.Outcome.{answered}
use Rattle.lyndon.specs.Codes.{code}
use Rattle.word.specs.Faults.{length_checked, letters_checked}

-- m and c are the length and the code of w
abbrev pub Codes : ℕ → List ℕ → ℕ → ℕ → Type 0
Codes k w m c = (m ≡ length w) × (c ≡ code k w)

-- the length and the code of a word over k letters that is to have 1 to n of them
abbrev pub read_outcome : ℕ → ℕ → List ℕ → Outcome (ℕ × ℕ)
read_outcome k n w = checked (length_checked n (length w)) (checked (letters_checked k w) (answered (length w, code k w)))
