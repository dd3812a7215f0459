-- Digits in texts: 48 to 57.
use Rattle.std.specs.Prelude.{ℕ, ◌≤◌, List, All}

abbrev pub Digit : ℕ → Type 0
Digit c = (48 ≤ c) × (c ≤ 57)

abbrev pub NotDigit : ℕ → Type 0
NotDigit c = Digit c → ⊥

abbrev pub AllDigits : List ℕ → Type 0
AllDigits = All Digit
