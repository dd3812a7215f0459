-- The parts of a line, each read at the place i of the bytes bs, up to the place j. 32 is the space, 48 to 57 are the digits.
use Rattle.std.specs.Prelude.{◌≡◌, ℕ, ◌+◌, ◌-◌, ◌/◌, ◌%◌, ◌<◌, ◌≤◌, ◌⊎◌, List, length, take, drop, Some, None, Ok, Err, Option, Result, ◌≢◌, slice_index}
use Rattle.text.specs.declared.fault.TextFault.{TextFault}
use Rattle.text.specs.declared.fault.TextFault.TheVariants.{Malformed}
use Rattle.text.specs.Digits.{Digit}
use Rattle.text.specs.Reading.{Begins}
use Rattle.input_text.specs.Symbols.{NoSymbol}
use Rattle.input_text.specs.declared.symbols.Symbols.{Symbols}

abbrev pub DigitAt : List ℕ → ℕ → Option ℕ → Type 0
DigitAt bs i (Some d) = (i < length bs) × (d < 10) × (slice_index bs i ≡ 48 + d)
DigitAt bs i None = i < length bs → Digit (slice_index bs i) → ⊥

-- the place behind a digit, where one is taken
abbrev pub place_behind : ℕ → Option ℕ → ℕ
place_behind i (Some d) = i + 1
place_behind i None = i

-- the number k is one digit, behind which another can stand only where k is 0
abbrev pub OneDigit : List ℕ → ℕ → ℕ → Type 0
OneDigit bs i k = DigitAt bs i (Some k) × (0 < k → DigitAt bs (i + 1) None)

abbrev pub TwoDigits : List ℕ → ℕ → ℕ → Type 0
TwoDigits bs i k = (10 ≤ k) × DigitAt bs i (Some (k / 10)) × DigitAt bs (i + 1) (Some (k % 10))

abbrev pub NumberAt : List ℕ → ℕ → ℕ → Result ℕ TextFault → Type 0
NumberAt bs i j (Ok k) = (OneDigit bs i k × (j ≡ i + 1)) ⊎ (TwoDigits bs i k × (j ≡ i + 2))
NumberAt bs i j (Err f) = DigitAt bs i None × (f ≡ Malformed i)

abbrev pub SpaceAt : List ℕ → ℕ → ℕ → Result Unit TextFault → Type 0
SpaceAt bs i j (Ok done) = (i < length bs) × (slice_index bs i ≡ 32) × (j ≡ i + 1)
SpaceAt bs i j (Err f) = (i < length bs → slice_index bs i ≢ 32) × (f ≡ Malformed i)

abbrev pub WordAt : List ℕ → ℕ → ℕ → Result Symbols TextFault → Type 0
WordAt bs i j (Ok s) = (i < j) × (j ≤ length bs) × (take (j - i) (drop i bs) ≡ s.bytes.now) × Begins NoSymbol (drop j bs)
WordAt bs i j (Err f) = Begins NoSymbol (drop i bs) × (f ≡ Malformed i)

abbrev pub EndAt : List ℕ → ℕ → Result Unit TextFault → Type 0
EndAt bs i (Ok done) = length bs ≤ i
EndAt bs i (Err f) = (i < length bs) × (f ≡ Malformed i)
