-- Words as they stand in a line.
use Rattle.std.specs.Prelude.{◌≡◌, ℕ, ◌<◌, false, List, map, length, take, drop, Some, None, Option}
use Rattle.text.specs.Reading.{Begins}
use Rattle.text.specs.Symbols.{letter, is_symbol}
use Rattle.input_text.specs.declared.symbols.Symbols.{Symbols}

-- the letters of the word
abbrev pub letters_of : Symbols → List ℕ
letters_of s = map letter s.bytes.now

abbrev pub NoSymbol : ℕ → Type 0
NoSymbol c = is_symbol c ≡ false

-- all symbols with which a text begins, if it does
abbrev pub Leading : List ℕ → Option Symbols → Type 0
Leading bs (Some s) =
    (0 < length s.bytes.now) × (take (length s.bytes.now) bs ≡ s.bytes.now) × Begins NoSymbol (drop (length s.bytes.now) bs)
Leading bs None = Begins NoSymbol bs
