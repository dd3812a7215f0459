-- P of words of a shape, as sums of terms.
use Rattle.std.specs.Prelude.{◌≡◌, ℕ, ◌+◌, ◌-◌, ◌^◌, ◌≤◌, List, length}
use Rattle.coded_word.specs.declared.shape.Shape.{Shape}
use Rattle.lyndon.specs.Codes.{Over}
use Rattle.sheet_laws.specs.Terms.{SumsTo}
use Rattle.sheet.specs.declared.sum.Sum.{Sum}

-- w is a word of the shape, or empty
abbrev pub InShape : Shape → List ℕ → Type 0
InShape s w = Over s.k w × (length w ≤ s.n)

-- P of w over k letters is the sum
abbrev pub Expands : ℕ → List ℕ → Sum → Type 0
Expands k w sum = (sum.words ≡ k ^ length w) × SumsTo k w sum.terms.now

-- the memory that P of a word of m letters takes, with P of its parts
unfoldable pub room_for : ℕ → ℕ
room_for m = 2 ^ m + m - 2
