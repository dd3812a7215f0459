-- Sums of multiples of the brackets of entries. The bracket of an entry is P of its word.
use Rattle.std.specs.Prelude.{◌≡◌, ℕ, List, [], ◌∷◌, length, filter, ◌==◌}
use Rattle.ring_laws.specs.Rings.{Operations}
use Rattle.letter_order.specs.Orders.{by_value}
use Rattle.lyndon.specs.declared.entry.Entry.{Entry}
use Rattle.lyndon.specs.Words.{Lyndon}
use Rattle.lyndon.specs.Codes.{Over}
use Rattle.lyndon.specs.Entries.{word}
use Rattle.polynomial.specs.Polynomials.{P}
use Rattle.sheet_laws.specs.Sheets.{sheet_of, coefficient}

-- the entries whose words have m letters
abbrev pub of_length : ℕ → List Entry → List Entry
of_length m es = filter (λ e. e.length == m) es

module _ {A : Type 0} (ring : Operations A) (k m : ℕ) where
  -- the coefficient of u where value × bracket is added up, with one value for each of these entries
  abbrev pub multiples : List A → List Entry → List ℕ → A
  multiples (x ∷ xs) (e ∷ es) u = ring.plus (ring.times x (ring.image (P (word k e) u))) (multiples xs es u)
  multiples (x ∷ xs) [] u = ring.zero
  multiples [] es u = ring.zero

  -- the sheet of length m is a sum of multiples of the brackets of those of the entries that have m letters; where none
  -- has, it has zeros only
  unfoldable pub SumOfBrackets : List Entry → List A → Type 0
  SumOfBrackets es sheet =
      (values : List A) × (length values ≡ length (of_length m es)) × (sheet ≡ sheet_of k m (multiples values (of_length m es)))

  -- each coordinate at a word that is not Lyndon is zero
  unfoldable pub OnlyLyndon : List A → Type 0
  OnlyLyndon c = (w : List ℕ) → Over k w → length w ≡ m → (Lyndon by_value w → ⊥) → coefficient ring k c w ≡ ring.zero
