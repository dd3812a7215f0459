-- Polynomials in letters that do not commute, each by the coefficients of its words, and P of every word.
use Rattle.std.specs.Prelude.{ℕ, zero, suc, cond, List, [], ◌∷◌, map, length, take, drop, nat_lt, ℤ, pos, ◌+ℤ◌, ◌-ℤ◌, ◌*ℤ◌}
use Rattle.std.specs.Ordering.{is_eq}
use Rattle.letter_order.specs.Orders.{by_value}
use Rattle.lyndon.specs.Words.{dictionary}
use Rattle.lyndon.specs.Factoring.{factors}
use Rattle.lyndon.specs.Listing.{lyndon}
use Rattle.lyndon.specs.Entries.{cut}

-- the polynomial of a single word
abbrev pub only : List ℕ → List ℕ → ℤ
only w u = cond (is_eq (dictionary by_value w u)) (pos 1) (pos 0)

-- the product: the sum of x p times y q over all ways to cut the word into p and q
abbrev pub times : (List ℕ → ℤ) → (List ℕ → ℤ) → List ℕ → ℤ
times x y [] = x [] *ℤ y []
times x y (a ∷ u) = x [] *ℤ y (a ∷ u) +ℤ times (λ p. x (a ∷ p)) y u

abbrev pub product : List (List ℕ → ℤ) → List ℕ → ℤ
product [] = only []
product (x ∷ xs) = times x (product xs)

-- xy - yx
abbrev pub bracket : (List ℕ → ℤ) → (List ℕ → ℤ) → List ℕ → ℤ
bracket x y u = times x y u -ℤ times y x u

-- P of a word of at most m letters: the empty word and a letter are themselves; a longer Lyndon word goes by its split,
-- any other word by its factors
unfoldable pub poly : ℕ → List ℕ → List ℕ → ℤ
poly zero w = only w
poly (suc m) w =
    cond (nat_lt (length w) 2) (only w)
    (cond (lyndon w) (bracket (poly m (take (cut w) w)) (poly m (drop (cut w) w)))
    (product (map (poly m) (factors by_value w))))

-- the coefficient of u in P of w
abbrev pub P : List ℕ → List ℕ → ℤ
P w = poly (length w) w
