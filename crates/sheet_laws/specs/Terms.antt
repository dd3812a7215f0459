-- Sums of words with signs, and P of a word as such a sum.
use Rattle.std.specs.Prelude.{◌≡◌, ℕ, ◌+◌, ◌-◌, ◌*◌, ◌^◌, ◌<◌, ◌≤◌, Bool, cond, List, [], ◌∷◌, map, length, ◌==◌, slice_index_or, slice_set, ℤ, pos, negsuc, ◌+ℤ◌}
use Rattle.std.specs.List.{All, flat_map}
use Rattle.ring_laws.specs.Rings.{Operations}
use Rattle.ring_laws.specs.Bits.{differ}
use Rattle.lyndon.specs.Codes.{spelled}
use Rattle.polynomial.specs.Polynomials.{P}
use Rattle.sheet_laws.specs.declared.term.Term.{Term}
use Rattle.sheet_laws.specs.Sheets.{sheet_of, coefficient}

abbrev pub sign : Bool → ℤ
sign negative = cond negative (negsuc 0) (pos 1)

-- the coefficient of the word with the code c in the sum
abbrev pub weight : List Term → ℕ → ℤ
weight [] c = pos 0
weight (t ∷ ts) c = cond (t.code == c) (sign t.negative) (pos 0) +ℤ weight ts c

-- x with y behind it, where there are n words as long as y; or the opposite of that
abbrev pub followed : ℕ → Bool → Term → Term → Term
followed n opposite x y = record { code = x.code * n + y.code; negative = differ opposite (differ x.negative y.negative) }

-- each of xs with each of ys behind it, or their opposites
abbrev pub products : ℕ → Bool → List Term → List Term → List Term
products n opposite xs ys = flat_map (λ x. map (followed n opposite x) ys) xs

abbrev pub Below : ℕ → List Term → Type 0
Below n ts = All (λ t. t.code < n) ts

-- P of w over k letters is the sum of the terms
pub record SumsTo (k : ℕ) (w : List ℕ) (ts : List Term) : Type 0 where
  pub below : Below (k ^ length w) ts
  pub few : length ts ≤ 2 ^ (length w - 1)
  pub weights : (c : ℕ) → c < k ^ length w → weight ts c ≡ P w (spelled k (length w) c)

module _ {A : Type 0} (ring : Operations A) where
  abbrev pub signed : A → Bool → A
  signed c negative = cond negative (ring.negative c) c

  -- a sheet, with c times each term added
  abbrev pub added : A → List Term → List A → List A
  added c [] s = s
  added c (t ∷ ts) s = added c ts (slice_set s t.code (ring.plus (slice_index_or s t.code ring.zero) (signed c t.negative)))

  -- a sheet, with c times P of w added
  unfoldable pub raised : ℕ → List ℕ → A → List A → List A
  raised k w c s = sheet_of k (length w) (λ u. ring.plus (coefficient ring k s u) (ring.times c (ring.image (P w u))))
