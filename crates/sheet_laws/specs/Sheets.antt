-- Coefficient sheets over k letters: a sheet of length m has the coefficient of each word of m letters, at the code of the word.
use Rattle.std.specs.Prelude.{ℕ, ◌^◌, List, map, take, drop, slice_index_or}
use Rattle.std.specs.List.{range_with_len}
use Rattle.ring_laws.specs.Rings.{Operations}
use Rattle.lyndon.specs.Codes.{code, spelled}

-- the sheet of length m with these coefficients
abbrev pub sheet_of : {A : Type 0} → ℕ → ℕ → (List ℕ → A) → List A
sheet_of k m f = map (λ c. f (spelled k m c)) (range_with_len 0 (k ^ m))

module _ {A : Type 0} (ring : Operations A) (k : ℕ) where
  -- the coefficient of a word in a sheet
  abbrev pub coefficient : List A → List ℕ → A
  coefficient sheet u = slice_index_or sheet (code k u) ring.zero

  -- xy, where x has length a: what x has at the front, times what y has behind it
  abbrev pub times : ℕ → List A → List A → List ℕ → A
  times a x y u = ring.times (coefficient x (take a u)) (coefficient y (drop a u))

  -- xy - yx, where x has length a and y has length b
  abbrev pub bracket : ℕ → ℕ → List A → List A → List ℕ → A
  bracket a b x y u = ring.plus (times a x y u) (ring.negative (times b y x u))
