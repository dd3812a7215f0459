-- Sheets by their coefficients.
use Rattle.std.proofs.Common.{◌≡◌, ℕ, ◌^◌, ◌<◌, List, length, get_or, sym, ap, arith}
use Rattle.std.proofs.lemmas.List.FromFn.{length-map-range_with_len, get_or-map-range_with_len, fill_by_all}
use Rattle.ring_laws.specs.Rings.{Operations}
use Rattle.lyndon.specs.Codes.{spelled}
use Rattle.lyndon.proofs.Codes.{code-spelled}
use Rattle.sheet_laws.specs.Sheets.{sheet_of, coefficient}

module _ {A : Type 0} (k m : ℕ) (f : List ℕ → A) where
  pub length-sheet_of : length (sheet_of k m f) ≡ k ^ m
  length-sheet_of = length-map-range_with_len (λ c. f (spelled k m c)) 0 (k ^ m)

  pub sheet_at : (c : ℕ) (d : A) → c < k ^ m → get_or (sheet_of k m f) c d ≡ f (spelled k m c)
  sheet_at c d h = get_or-map-range_with_len (λ c. f (spelled k m c)) 0 (k ^ m) c c d h (omega arith)

  -- a list with these values is the sheet
  pub is_sheet : (xs : List A) (d : A) → length xs ≡ k ^ m → ((c : ℕ) → c < k ^ m → get_or xs c d ≡ f (spelled k m c)) → xs ≡ sheet_of k m f
  is_sheet xs d n h = fill_by_all (λ c. f (spelled k m c)) xs (k ^ m) d n h

-- a list is the sheet of its own coefficients
pub own_sheet : {A : Type 0} (ring : Operations A) (k m : ℕ) (x : List A) → 0 < k → length x ≡ k ^ m → x ≡ sheet_of k m (coefficient ring k x)
own_sheet ring k m x some n =
    is_sheet k m (coefficient ring k x) x ring.zero n (λ c h. ap (λ z. get_or x z ring.zero) (sym (code-spelled k m c some h)))
