-- The coordinates of a sheet: how often each P(w) is to be taken for the sheet to be their sum.
use Rattle.std.specs.Prelude.{◌≡◌, ℕ, zero, suc, ◌^◌, ◌≤◌, List, length, slice_index_or}
use Rattle.ring_laws.specs.Rings.{Operations}
use Rattle.lyndon.specs.Codes.{spelled}
use Rattle.polynomial.specs.Polynomials.{P}
use Rattle.sheet_laws.specs.Sheets.{sheet_of}

-- f 0 + .. + f (n - 1)
abbrev pub sum : {A : Type 0} → Operations A → ℕ → (ℕ → A) → A
sum ring zero f = ring.zero
sum ring (suc n) f = ring.plus (sum ring n f) (f n)

-- the sum of all c(w) × P(w), over the words w of m letters below k, where c(w) stands at the code of w
abbrev pub combined : {A : Type 0} → Operations A → ℕ → ℕ → List A → List A
combined ring k m c =
    sheet_of k m (λ u. sum ring (k ^ m) (λ w. ring.times (slice_index_or c w ring.zero) (ring.image (P (spelled k m w) u))))

-- c are coordinates of the sheet
abbrev pub Coordinates : {A : Type 0} → Operations A → ℕ → ℕ → List A → List A → Type 0
Coordinates ring k m sheet c = (length c ≡ k ^ m) × (combined ring k m c ≡ sheet)

-- the sheet has exactly one set of coordinates
pub record OneSet {A : Type 0} (ring : Operations A) (k m : ℕ) (sheet : List A) : Type 0 where
  pub exists : (c : List A) × Coordinates ring k m sheet c
  pub only : (c d : List A) → Coordinates ring k m sheet c → Coordinates ring k m sheet d → c ≡ d

-- every sheet of a length of at most 12 has exactly one set of coordinates
unfoldable pub EverySheet : {A : Type 0} → Operations A → Type 0
EverySheet {A} ring = (k m : ℕ) → 1 ≤ k → m ≤ 12 → (sheet : List A) → length sheet ≡ k ^ m → OneSet ring k m sheet
