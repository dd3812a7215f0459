-- P at a word, from P of the two parts.
use Rattle.std.proofs.Common.{◌≡◌, ◌≢◌, ℕ, ◌+◌, ◌-◌, ◌^◌, ◌<◌, ◌≤◌, true, false, List, length, take, drop, ℤ, pos, ◌-ℤ◌, ◌*ℤ◌, unsigned_abs, FitsSigned, sym, ap, ap₂, ◌∙◌, arith}
use Rattle.std.proofs.Math.Nat.{pow-le-pow_right}
use Rattle.std.proofs.lemmas.Int.{ints, to_z-of_z, fits_signed_from_abs}
use lib.Pointwise.{pointwise}
use Rattle.std.specs.Cmp.Lexicographic.{same_text, other_text}
use Rattle.std.specs.Prelude.{nat_eq}
use mir.Syntax.{w16}
use mir.Val.{to_z, of_z}
use Rattle.polynomial.specs.Polynomials.{P, only}
use Rattle.polynomial.proofs.Parts.{P_size, P_short, P_bound, P_bracket_at, P_product_at, product_bound}
use Rattle.polynomial.proofs.Leading.{only_itself, only_other}
use Rattle.bracket.specs.Cuts.{product_at, SplitCut, FirstCut}

-- a small number in sixteen bits
small : (z : ℤ) → unsigned_abs z ≤ 2048 → to_z w16 (of_z w16 z) ≡ z
small z h = to_z-of_z w16 z (fits_signed_from_abs w16 z (omega arith))

pub other_size : (w u : List ℕ) → length w ≢ length u → pos 0 ≡ P w u
other_size w u h = sym (P_size w u (λ e. h (sym e)))

pub bound : (w u : List ℕ) (x : ℤ) → x ≡ P w u → length w ≤ 12 → unsigned_abs x ≤ 2048
bound w u x e h =
    let top : 2 ^ (length w - 1) ≤ 2 ^ 11 = pow-le-pow_right (omega arith) {j = 11} (omega arith) in
    rw e (omega (arith, P_bound w u))

-- the parts of a word have at most as many letters
parts_small : (l p r q : List ℕ) → 0 < length l → 0 < length r → length l + length r ≤ 12 → unsigned_abs (P l p *ℤ P r q) ≤ 1024
parts_small l p r q a b h =
    let top : 2 ^ (length l + length r - 1) ≤ 2 ^ 11 = pow-le-pow_right (omega arith) {j = 11} (omega arith) in
    omega (arith, product_bound l p r q a b)

pub split_value : (w l r u : List ℕ) → SplitCut w l r → length u ≡ length w
    → P w u ≡ P l (take (length l) u) *ℤ P r (drop (length l) u) -ℤ P r (take (length r) u) *ℤ P l (drop (length r) u)
split_value w l r u C e = P_bracket_at w l r u C.0 C.1 e

pub first_value : (w f r u : List ℕ) → FirstCut w f r → length u ≡ length w → P w u ≡ P f (take (length f) u) *ℤ P r (drop (length f) u)
first_value w f r u C e = P_product_at w f C.0 u C.1 e ∙ ap (λ v. P f (take (length f) u) *ℤ P v (drop (length f) u)) (sym C.2)

-- ---- as the code has them

abbrev pub bits : ℤ → ℤ
bits z = to_z w16 (of_z w16 z)

pub only_same : (w u : List ℕ) → true ≡ pointwise nat_eq w u → pos 1 ≡ only w u
only_same w u h = sym (only_itself w u (same_text w u h))

pub only_apart : (w u : List ℕ) → false ≡ pointwise nat_eq w u → pos 0 ≡ only w u
only_apart w u h = sym (only_other w u (other_text w u h))

pub single : (w u : List ℕ) (z : ℤ) → length w < 2 → z ≡ only w u → length w ≤ 12 → bits z ≡ P w u
single w u z h e k = let v : z ≡ P w u = e ∙ ap (λ x. x u) (sym (P_short w h)) in small z (bound w u z v k) ∙ v

product_bits : (l r p q : List ℕ) (x y : ℤ) → x ≡ P l p → y ≡ P r q → 0 < length l → 0 < length r → length l + length r ≤ 12 → bits x *ℤ bits y ≡ P l p *ℤ P r q
product_bits l r p q x y d e a b h = ap₂ ◌*ℤ◌ (small x (bound l p x d (omega arith)) ∙ d) (small y (bound r q y e (omega arith)) ∙ e)

pub product_fits : (l r p q : List ℕ) (x y : ℤ) → x ≡ P l p → y ≡ P r q → 0 < length l → 0 < length r → length l + length r ≤ 12 → FitsSigned w16 (bits x *ℤ bits y)
product_fits l r p q x y d e a b h = rw (product_bits l r p q x y d e a b h) (fits_signed_from_abs w16 (P l p *ℤ P r q) (omega (arith, parts_small l p r q a b h)))

pub product_value : (l r u p q : List ℕ) (x y : ℤ) → x ≡ P l p → y ≡ P r q → p ≡ take (length l) u → q ≡ drop (length l) u
    → 0 < length l → 0 < length r → length l + length r ≤ 12 → bits (bits x *ℤ bits y) ≡ product_at l r u
product_value l r u p q x y d e hp hq a b h =
    ap bits (product_bits l r p q x y d e a b h) ∙ small (P l p *ℤ P r q) (omega (arith, parts_small l p r q a b h)) ∙ ap₂ (λ v w. P l v *ℤ P r w) hp hq

pub product_small : (l r p q : List ℕ) (x y : ℤ) → x ≡ P l p → y ≡ P r q → 0 < length l → 0 < length r → length l + length r ≤ 12 → unsigned_abs (bits (bits x *ℤ bits y)) ≤ 1024
product_small l r p q x y d e a b h =
    rw (product_bits l r p q x y d e a b h, small (P l p *ℤ P r q) (omega (arith, parts_small l p r q a b h))) (parts_small l p r q a b h)

pub first_code : (w f r u : List ℕ) (z : ℤ) → FirstCut w f r → z ≡ product_at f r u → length w ≡ length u → length w ≤ 12 → bits z ≡ P w u
first_code w f r u z C e n h = let v : z ≡ P w u = e ∙ sym (first_value w f r u C (sym n)) in small z (bound w u z v h) ∙ v

pub difference_fits : (y z : ℤ) → unsigned_abs y ≤ 1024 → unsigned_abs z ≤ 1024 → FitsSigned w16 (bits y -ℤ bits z)
difference_fits y z a b = rw (small y (omega arith), small z (omega arith)) (omega (arith, ints))

difference_bound : (y z : ℤ) → unsigned_abs y ≤ 1024 → unsigned_abs z ≤ 1024 → unsigned_abs (y -ℤ z) ≤ 2048
difference_bound y z a b = omega (arith, ints)

difference_bits : (y z : ℤ) → unsigned_abs y ≤ 1024 → unsigned_abs z ≤ 1024 → bits (bits y -ℤ bits z) ≡ y -ℤ z
difference_bits y z a b = ap bits (ap₂ ◌-ℤ◌ (small y (omega arith)) (small z (omega arith))) ∙ small (y -ℤ z) (difference_bound y z a b)

pub difference_small : (y z : ℤ) → unsigned_abs y ≤ 1024 → unsigned_abs z ≤ 1024 → unsigned_abs (bits (bits y -ℤ bits z)) ≤ 2048
difference_small y z a b = rw (difference_bits y z a b) (difference_bound y z a b)

pub split_code : (w l r u : List ℕ) (y z : ℤ) → SplitCut w l r → y ≡ product_at l r u → z ≡ product_at r l u → length w ≡ length u
    → unsigned_abs y ≤ 1024 → unsigned_abs z ≤ 1024 → bits (bits y -ℤ bits z) ≡ P w u
split_code w l r u y z C hy hz n a b = difference_bits y z a b ∙ ap₂ ◌-ℤ◌ hy hz ∙ sym (split_value w l r u C (sym n))
