-- P at one word, from P of the parts: what code that computes P goes by.
use Rattle.std.proofs.Common.{◌≡◌, ◌≢◌, ℕ, suc, ◌+◌, ◌-◌, ◌*◌, ◌^◌, ◌<◌, ◌≤◌, Less, Equal, Greater, Ordering, cond, is_eq, List, [], ◌∷◌, length, take, drop, ℤ, pos, ◌-ℤ◌, ◌*ℤ◌, unsigned_abs, sym, ap, ap₂, ◌∙◌, inl, inr, arith, pow-suc, pow-add, mul-le-mul, add_comm, length-append}
use native.Mathlib.Nat.{one-le-pow}
use Rattle.std.proofs.lemmas.Bool.{cases_eq}
use Rattle.std.proofs.lemmas.Int.{ints, unsigned_abs-mul}
use Rattle.letter_order.specs.Orders.{by_value}
use Rattle.lyndon.specs.Words.{dictionary, Lyndon, Factors, Split, joined}
use Rattle.polynomial.specs.Polynomials.{only, P}
use Rattle.polynomial.proofs.Products.{times_cut}
use Rattle.polynomial.proofs.Steps.{poly_short}
use Rattle.polynomial.proofs.Rules.{P_lyndon, P_first, by_parts}
use Rattle.polynomial.proofs.Leading.{leads}

pub P_short : (w : List ℕ) → length w < 2 → P w ≡ only w
P_short w h = poly_short (length w) w h

pub P_size : (w u : List ℕ) → length u ≢ length w → P w u ≡ pos 0
P_size w u h = (leads w).size u h

-- ---- at the parts

pub P_bracket_at : (w l r u : List ℕ) → Lyndon by_value w → Split by_value w l r → length u ≡ length w
    → P w u ≡ P l (take (length l) u) *ℤ P r (drop (length l) u) -ℤ P r (take (length r) u) *ℤ P l (drop (length r) u)
P_bracket_at w l r u L S e =
    let k : length w ≡ length l + length r = ap length S.whole ∙ length-append l r in
    ap (λ x. x u) (P_lyndon w l r L S)
    ∙ ap₂ ◌-ℤ◌ (times_cut (P l) (P r) (length l) u (P_size l) (omega arith)) (times_cut (P r) (P l) (length r) u (P_size r) (omega arith))

pub P_product_at : (w f : List ℕ) (fs : List (List ℕ)) (u : List ℕ) → Factors by_value w (f ∷ fs) → length u ≡ length w
    → P w u ≡ P f (take (length f) u) *ℤ P (joined fs) (drop (length f) u)
P_product_at w f fs u F e =
    let k : length w ≡ length f + length (joined fs) = ap length (sym F.whole) ∙ length-append f (joined fs) in
    ap (λ x. x u) (P_first w f fs F) ∙ times_cut (P f) (P (joined fs)) (length f) u (P_size f) (omega arith)

-- ---- the bound

-- a and b letters make a product within half of the bound
half_bound : (a b : ℕ) (x y : ℤ) → 0 < a → 0 < b → unsigned_abs x ≤ 2 ^ (a - 1) → unsigned_abs y ≤ 2 ^ (b - 1) →
    2 * unsigned_abs (x *ℤ y) ≤ 2 ^ (a + b - 1)
half_bound a b x y ha hb hx hy =
    let e : a + b - 1 ≡ suc ((a - 1) + (b - 1)) = omega arith in
    rw (unsigned_abs-mul x y, e, pow-suc, pow-add) (omega (arith, mul-le-mul hx hy))

abbrev Bounded : List ℕ → Type 0
Bounded w = (u : List ℕ) → unsigned_abs (P w u) ≤ 2 ^ (length w - 1)

pub P_bound : (w u : List ℕ) → unsigned_abs (P w u) ≤ 2 ^ (length w - 1)
P_bound = by_parts Bounded (short [] (omega arith)) (λ a. short (a ∷ []) (omega arith)) two more
  where
    small : (c : Ordering) → unsigned_abs (cond (is_eq c) (pos 1) (pos 0)) ≤ 1
    small Less = omega arith
    small Equal = omega arith
    small Greater = omega arith

    short : (w : List ℕ) → length w < 2 → Bounded w
    short w h u = rw (P_short w h) (omega (arith, small (dictionary by_value w u), one-le-pow (length w - 1) 2))

    at_size : (w : List ℕ) → ((u : List ℕ) → length u ≡ length w → unsigned_abs (P w u) ≤ 2 ^ (length w - 1)) → Bounded w
    at_size w h u = elim (cases_eq (length u) (length w)) [ inl e ↦ h u e | inr n ↦ rw (P_size w u n) (omega arith) ]

    difference : (x y : ℤ) (n : ℕ) → 2 * unsigned_abs x ≤ n → 2 * unsigned_abs y ≤ n → unsigned_abs (x -ℤ y) ≤ n
    difference x y n h k = omega (arith, ints)

    two : (w l r : List ℕ) → Lyndon by_value w → Split by_value w l r → Bounded l → Bounded r → Bounded w
    two w l r L S X Y = at_size w (λ u e.
        let m : length w ≡ length l + length r = ap length S.whole ∙ length-append l r in
        let x = P l (take (length l) u) *ℤ P r (drop (length l) u) in
        let y = P r (take (length r) u) *ℤ P l (drop (length r) u) in
        let first = half_bound (length l) (length r) (P l (take (length l) u)) (P r (drop (length l) u)) S.proper S.lyndon.some (X _) (Y _) in
        let second = half_bound (length r) (length l) (P r (take (length r) u)) (P l (drop (length r) u)) S.lyndon.some S.proper (Y _) (X _) in
        let b = difference x y (2 ^ (length l + length r - 1)) first (rw (add_comm (length r) (length l)) at second) in
        rw (P_bracket_at w l r u L S e, m) b)

    more : (w f : List ℕ) (fs : List (List ℕ)) → Factors by_value w (f ∷ fs) → 0 < length (joined fs) → Bounded f → Bounded (joined fs) → Bounded w
    more w f fs F p X Y = at_size w (λ u e.
        let m : length w ≡ length f + length (joined fs) = ap length (sym F.whole) ∙ length-append f (joined fs) in
        let b = half_bound (length f) (length (joined fs)) (P f (take (length f) u)) (P (joined fs) (drop (length f) u)) F.lyndon.0.some p (X _) (Y _) in
        rw (P_product_at w f fs u F e, m) (omega (arith, b)))

pub product_bound : (l p r q : List ℕ) → 0 < length l → 0 < length r → 2 * unsigned_abs (P l p *ℤ P r q) ≤ 2 ^ (length l + length r - 1)
product_bound l p r q hl hr = half_bound (length l) (length r) (P l p) (P r q) hl hr (P_bound l p) (P_bound r q)
