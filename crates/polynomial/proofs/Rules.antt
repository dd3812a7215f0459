-- What decides P: a Lyndon word by its split, any word by its factors; and induction along these parts.
use Rattle.std.proofs.Common.{◌≡◌, ℕ, zero, suc, ◌+◌, ◌<◌, ◌≤◌, true, false, ◌⊎◌, List, [], ◌∷◌, map, length, take, drop, sym, refl, ap, ap₂, ◌∙◌, subst, inl, inr, append-nil, arith, length-append, length-drop, length-take-le}
use borrow.Author.Tests.{clash}
use Rattle.std.proofs.lemmas.Bool.{cases_Bool, cases_lt}
use Rattle.std.specs.List.{AllByRecursion}
use Rattle.letter_order.specs.Orders.{by_value}
use Rattle.lyndon.specs.Words.{Lyndon, Factors, Split, joined}
use Rattle.lyndon.specs.Factoring.{factors}
use Rattle.lyndon.specs.Listing.{lyndon}
use Rattle.lyndon.specs.Entries.{cut}
use Rattle.lyndon.proofs.LyndonWords.{single}
use Rattle.lyndon.proofs.Factorization.{factored, only as only_factors, falling_tail}
use Rattle.lyndon.proofs.Theorems.{split_once}
use Rattle.lyndon.proofs.Codes.{by_value_total, lyndon_says, says_lyndon, cut_splits, cut_within}
use Rattle.polynomial.specs.Polynomials.{times, product, bracket, poly, P}
use Rattle.polynomial.proofs.Products.{times_unit}
use Rattle.polynomial.proofs.Steps.{poly_short, poly_lyndon, poly_other, map_same, within, enough}

-- ---- a Lyndon word

lyndon_cut : (w : List ℕ) → 1 < length w → lyndon w ≡ true → P w ≡ bracket (P (take (cut w) w)) (P (drop (cut w) w))
lyndon_cut w h e =
    let n = length w in
    let a : length (take (cut w) w) ≡ cut w = length-take-le (cut w) w (omega (arith, cut_within w h)) in
    let b = length-drop (cut w) w in
    let left = enough n (length (take (cut w) w)) (take (cut w) w) (omega (arith, cut_within w h)) (omega arith) in
    let right = enough n (length (drop (cut w) w)) (drop (cut w) w) (omega arith) (omega arith) in
    enough n (suc n) w (omega arith) (omega arith) ∙ poly_lyndon n w h e ∙ ap₂ bracket left right

split_size : (w l r : List ℕ) → Split by_value w l r → (length w ≡ length l + length r) × (0 < length l) × (0 < length r)
split_size w l r S = (ap length S.whole ∙ length-append l r, S.proper, S.lyndon.some)

pub P_lyndon : (w l r : List ℕ) → Lyndon by_value w → Split by_value w l r → P w ≡ bracket (P l) (P r)
P_lyndon w l r L S =
    let h : 1 < length w = omega (arith, split_size w l r S) in
    let s = split_once by_value_total w l r (take (cut w) w) (drop (cut w) w) S (cut_splits w h) in
    lyndon_cut w h (says_lyndon w L) ∙ ap₂ (λ x y. bracket (P x) (P y)) s.0 s.1

-- ---- any word

other : (w : List ℕ) → 1 < length w → lyndon w ≡ false → P w ≡ product (map P (factors by_value w))
other w h e =
    let n = length w in
    let fs = factors by_value w in
    let k = within n fs (omega (arith, ap length (factored by_value_total w).whole)) in
    enough n (suc n) w (omega arith) (omega arith) ∙ poly_other n w h e ∙ ap product (map_same (poly n) P fs (all fs k))
  where
    all : (fs : List (List ℕ)) → AllByRecursion (λ f. length f ≤ length w) fs → AllByRecursion (λ f. poly (length w) f ≡ P f) fs
    all [] k = tt
    all (f ∷ fs) k = (enough (length w) (length f) f k.0 (omega arith), all fs k.1)

single_factor : (w : List ℕ) → Lyndon by_value w → w ∷ [] ≡ factors by_value w
single_factor w L = only_factors by_value_total w (w ∷ []) (record { whole = append-nil w; lyndon = (L, tt); falls = tt })

P_own : (w : List ℕ) → P w ≡ product (map P (factors by_value w))
P_own w = go (cases_Bool (lyndon w)) (cases_lt (length w) 2)
  where
    short : (v : List ℕ) → length v < 2 → lyndon v ≡ false → P v ≡ product (map P (factors by_value v))
    short [] h e = poly_short 0 [] (omega arith)
    short (x ∷ []) h e = absurd (clash (sym e ∙ says_lyndon (x ∷ []) (single by_value_total x)))
    short (x ∷ y ∷ v) h e = absurd (omega arith)

    go : (lyndon w ≡ true) ⊎ (lyndon w ≡ false) → (length w < 2) ⊎ (2 ≤ length w) → P w ≡ product (map P (factors by_value w))
    go (inl e) c = sym (times_unit (P w)) ∙ ap (λ fs. product (map P fs)) (single_factor w (lyndon_says w e))
    go (inr e) (inl h) = short w h e
    go (inr e) (inr h) = other w h e

pub P_factors : (w : List ℕ) (fs : List (List ℕ)) → Factors by_value w fs → P w ≡ product (map P fs)
P_factors w fs F = P_own w ∙ ap (λ gs. product (map P gs)) (sym (only_factors by_value_total w fs F))

tail_factors : (w f : List ℕ) (fs : List (List ℕ)) → Factors by_value w (f ∷ fs) → Factors by_value (joined fs) fs
tail_factors w f fs F = record { whole = refl; lyndon = F.lyndon.1; falls = falling_tail by_value_total f fs F.falls }

-- the first factor, and the rest
pub P_first : (w f : List ℕ) (fs : List (List ℕ)) → Factors by_value w (f ∷ fs) → P w ≡ times (P f) (P (joined fs))
P_first w f fs F = P_factors w (f ∷ fs) F ∙ ap (times (P f)) (sym (P_factors (joined fs) fs (tail_factors w f fs F)))

-- ---- induction along the parts

pub by_parts : (C : List ℕ → Type 0) → C [] → ((a : ℕ) → C (a ∷ []))
    → ((w l r : List ℕ) → Lyndon by_value w → Split by_value w l r → C l → C r → C w)
    → ((w f : List ℕ) (fs : List (List ℕ)) → Factors by_value w (f ∷ fs) → 0 < length (joined fs) → C f → C (joined fs) → C w)
    → (w : List ℕ) → C w
by_parts C none one two more w = upto (length w) w (omega arith)
  where
    upto : (n : ℕ) (w : List ℕ) → length w ≤ n → C w
    upto n [] h = none
    upto n (a ∷ []) h = one a
    upto zero (a ∷ b ∷ v) h = absurd (omega arith)
    upto (suc n) (a ∷ b ∷ v) h = go (factors by_value (a ∷ b ∷ v)) (factored by_value_total (a ∷ b ∷ v)) (λ x k. upto n x k)
      where
        split : (l r : List ℕ) → Lyndon by_value (a ∷ b ∷ v) → Split by_value (a ∷ b ∷ v) l r → ((x : List ℕ) → length x ≤ n → C x) →
            C (a ∷ b ∷ v)
        split l r L S rec =
            let m = split_size (a ∷ b ∷ v) l r S in
            two (a ∷ b ∷ v) l r L S (rec l (omega arith)) (rec r (omega arith))

        go : (fs : List (List ℕ)) → Factors by_value (a ∷ b ∷ v) fs → ((x : List ℕ) → length x ≤ n → C x) → C (a ∷ b ∷ v)
        go [] F rec = absurd (omega (arith, ap length F.whole))
        go (f ∷ []) F rec = split _ _ (subst (Lyndon by_value) (sym (append-nil f) ∙ F.whole) F.lyndon.0) (cut_splits (a ∷ b ∷ v) (omega arith)) rec
        go (f ∷ g ∷ fs) F rec =
            let m = ap length F.whole in
            let k = length-append f (joined (g ∷ fs)) in
            let p : 0 < length (joined (g ∷ fs)) = omega (arith, F.lyndon.1.0.some, length-append g (joined fs)) in
            more (a ∷ b ∷ v) f (g ∷ fs) F p (rec f (omega arith)) (rec (joined (g ∷ fs)) (omega (arith, F.lyndon.0.some)))
