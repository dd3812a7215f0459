-- P of a word does not depend on the bound of `poly`, and P by cases: a short word, a Lyndon word, any other word.
use Rattle.std.proofs.Common.{◌≡◌, ℕ, zero, suc, ◌+◌, ◌<◌, ◌≤◌, true, false, ◌⊎◌, List, [], ◌∷◌, map, length, take, drop, sym, refl, ap, ap₂, ◌∙◌, subst, inl, inr, append-nil, arith, length-append, length-drop, length-take-le, lt-ltb, le-ltb}
use borrow.Author.Tests.{clash}
use Rattle.std.proofs.lemmas.Bool.{cases_Bool, cases_lt}
use Rattle.std.specs.List.{AllByRecursion}
use Rattle.letter_order.specs.Orders.{by_value}
use Rattle.lyndon.specs.Words.{Lyndon, Factors, joined}
use Rattle.lyndon.specs.Factoring.{factors}
use Rattle.lyndon.specs.Listing.{lyndon}
use Rattle.lyndon.specs.Entries.{cut}
use Rattle.lyndon.proofs.Factorization.{factored}
use Rattle.lyndon.proofs.Codes.{by_value_total, says_lyndon, cut_within}
use Rattle.polynomial.specs.Polynomials.{only, product, bracket, poly}

-- ---- one step of poly

pub poly_short : (m : ℕ) (w : List ℕ) → length w < 2 → poly m w ≡ only w
unfolding poly
poly_short zero w h = refl
poly_short (suc m) w h = rw (lt-ltb (length w) 2 h)

pub poly_lyndon : (m : ℕ) (w : List ℕ) → 1 < length w → lyndon w ≡ true →
    poly (suc m) w ≡ bracket (poly m (take (cut w) w)) (poly m (drop (cut w) w))
unfolding poly
poly_lyndon m w h e = rw (le-ltb (length w) 2 h, e)

pub poly_other : (m : ℕ) (w : List ℕ) → 1 < length w → lyndon w ≡ false → poly (suc m) w ≡ product (map (poly m) (factors by_value w))
unfolding poly
poly_other m w h e = rw (le-ltb (length w) 2 h, e)

-- ---- the words that a step leads to are shorter

pub map_same : {A B : Type 0} (f g : A → B) (xs : List A) → AllByRecursion (λ x. f x ≡ g x) xs → map f xs ≡ map g xs
map_same f g [] h = refl
map_same f g (x ∷ xs) h = ap₂ ◌∷◌ h.0 (map_same f g xs h.1)

pub within : (n : ℕ) (fs : List (List ℕ)) → length (joined fs) ≤ n → AllByRecursion (λ f. length f ≤ n) fs
within n [] h = tt
within n (f ∷ fs) h =
    let m = length-append f (joined fs) in
    (omega arith, within n fs (omega arith))

-- the factors of a word that is not Lyndon are shorter than the word
shorter : (n : ℕ) (w : List ℕ) (fs : List (List ℕ)) → Factors by_value w fs → lyndon w ≡ false → length w ≤ suc n →
    AllByRecursion (λ f. length f ≤ n) fs
shorter n w [] F e h = tt
shorter n w (f ∷ []) F e h =
    absurd (clash (sym e ∙ says_lyndon w (subst (Lyndon by_value) (sym (append-nil f) ∙ F.whole) F.lyndon.0)))
shorter n w (f ∷ g ∷ fs) F e h =
    let m : length w ≡ length f + length (joined (g ∷ fs)) = ap length (sym F.whole) ∙ length-append f (joined (g ∷ fs)) in
    let k = length-append g (joined fs) in
    (omega (arith, F.lyndon.1.0.some), within n (g ∷ fs) (omega (arith, F.lyndon.0.some)))

-- ---- every bound that is enough gives the same

-- at words that both bounds allow, they give the same
abbrev Same : ℕ → ℕ → Type 0
Same m n = (w : List ℕ) → length w ≤ m → length w ≤ n → poly m w ≡ poly n w

both : (m n : ℕ) (fs : List (List ℕ)) → Same m n → AllByRecursion (λ f. length f ≤ m) fs → AllByRecursion (λ f. length f ≤ n) fs →
    AllByRecursion (λ f. poly m f ≡ poly n f) fs
both m n [] more h k = tt
both m n (f ∷ fs) more h k = (more f h.0 k.0, both m n fs more h.1 k.1)

pub enough : (m n : ℕ) → Same m n
enough zero n w h k = poly_short zero w (omega arith) ∙ sym (poly_short n w (omega arith))
enough (suc m) zero w h k = poly_short (suc m) w (omega arith) ∙ sym (poly_short zero w (omega arith))
enough (suc m) (suc n) w h k = go (cases_lt (length w) 2) (cases_Bool (lyndon w)) (enough m n)
  where
    go : (length w < 2) ⊎ (2 ≤ length w) → (lyndon w ≡ true) ⊎ (lyndon w ≡ false) → Same m n → poly (suc m) w ≡ poly (suc n) w
    go (inl l) c more = poly_short (suc m) w l ∙ sym (poly_short (suc n) w l)
    go (inr l) (inl e) more =
        let c = cut_within w l in
        let a : length (take (cut w) w) ≡ cut w = length-take-le (cut w) w (omega arith) in
        let b = length-drop (cut w) w in
        poly_lyndon m w l e
        ∙ ap₂ bracket (more (take (cut w) w) (omega arith) (omega arith)) (more (drop (cut w) w) (omega arith) (omega arith))
        ∙ sym (poly_lyndon n w l e)
    go (inr l) (inr e) more =
        let F = factored by_value_total w in
        let fs = factors by_value w in
        poly_other m w l e
        ∙ ap product (map_same (poly m) (poly n) fs (both m n fs more (shorter m w fs F e h) (shorter n w fs F e k)))
        ∙ sym (poly_other n w l e)
