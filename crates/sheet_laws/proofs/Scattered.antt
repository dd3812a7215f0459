-- Values that stand at some of the places below n, zero at the others, and what they add up to.
use Rattle.std.proofs.Common.{◌≡◌, ℕ, zero, suc, ◌<◌, cond, eqb, ◌⊎◌, List, [], ◌∷◌, map, refl, sym, ap, ap₂, ◌∙◌, inl, inr, arith}
use Rattle.std.specs.List.{AllByRecursion}
use Rattle.std.proofs.lemmas.Bool.{cases_eq, eq-eqb, ne_eqb}
use Rattle.ring_laws.specs.Rings.{Operations, CommutativeRing}
use Rattle.ring_laws.proofs.Basics.{zero_plus, zero_times, plus_times}
use Rattle.ring_laws.proofs.Solve.{var, ◌⊕◌, solve}
use Rattle.lyndon.specs.Listing.{In, Rising}
use Rattle.lyndon.proofs.Rises.{in_all}
use Rattle.sheet_laws.specs.Coordinates.{sum}
use Rattle.sheet_laws.proofs.Triangles.{sum_same, sum_short}

module _ {A : Type 0} (ring : Operations A) where
  -- x at the place q
  abbrev single : A → ℕ → ℕ → A
  single x q p = cond (eqb q p) x ring.zero

  -- each of the values xs at its place of qs
  abbrev pub scattered : List A → List ℕ → ℕ → A
  scattered (x ∷ xs) (q ∷ qs) p = ring.plus (single x q p) (scattered xs qs p)
  scattered (x ∷ xs) [] p = ring.zero
  scattered [] qs p = ring.zero

  -- each of the values xs times what g has at its place of qs, added up
  abbrev pub added : List A → List ℕ → (ℕ → A) → A
  added (x ∷ xs) (q ∷ qs) g = ring.plus (ring.times x (g q)) (added xs qs g)
  added (x ∷ xs) [] g = ring.zero
  added [] qs g = ring.zero

  -- f is zero at each place below n that is not one of qs
  abbrev pub ZeroElsewhere : ℕ → List ℕ → (ℕ → A) → Type 0
  ZeroElsewhere n qs f = (p : ℕ) → p < n → (In p qs → ⊥) → f p ≡ ring.zero

module _ {A : Type 0} {ring : Operations A} (l : CommutativeRing ring) where
  -- its place has the value
  single_same : (x : A) (q p : ℕ) → q ≡ p → single ring x q p ≡ x
  single_same x q p e = rw (eq-eqb q p e) refl

  -- every other place has zero
  single_other : (x : A) (q p : ℕ) → (q ≡ p → ⊥) → single ring x q p ≡ ring.zero
  single_other x q p d = rw (ne_eqb q p d) refl

  -- no value stands where no place is
  scattered_none : (xs : List A) (qs : List ℕ) (p : ℕ) → (In p qs → ⊥) → scattered ring xs qs p ≡ ring.zero
  scattered_none (x ∷ xs) (q ∷ qs) p none =
      ap₂ ring.plus (single_other x q p (λ e. none (inl (sym e)))) (scattered_none xs qs p (λ h. none (inr h)))
      ∙ l.plus_zero ring.zero
  scattered_none (x ∷ xs) [] p none = refl
  scattered_none [] qs p none = refl

  -- so all places but those are zero
  pub scattered_elsewhere : (n : ℕ) (xs : List A) (qs : List ℕ) → ZeroElsewhere ring n qs (scattered ring xs qs)
  scattered_elsewhere n xs qs p h none = scattered_none xs qs p none

  -- the values of f at the places qs, each at its place
  scattered_some : (f : ℕ → A) (qs : List ℕ) (p : ℕ) → Rising ◌<◌ qs → In p qs → scattered ring (map f qs) qs p ≡ f p
  scattered_some f (q ∷ qs) p up here =
      elim (cases_eq q p) [
        | inl e ↦
            ap₂ ring.plus (single_same (f q) q p e)
            (scattered_none (map f qs) qs p (λ h. let b : q < p = in_all (◌<◌ q) p qs up.0 h in omega arith))
            ∙ l.plus_zero (f q) ∙ ap f e
        | inr d ↦
            ap₂ ring.plus (single_other (f q) q p d)
            (scattered_some f qs p up.1 (elim here [ inl e ↦ absurd (d (sym e)) | inr h ↦ h ]))
            ∙ zero_plus l (f p)
      ]
  scattered_some f [] p up here = absurd here

  -- a number is in a list or not
  in_or_not : (p : ℕ) (qs : List ℕ) → In p qs ⊎ (In p qs → ⊥)
  in_or_not p [] = inr (λ h. h)
  in_or_not p (q ∷ qs) =
      elim (cases_eq p q) [
        | inl e ↦ inl (inl e)
        | inr d ↦ elim (in_or_not p qs) [ inl h ↦ inl (inr h) | inr none ↦ inr (λ h. elim h [ inl e ↦ d e | inr t ↦ none t ]) ]
      ]

  -- a function that is zero elsewhere has these values
  scattered_back : (n : ℕ) (f : ℕ → A) (qs : List ℕ) → Rising ◌<◌ qs → ZeroElsewhere ring n qs f → (p : ℕ) → p < n → scattered ring (map f qs) qs p ≡ f p
  scattered_back n f qs up elsewhere p h =
      elim (in_or_not p qs) [
        | inl here ↦ scattered_some f qs p up here
        | inr none ↦ scattered_none (map f qs) qs p none ∙ sym (elsewhere p h none)
      ]

  -- the two in the middle of four change places
  exchanged : (a b c d : A) → ring.plus (ring.plus a b) (ring.plus c d) ≡ ring.plus (ring.plus a c) (ring.plus b d)
  exchanged a b c d = solve l (a ∷ b ∷ c ∷ d ∷ []) ((var 0 ⊕ var 1) ⊕ (var 2 ⊕ var 3)) ((var 0 ⊕ var 2) ⊕ (var 1 ⊕ var 3)) refl

  -- a sum of sums of two
  sum_plus : (n : ℕ) (f g : ℕ → A) → sum ring n (λ w. ring.plus (f w) (g w)) ≡ ring.plus (sum ring n f) (sum ring n g)
  sum_plus zero f g = sym (l.plus_zero ring.zero)
  sum_plus (suc n) f g = ap (λ x. ring.plus x (ring.plus (f n) (g n))) (sum_plus n f g) ∙ exchanged (sum ring n f) (sum ring n g) (f n) (g n)

  -- a sum of one term
  sum_single : (n : ℕ) (x : A) (q : ℕ) (g : ℕ → A) → q < n → sum ring n (λ w. ring.times (single ring x q w) (g w)) ≡ ring.times x (g q)
  sum_single n x q g h =
      let f : ℕ → A = λ w. ring.times (single ring x q w) (g w) in
      let other : (w : ℕ) → (q ≡ w → ⊥) → f w ≡ ring.zero = λ w d. ap (λ y. ring.times y (g w)) (single_other x q w d) ∙ zero_times l (g w) in
      sum_short l (suc q) n f h (λ w a b. other w (λ e. omega arith))
      ∙ ap₂ ring.plus (sum_short l 0 q f (omega arith) (λ w a b. other w (λ e. omega arith))) (ap (λ y. ring.times y (g q)) (single_same x q q refl))
      ∙ zero_plus l (ring.times x (g q))

  -- a sum over all places, where values stand at the places qs
  pub sum_scattered : (n : ℕ) (xs : List A) (qs : List ℕ) (g : ℕ → A) → AllByRecursion (λ q. q < n) qs → sum ring n (λ w. ring.times (scattered ring xs qs w) (g w)) ≡ added ring xs qs g
  sum_scattered n (x ∷ xs) (q ∷ qs) g a =
      sum_same l n (λ w. ring.times (scattered ring (x ∷ xs) (q ∷ qs) w) (g w)) (λ w. ring.plus (ring.times (single ring x q w) (g w)) (ring.times (scattered ring xs qs w) (g w)))
      (λ w h. plus_times l (single ring x q w) (scattered ring xs qs w) (g w))
      ∙ sum_plus n (λ w. ring.times (single ring x q w) (g w)) (λ w. ring.times (scattered ring xs qs w) (g w))
      ∙ ap₂ ring.plus (sum_single n x q g a.0) (sum_scattered n xs qs g a.1)
  sum_scattered n (x ∷ xs) [] g a = sum_short l 0 n (λ w. ring.times ring.zero (g w)) (omega arith) (λ w b h. zero_times l (g w))
  sum_scattered n [] qs g a = sum_short l 0 n (λ w. ring.times ring.zero (g w)) (omega arith) (λ w b h. zero_times l (g w))

  -- where c is zero elsewhere, only its values at the places qs count
  pub sum_elsewhere : (n : ℕ) (c : ℕ → A) (qs : List ℕ) (g : ℕ → A) → AllByRecursion (λ q. q < n) qs → Rising ◌<◌ qs → ZeroElsewhere ring n qs c → sum ring n (λ w. ring.times (c w) (g w)) ≡ added ring (map c qs) qs g
  sum_elsewhere n c qs g a up elsewhere =
      sum_same l n (λ w. ring.times (c w) (g w)) (λ w. ring.times (scattered ring (map c qs) qs w) (g w)) (λ w h. ap (λ y. ring.times y (g w)) (sym (scattered_back n c qs up elsewhere w h)))
      ∙ sum_scattered n (map c qs) qs g a
