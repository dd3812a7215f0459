-- Adding the terms of P of a word adds P of the word.
use Rattle.std.proofs.Common.{◌≡◌, ℕ, ◌^◌, ◌<◌, ◌≤◌, Bool, true, false, List, [], ◌∷◌, ◌++◌, length, get_or, set, ℤ, pos, ◌+ℤ◌, refl, sym, ap, ap₂, ◌∙◌, inl, inr, arith, length-set}
use Rattle.std.proofs.lemmas.Bool.{cases_eq}
use Rattle.std.proofs.lemmas.List.{get_or-set_same, get_or-set_other}
use Rattle.std.proofs.lemmas.Int.{fits_signed_from_abs}
use mir.Syntax.{w16}
use Rattle.ring_laws.specs.Rings.{Operations, Laws}
use Rattle.ring_laws.specs.Whole.{whole}
use Rattle.ring_laws.proofs.Basics.{times_zero}
use Rattle.ring_laws.proofs.Images.{whole_zero, whole_one, whole_plus, whole_negative, whole_image}
use Rattle.ring_laws.proofs.Solve.{var, 𝟙, ◌⊕◌, ◌⊗◌, ⊖◌, solve}
use Rattle.lyndon.specs.Codes.{spelled}
use Rattle.lyndon.proofs.Codes.{code-spelled}
use Rattle.polynomial.specs.Polynomials.{P}
use Rattle.bracket.proofs.Values.{bound}
use Rattle.sheet_laws.specs.declared.term.Term.{Term}
use Rattle.sheet_laws.specs.Sheets.{coefficient}
use Rattle.sheet_laws.specs.Terms.{sign, weight, SumsTo, signed, added, raised}
use Rattle.sheet_laws.proofs.Sheets.{is_sheet}
use Rattle.sheet_laws.proofs.Terms.{weight_here, weight_other}

module _ {A : Type 0} (ring : Operations A) where
  pub added-append : (c : A) (ts us : List Term) (s : List A) → added ring c (ts ++ us) s ≡ added ring c us (added ring c ts s)
  added-append c [] us s = refl
  added-append c (t ∷ ts) us s = added-append c ts us (set s t.code (ring.plus (get_or s t.code ring.zero) (signed ring c t.negative)))

  pub length-added : (c : A) (ts : List Term) (s : List A) → length (added ring c ts s) ≡ length s
  length-added c [] s = refl
  length-added c (t ∷ ts) s =
      length-added c ts (set s t.code (ring.plus (get_or s t.code ring.zero) (signed ring c t.negative))) ∙ length-set s t.code (ring.plus (get_or s t.code ring.zero) (signed ring c t.negative))

module _ {A : Type 0} (ring : Operations A) (laws : Laws ring) where
  signed_is : (c : A) (b : Bool) → signed ring c b ≡ ring.times c (whole ring (sign b))
  signed_is c true = sym (ap (ring.times c) (whole_negative laws.ring (pos 1) ∙ ap ring.negative (whole_one laws.ring)) ∙ solve laws.ring (c ∷ []) (var 0 ⊗ ⊖ 𝟙) (⊖ var 0) refl)
  signed_is c false = sym (ap (ring.times c) (whole_one laws.ring) ∙ laws.ring.times_one c)

  added_value : (c a : A) (b : Bool) (w : ℤ) → ring.plus (ring.plus a (signed ring c b)) (ring.times c (whole ring w)) ≡ ring.plus a (ring.times c (whole ring (sign b +ℤ w)))
  added_value c a b w =
      ap (λ x. ring.plus (ring.plus a x) (ring.times c (whole ring w))) (signed_is c b)
      ∙ solve laws.ring (a ∷ c ∷ whole ring (sign b) ∷ whole ring w ∷ []) ((var 0 ⊕ (var 1 ⊗ var 2)) ⊕ (var 1 ⊗ var 3)) (var 0 ⊕ (var 1 ⊗ (var 2 ⊕ var 3))) refl
      ∙ ap (λ x. ring.plus a (ring.times c x)) (sym (whole_plus laws.ring (sign b) w))

  pub added_at : (c : A) (ts : List Term) (s : List A) (p : ℕ) → p < length s → get_or (added ring c ts s) p ring.zero ≡ ring.plus (get_or s p ring.zero) (ring.times c (whole ring (weight ts p)))
  added_at c [] s p h = sym (ap (λ x. ring.plus (get_or s p ring.zero) (ring.times c x)) (whole_zero laws.ring) ∙ ap (ring.plus (get_or s p ring.zero)) (times_zero laws.ring c) ∙ laws.ring.plus_zero (get_or s p ring.zero))
  added_at c (t ∷ ts) s p h =
      let v : A = ring.plus (get_or s t.code ring.zero) (signed ring c t.negative) in
      added_at c ts (set s t.code v) p (rw length-set h)
      ∙ elim (cases_eq t.code p) [
        | inl e ↦
            ap (λ x. ring.plus x (ring.times c (whole ring (weight ts p)))) (ap (λ q. get_or (set s q (ring.plus (get_or s q ring.zero) (signed ring c t.negative))) p ring.zero) e ∙ get_or-set_same s p (ring.plus (get_or s p ring.zero) (signed ring c t.negative)) ring.zero h)
            ∙ added_value c (get_or s p ring.zero) t.negative (weight ts p)
            ∙ ap (λ z. ring.plus (get_or s p ring.zero) (ring.times c (whole ring z))) (sym (weight_here t ts p e))
        | inr d ↦
            ap (λ x. ring.plus x (ring.times c (whole ring (weight ts p)))) (get_or-set_other s t.code p v ring.zero (λ e. d (sym e)))
            ∙ ap (λ z. ring.plus (get_or s p ring.zero) (ring.times c (whole ring z))) (sym (weight_other t ts p d))
      ]

  -- the coefficients of a word of at most 12 letters, counted out, are what the ring's own images of them are
  pub image_P : (w u : List ℕ) → length w ≤ 12 → whole ring (P w u) ≡ ring.image (P w u)
  image_P w u h = whole_image laws (P w u) (fits_signed_from_abs w16 (P w u) (omega (arith, bound w u (P w u) refl h)))

  pub terms_raise : (k : ℕ) (w : List ℕ) (ts : List Term) (c : A) (s : List A) → 0 < k → length w ≤ 12 → SumsTo k w ts → length s ≡ k ^ length w → added ring c ts s ≡ raised ring k w c s
  unfolding raised
  terms_raise k w ts c s some h sums n =
      is_sheet k (length w) (λ u. ring.plus (coefficient ring k s u) (ring.times c (ring.image (P w u)))) (added ring c ts s) ring.zero (length-added ring c ts s ∙ n)
      (λ p l.
      added_at c ts s p (rw n l)
      ∙ ap₂ (λ q z. ring.plus (get_or s q ring.zero) (ring.times c z))
      (sym (code-spelled k (length w) p some l))
      (ap (whole ring) (sums.weights p l) ∙ image_P w (spelled k (length w) p) h))
