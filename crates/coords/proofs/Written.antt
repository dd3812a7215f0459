-- The sheet of uv - vu, as it is written.
use Rattle.std.proofs.Common.{◌≡◌, ℕ, ◌^◌, ◌<◌, Bool, true, false, cond, List, [], ◌∷◌, get_or, set, replicate, ℤ, pos, ◌+ℤ◌, ◌-ℤ◌, sym, ap, ap₂, ◌∙◌, subst, arith}
use Rattle.std.specs.Ordering.{is_eq}
use Rattle.std.proofs.lemmas.List.{length-replicate, get_or-replicate}
use Rattle.letter_order.specs.Orders.{by_value}
use Rattle.ring_laws.specs.Rings.{Operations, Laws, Small}
use Rattle.ring_laws.specs.Whole.{whole}
use Rattle.ring_laws.proofs.Basics.{zero_plus, one_times}
use Rattle.ring_laws.proofs.Images.{whole_image}
use Rattle.lyndon.specs.Words.{dictionary}
use Rattle.lyndon.specs.Codes.{spelled}
use Rattle.lyndon.proofs.Codes.{length-spelled, spelled-over, code-spelled}
use Rattle.polynomial.specs.Polynomials.{only}
use Rattle.sheet_laws.specs.declared.term.Term.{Term}
use Rattle.sheet_laws.specs.Sheets.{sheet_of}
use Rattle.sheet_laws.specs.Terms.{weight, added}
use Rattle.sheet_laws.proofs.Added.{length-added, added_at}
use Rattle.sheet_laws.proofs.Sheets.{is_sheet}
use Rattle.sheet_laws.proofs.Terms.{turned_ℤ, weight-append}
use Rattle.sheet_laws.proofs.WordTerms.{word_at}
use Rattle.coords.specs.declared.products.Products.{Products}
use Rattle.coords.specs.Printed.{difference}
use Rattle.coords.specs.Products.{difference_of}

-- the difference of two coefficients of single words
small : (b c : Bool) → Small (cond b (pos 1) (pos 0) -ℤ cond c (pos 1) (pos 0))
small true true = record { sfits = omega arith }
small true false = record { sfits = omega arith }
small false true = record { sfits = omega arith }
small false false = record { sfits = omega arith }

module _ (k n : ℕ) (some : 0 < k) where
  -- a term stands for its word, or for the opposite of that
  term_at : (t : Term) → t.code < k ^ n → (p : ℕ) → p < k ^ n → weight (t ∷ []) p ≡ turned_ℤ t.negative (only (spelled k n t.code) (spelled k n p))
  term_at t h =
      subst (λ m. (p : ℕ) → p < k ^ m → weight (t ∷ []) p ≡ turned_ℤ t.negative (only (spelled k n t.code) (spelled k m p))) (length-spelled k n t.code)
      (word_at k (spelled k n t.code) some (spelled-over k n t.code some h) t (sym (code-spelled k n t.code some h)))

  module _ (a b : ℕ) where
    abbrev terms : List Term
    terms = record { code = a; negative = false } ∷ record { code = b; negative = true } ∷ []

    abbrev coefficient : List ℕ → ℤ
    coefficient u = only (spelled k n a) u -ℤ only (spelled k n b) u

    module _ (ha : a < k ^ n) (hb : b < k ^ n) where
      weights : (p : ℕ) → p < k ^ n → weight terms p ≡ coefficient (spelled k n p)
      weights p h =
          weight-append (record { code = a; negative = false } ∷ []) (record { code = b; negative = true } ∷ []) p
          ∙ ap₂ ◌+ℤ◌ (term_at (record { code = a; negative = false }) ha p h) (term_at (record { code = b; negative = true }) hb p h)

      module _ {A : Type 0} (ring : Operations A) (laws : Laws ring) where
        pub terms_sheet : added ring ring.one terms (replicate (k ^ n) ring.zero) ≡ sheet_of k n (λ u. ring.image (coefficient u))
        terms_sheet =
            is_sheet k n (λ u. ring.image (coefficient u)) (added ring ring.one terms (replicate (k ^ n) ring.zero)) ring.zero
            (length-added ring ring.one terms (replicate (k ^ n) ring.zero) ∙ length-replicate (k ^ n) ring.zero)
            (λ p h.
            added_at ring laws ring.one terms (replicate (k ^ n) ring.zero) p (rw length-replicate h)
            ∙ ap₂ ring.plus (get_or-replicate (k ^ n) p ring.zero ring.zero h) (one_times laws.ring (whole ring (weight terms p)))
            ∙ zero_plus laws.ring (whole ring (weight terms p))
            ∙ ap (whole ring) (weights p h)
            ∙ whole_image laws (coefficient (spelled k n p)) (small (is_eq (dictionary by_value (spelled k n a) (spelled k n p))) (is_eq (dictionary by_value (spelled k n b) (spelled k n p)))))

-- what is written over zeros
module _ {A : Type 0} (ring : Operations A) (laws : Laws ring) (p : Products) (zeros mid new : List A) (x y : A) (a b : ℕ) where
  pub difference_written : new ≡ set mid b (ring.plus (get_or mid b ring.zero) y) → mid ≡ set zeros a (ring.plus (get_or zeros a ring.zero) x) → zeros ≡ replicate (p.uv.shape.k ^ p.uv.shape.n) ring.zero → x ≡ ring.one → y ≡ ring.negative ring.one → a ≡ p.uv.code → b ≡ p.vu.code → new ≡ difference_of ring p
  difference_written e f g h i j k =
      let shape = p.uv.shape in
      let vu : p.vu.code < shape.k ^ shape.n = subst (λ m. p.vu.code < shape.k ^ m) p.vu_longest (subst (λ s. p.vu.code < s.k ^ p.vu.length) p.same p.vu.coded) in
      let uv : p.uv.code < shape.k ^ shape.n = subst (λ m. p.uv.code < shape.k ^ m) p.uv_longest p.uv.coded in
      let written : new ≡ added ring ring.one (terms shape.k shape.n shape.some p.uv.code p.vu.code) (replicate (shape.k ^ shape.n) ring.zero) = cc in
      written
      ∙ terms_sheet shape.k shape.n shape.some p.uv.code p.vu.code uv vu ring laws
      ∙ ap₂ (difference ring shape.k shape.n) (ap (λ m. spelled shape.k m p.uv.code) (sym p.uv_longest)) (sym (λ i. spelled (p.same i).k (p.vu_longest i) p.vu.code))
