-- The sheet of P of a Lyndon word is made of the sheets of P of the two parts of its split.
use Rattle.std.proofs.Common.{◌≡◌, ℕ, ◌+◌, ◌/◌, ◌%◌, ◌^◌, ◌<◌, ◌≤◌, List, length, take, drop, get_or, ℤ, ◌-ℤ◌, ◌*ℤ◌, neg_ℤ, sym, ap, ap₂, ◌∙◌, subst, arith}
use Rattle.ring_laws.specs.Rings.{Operations, CommutativeRing, Laws}
use Rattle.ring_laws.specs.Whole.{whole}
use Rattle.ring_laws.proofs.Images.{whole_plus, whole_negative, whole_times}
use Rattle.letter_order.specs.Orders.{by_value}
use Rattle.lyndon.specs.Words.{Lyndon, Split}
use Rattle.lyndon.specs.Codes.{spelled}
use Rattle.lyndon.proofs.Codes.{code-spelled, length-spelled}
use Rattle.polynomial.specs.Polynomials.{P}
use Rattle.bracket.proofs.Values.{split_value}
use Rattle.sheet_laws.specs.Sheets.{sheet_of, coefficient, times, bracket}
use Rattle.sheet_laws.proofs.Places.{front_below, back_below, take-spelled, drop-spelled}
use Rattle.sheet_laws.proofs.Sheets.{length-sheet_of, sheet_at, is_sheet}
use Rattle.sheet_laws.proofs.WordTerms.{split_size}
use Rattle.sheet_laws.proofs.Added.{image_P}

-- ---- sheets by what they have at each word

module _ {A : Type 0} (ring : Operations A) (k : ℕ) where
  -- coefficients that are the same at each word of m letters make the same sheet
  sheet_same : (m : ℕ) (f g : List ℕ → A) → ((c : ℕ) → c < k ^ m → f (spelled k m c) ≡ g (spelled k m c)) → sheet_of k m f ≡ sheet_of k m g
  sheet_same m f g same =
      is_sheet k m g (sheet_of k m f) ring.zero (length-sheet_of k m f) (λ c h. sheet_at k m f c ring.zero h ∙ same c h)

  -- f says what the sheet has at u
  abbrev Says : ℕ → (List ℕ → A) → List ℕ → Type 0
  Says m f u = coefficient ring k (sheet_of k m f) u ≡ f u

  module _ (some : 1 ≤ k) where
    -- each function says what its sheet has at a word of m letters
    says : (m c : ℕ) (f : List ℕ → A) → c < k ^ m → Says m f (spelled k m c)
    says m c f h = ap (λ q. get_or (sheet_of k m f) q ring.zero) (code-spelled k m c some h) ∙ sheet_at k m f c ring.zero h

    -- at the front of a longer word
    says_front : (a b c : ℕ) (f : List ℕ → A) → c < k ^ (a + b) → Says a f (take a (spelled k (a + b) c))
    says_front a b c f h = subst (Says a f) (sym (take-spelled k a b c some h)) (says a (c / k ^ b) f (front_below k a b c some h))

    -- and at what stands behind the front
    says_back : (a b c : ℕ) (f : List ℕ → A) → c < k ^ (a + b) → Says b f (drop a (spelled k (a + b) c))
    says_back a b c f h = subst (Says b f) (sym (drop-spelled k a b c some h)) (says b (c % k ^ b) f (back_below k a b c some h))

    -- so the product of two sheets is the product of what their functions say of the two
    times_says : (a b m c : ℕ) (f g : List ℕ → A) → a + b ≡ m → c < k ^ m →
        times ring k a (sheet_of k a f) (sheet_of k b g) (spelled k m c) ≡ ring.times (f (take a (spelled k m c))) (g (drop a (spelled k m c)))
    times_says a b m c f g e h =
        let here : c < k ^ (a + b) = rw e h in
        rw (← e) (ap₂ ring.times (says_front a b c f here) (says_back a b c g here))

-- ---- whole numbers

-- a difference of two products goes over into a ring
whole_difference : {A : Type 0} {r : Operations A} (laws : CommutativeRing r) (x y z v : ℤ) →
    whole r (x *ℤ y -ℤ z *ℤ v) ≡ r.plus (r.times (whole r x) (whole r y)) (r.negative (r.times (whole r z) (whole r v)))
whole_difference {r} laws x y z v =
    whole_plus laws (x *ℤ y) (neg_ℤ (z *ℤ v))
    ∙ ap₂ r.plus (whole_times laws x y) (whole_negative laws (z *ℤ v) ∙ ap r.negative (whole_times laws z v))

-- ---- the parts of a word

module _ {A : Type 0} (ring : Operations A) (laws : Laws ring) where
  -- P in the ring
  abbrev image_of : List ℕ → List ℕ → A
  image_of w u = ring.image (P w u)

  -- P of the word, from P of the parts
  split_image : (w l r u : List ℕ) → Lyndon by_value w → Split by_value w l r → length w ≤ 12 → length u ≡ length w →
      ring.plus (ring.times (image_of l (take (length l) u)) (image_of r (drop (length l) u)))
      (ring.negative (ring.times (image_of r (take (length r) u)) (image_of l (drop (length r) u))))
      ≡ image_of w u
  split_image w l r u L S short e =
      let n : length l + length r ≡ length w = split_size w l r (L, S) in
      let x : (p : List ℕ) → whole ring (P l p) ≡ image_of l p = λ p. image_P ring laws l p (omega arith) in
      let y : (p : List ℕ) → whole ring (P r p) ≡ image_of r p = λ p. image_P ring laws r p (omega arith) in
      sym
      (sym (image_P ring laws w u short)
      ∙ ap (whole ring) (split_value w l r u (L, S) e)
      ∙ whole_difference laws.ring (P l (take (length l) u)) (P r (drop (length l) u)) (P r (take (length r) u)) (P l (drop (length r) u))
      ∙ ap₂ (λ p q. ring.plus p (ring.negative q)) (ap₂ ring.times (x _) (y _)) (ap₂ ring.times (y _) (x _)))

  -- xy - yx of the sheets of P of the two parts of the split of a Lyndon word is the sheet of P of the word
  pub parts_joined : (k : ℕ) → 1 ≤ k → (w l r : List ℕ) → Lyndon by_value w → Split by_value w l r → length w ≤ 12 → (a b : ℕ) → a ≡ length l → b ≡ length r →
      sheet_of k (a + b) (bracket ring k a b (sheet_of k a (λ u. ring.image (P l u))) (sheet_of k b (λ u. ring.image (P r u))))
      ≡ sheet_of k (length w) (λ u. ring.image (P w u))
  parts_joined k some w l r L S short a b ha hb =
      let n : length l + length r ≡ length w = split_size w l r (L, S) in
      rw (ha, hb, n)
      (sheet_same ring k (length w) (bracket ring k (length l) (length r) (sheet_of k (length l) (image_of l)) (sheet_of k (length r) (image_of r))) (image_of w)
      (λ c h.
      ap₂ (λ p q. ring.plus p (ring.negative q))
      (times_says ring k some (length l) (length r) (length w) c (image_of l) (image_of r) n h)
      (times_says ring k some (length r) (length l) (length w) c (image_of r) (image_of l) (omega arith) h)
      ∙ split_image w l r (spelled k (length w) c) L S short (length-spelled k (length w) c)))
