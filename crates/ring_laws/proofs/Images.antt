-- Whole numbers in a ring: sums, opposites and products go over, and small ones are what the ring's own image says.
use Rattle.std.proofs.Common.{◌≡◌, ℕ, zero, suc, ℤ, pos, ◌+ℤ◌, ◌*ℤ◌, neg_ℤ, [], ◌∷◌, refl, sym, ap, ap₂, ◌∙◌}
use Rattle.std.proofs.Common.{add-one, add-zero, arith}
use lib.IntN.{negsuc, suc_ℤ, +ℤ_idr, +ℤ-suc_ℤ, +ℤ_invl, zero-*ℤ, suc_ℤ-*ℤ}
use Rattle.ring_laws.specs.Rings.{Operations, Laws, Small, CommutativeRing}
use Rattle.ring_laws.specs.Whole.{ones, whole}
use Rattle.ring_laws.proofs.Basics.{zero_plus, cancel, zero_times, negative_is, negative_zero, plus_negatives}
use Rattle.ring_laws.proofs.Solve.{var, 𝟙, ◌⊕◌, ◌⊗◌, ⊖◌, solve}

module _ {A : Type 0} {r : Operations A} (l : CommutativeRing r) where
  pub whole_zero : whole r (pos 0) ≡ r.zero
  unfolding ones whole
  whole_zero = refl

  pub whole_one : whole r (pos 1) ≡ r.one
  unfolding ones whole
  whole_one = zero_plus l r.one

  -- the opposite of n ones is one more than that of n + 1 ones
  opposite_next : (n : ℕ) → r.negative (ones r n) ≡ r.plus (r.negative (ones r (suc n))) r.one
  unfolding ones
  opposite_next n = solve l (ones r n ∷ []) (⊖ var 0) (⊖ (var 0 ⊕ 𝟙) ⊕ 𝟙) refl

  pub whole_next : (z : ℤ) → whole r (suc_ℤ z) ≡ r.plus (whole r z) r.one
  unfolding ones whole
  whole_next (pos n) = refl
  whole_next (negsuc zero) = sym (negative_zero l) ∙ opposite_next 0
  whole_next (negsuc (suc n)) = opposite_next (suc n)

  sum_up : (x y : ℤ) →
      whole r (x +ℤ y) ≡ r.plus (whole r x) (whole r y) → whole r (x +ℤ suc_ℤ y) ≡ r.plus (whole r x) (whole r (suc_ℤ y))
  sum_up x y h =
      ap (whole r) (+ℤ-suc_ℤ x y)
      ∙ whole_next (x +ℤ y)
      ∙ ap (λ z. r.plus z r.one) h
      ∙ l.plus_associative (whole r x) (whole r y) r.one
      ∙ ap (r.plus (whole r x)) (sym (whole_next y))

  sum_down : (x y : ℤ) →
      whole r (x +ℤ suc_ℤ y) ≡ r.plus (whole r x) (whole r (suc_ℤ y)) → whole r (x +ℤ y) ≡ r.plus (whole r x) (whole r y)
  sum_down x y h =
      cancel l (whole r (x +ℤ y)) (r.plus (whole r x) (whole r y)) r.one
      (sym (whole_next (x +ℤ y))
      ∙ ap (whole r) (sym (+ℤ-suc_ℤ x y))
      ∙ h
      ∙ ap (r.plus (whole r x)) (whole_next y)
      ∙ sym (l.plus_associative (whole r x) (whole r y) r.one))

  sum_pos : (x : ℤ) (n : ℕ) → whole r (x +ℤ pos n) ≡ r.plus (whole r x) (whole r (pos n))
  sum_pos x zero = ap (whole r) (+ℤ_idr x) ∙ sym (ap (r.plus (whole r x)) whole_zero ∙ l.plus_zero (whole r x))
  sum_pos x (suc n) = sum_up x (pos n) (sum_pos x n)

  sum_neg : (x : ℤ) (n : ℕ) → whole r (x +ℤ negsuc n) ≡ r.plus (whole r x) (whole r (negsuc n))
  sum_neg x zero = sum_down x (negsuc zero) (sum_pos x zero)
  sum_neg x (suc n) = sum_down x (negsuc (suc n)) (sum_neg x n)

  pub whole_plus : (x y : ℤ) → whole r (x +ℤ y) ≡ r.plus (whole r x) (whole r y)
  whole_plus x (pos n) = sum_pos x n
  whole_plus x (negsuc n) = sum_neg x n

  pub whole_negative : (z : ℤ) → whole r (neg_ℤ z) ≡ r.negative (whole r z)
  whole_negative z = negative_is l (whole r (neg_ℤ z)) (whole r z) (sym (whole_plus (neg_ℤ z) z) ∙ ap (whole r) (+ℤ_invl z) ∙ whole_zero)

  next_product : (x y : ℤ) → whole r (suc_ℤ x *ℤ y) ≡ r.plus (whole r (x *ℤ y)) (whole r y)
  next_product x y = ap (whole r) (suc_ℤ-*ℤ x y) ∙ whole_plus (x *ℤ y) y

  product_next : (x y : ℤ) → r.times (whole r (suc_ℤ x)) (whole r y) ≡ r.plus (r.times (whole r x) (whole r y)) (whole r y)
  product_next x y =
      ap (λ z. r.times z (whole r y)) (whole_next x) ∙ solve l (whole r x ∷ whole r y ∷ []) ((var 0 ⊕ 𝟙) ⊗ var 1) (var 0 ⊗ var 1 ⊕ var 1) refl

  product_up : (x y : ℤ) →
      whole r (x *ℤ y) ≡ r.times (whole r x) (whole r y) → whole r (suc_ℤ x *ℤ y) ≡ r.times (whole r (suc_ℤ x)) (whole r y)
  product_up x y h = next_product x y ∙ ap (λ z. r.plus z (whole r y)) h ∙ sym (product_next x y)

  product_down : (x y : ℤ) →
      whole r (suc_ℤ x *ℤ y) ≡ r.times (whole r (suc_ℤ x)) (whole r y) → whole r (x *ℤ y) ≡ r.times (whole r x) (whole r y)
  product_down x y h =
      cancel l (whole r (x *ℤ y)) (r.times (whole r x) (whole r y)) (whole r y) (sym (next_product x y) ∙ h ∙ product_next x y)

  product_pos : (n : ℕ) (y : ℤ) → whole r (pos n *ℤ y) ≡ r.times (whole r (pos n)) (whole r y)
  product_pos zero y = ap (whole r) (zero-*ℤ y) ∙ whole_zero ∙ sym (ap (λ z. r.times z (whole r y)) whole_zero ∙ zero_times l (whole r y))
  product_pos (suc n) y = product_up (pos n) y (product_pos n y)

  product_neg : (n : ℕ) (y : ℤ) → whole r (negsuc n *ℤ y) ≡ r.times (whole r (negsuc n)) (whole r y)
  product_neg zero y = product_down (negsuc zero) y (product_pos zero y)
  product_neg (suc n) y = product_down (negsuc (suc n)) y (product_neg n y)

  pub whole_times : (x y : ℤ) → whole r (x *ℤ y) ≡ r.times (whole r x) (whole r y)
  whole_times (pos n) y = product_pos n y
  whole_times (negsuc n) y = product_neg n y

  -- a ring's own image is lawful where it gives what the count of ones gives
  pub laws_from : ((z : ℤ) → Small z → whole r z ≡ r.image z) → Laws r
  laws_from agree =
      record {
        ring = l;
        image_zero = sym (agree (pos 0) (record { sfits = omega arith })) ∙ whole_zero;
        image_one = sym (agree (pos 1) (record { sfits = omega arith })) ∙ whole_one;
        image_plus = λ x y p q s. sym (agree (x +ℤ y) s) ∙ whole_plus x y ∙ ap₂ r.plus (agree x p) (agree y q);
        image_times = λ x y p q s. sym (agree (x *ℤ y) s) ∙ whole_times x y ∙ ap₂ r.times (agree x p) (agree y q);
      }

module _ {A : Type 0} {r : Operations A} (l : Laws r) where
  ones_image : (n : ℕ) → Small (pos n) → ones r n ≡ r.image (pos n)
  unfolding ones
  ones_image zero s = sym l.image_zero
  ones_image (suc n) s =
      let less : Small (pos n) = record { sfits = omega arith } in
      ap₂ r.plus (ones_image n less) (sym l.image_one)
      ∙ sym (l.image_plus (pos n) (pos 1) less (record { sfits = omega arith }) (record { sfits = omega arith }))
      ∙ ap (λ k. r.image (pos k)) (add-one n)

  image_opposite_one : r.image (negsuc 0) ≡ r.negative r.one
  image_opposite_one =
      negative_is l.ring (r.image (negsuc 0)) r.one
      (ap (r.plus (r.image (negsuc 0))) (sym l.image_one)
      ∙ sym (l.image_plus (negsuc 0) (pos 1) (record { sfits = omega arith }) (record { sfits = omega arith }) (record { sfits = omega arith }))
      ∙ l.image_zero)

  opposite_image : (n : ℕ) → Small (negsuc n) → r.negative (ones r (suc n)) ≡ r.image (negsuc n)
  unfolding ones
  opposite_image zero s = ap r.negative (zero_plus l.ring r.one) ∙ sym image_opposite_one
  opposite_image (suc n) s =
      let less : Small (negsuc n) = record { sfits = omega arith } in
      sym (plus_negatives l.ring (ones r (suc n)) r.one)
      ∙ ap₂ r.plus (opposite_image n less) (sym image_opposite_one)
      ∙ sym (l.image_plus (negsuc n) (negsuc 0) less (record { sfits = omega arith }) (record { sfits = omega arith }))
      ∙ ap (λ k. r.image (negsuc (suc k))) (add-zero n)

  -- a ring's own image gives what the count of ones gives
  pub whole_image : (z : ℤ) → Small z → whole r z ≡ r.image z
  unfolding whole
  whole_image (pos n) s = ones_image n s
  whole_image (negsuc n) s = opposite_image n s
