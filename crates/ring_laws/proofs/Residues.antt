-- The laws of whole numbers modulo m.
use Rattle.std.proofs.Common.{◌≡◌, ℕ, zero, suc, ◌+◌, ◌-◌, ◌*◌, ◌%◌, ◌<◌, ℤ, pos, refl, sym, ap, ◌∙◌, arith}
use Rattle.std.proofs.Common.{add-zero, add-one, add_assoc, add_comm, mul_assoc, mul_comm, mul-one, mul-add, mod-lt, mod-eq_of_lt}
use Rattle.std.proofs.lemmas.Nat.{mul-mod_first, mul-mod_second}
use native.Mathlib.Nat.{zero-mod, mod_self, mod-add-mod, add-mod-mod}
use lib.IntN.{negsuc}
use mathlib.Core.HLevel.{is_prop→PathP}
use native.Mathlib.Bridge.{le_prop}
use Rattle.ring_laws.specs.Rings.{Laws, CommutativeRing}
use Rattle.ring_laws.specs.Whole.{ones, whole}
use Rattle.ring_laws.specs.Residues.{Below, residue, residue_image, residues}
use Rattle.ring_laws.proofs.Images.{laws_from}

module _ {m : ℕ} {A : Type 0} (b : Below m A) where
  abbrev res : ℕ → A
  res = residue b

  abbrev val : A → ℕ
  val = b.value

  -- two values are the same where their numbers are
  same : (x y : A) → val x ≡ val y → x ≡ y
  same x y e = sym (b.own x) ∙ (λ i. b.make (e i) (is_prop→PathP (λ j. e j < m) (λ j. le_prop) (b.below x) (b.below y) i)) ∙ b.own y

  value_residue : (n : ℕ) → val (res n) ≡ n % m
  value_residue n = b.made (n % m) (mod-lt n (omega arith))

  -- numbers that are the same modulo m have one residue
  equal : (x y : ℕ) → x % m ≡ y % m → res x ≡ res y
  equal x y e = same (res x) (res y) (value_residue x ∙ e ∙ sym (value_residue y))

  at_value : (x : A) → res (val x) ≡ x
  at_value x = same (res (val x)) x (value_residue (val x) ∙ mod-eq_of_lt (b.below x))

  plus_left : (x y : ℕ) → res (val (res x) + y) ≡ res (x + y)
  plus_left x y = equal _ _ (ap (λ p. (p + y) % m) (value_residue x) ∙ mod-add-mod x m y)

  plus_right : (x y : ℕ) → res (x + val (res y)) ≡ res (x + y)
  plus_right x y = equal _ _ (ap (λ p. (x + p) % m) (value_residue y) ∙ add-mod-mod x y m)

  times_left : (x y : ℕ) → res (val (res x) * y) ≡ res (x * y)
  times_left x y = equal _ _ (ap (λ p. (p * y) % m) (value_residue x) ∙ mul-mod_first x y m)

  times_right : (x y : ℕ) → res (x * val (res y)) ≡ res (x * y)
  times_right x y = equal _ _ (ap (λ p. (x * p) % m) (value_residue y) ∙ mul-mod_second x y m)

  residue_ring : CommutativeRing (residues b)
  residue_ring =
      record {
        plus_associative = λ x y z.
            plus_left (val x + val y) (val z) ∙ ap res (add_assoc (val x) (val y) (val z)) ∙ sym (plus_right (val x) (val y + val z));
        plus_commutative = λ x y. ap res (add_comm (val x) (val y));
        plus_zero = λ x. plus_right (val x) 0 ∙ ap res (add-zero (val x)) ∙ at_value x;
        plus_negative = λ x.
            plus_right (val x) (m - val x) ∙ equal _ _ (ap (λ p. p % m) (omega (arith, b.below x)) ∙ mod_self m ∙ sym (zero-mod m));
        times_associative = λ x y z.
            times_left (val x * val y) (val z) ∙ ap res (mul_assoc (val x) (val y) (val z)) ∙ sym (times_right (val x) (val y * val z));
        times_commutative = λ x y. ap res (mul_comm (val x) (val y));
        times_one = λ x. times_right (val x) 1 ∙ ap res (mul-one (val x)) ∙ at_value x;
        times_plus = λ x y z.
            times_right (val x) (val y + val z)
            ∙ ap res (mul-add (val x) (val y) (val z))
            ∙ sym (plus_left (val x * val y) (val (res (val x * val z))) ∙ plus_right (val x * val y) (val x * val z));
        one_zero = λ e.
            let f : 1 ≡ 0 = sym (value_residue 1 ∙ mod-eq_of_lt b.several) ∙ ap val e ∙ value_residue 0 ∙ zero-mod m in
            absurd (omega arith);
      }

  ones_residue : (n : ℕ) → ones (residues b) n ≡ res n
  unfolding ones
  ones_residue zero = refl
  ones_residue (suc n) =
      ap (λ x. res (val x + val (res 1))) (ones_residue n) ∙ plus_left n (val (res 1)) ∙ plus_right n 1 ∙ ap res (add-one n)

  whole_residue : (z : ℤ) → whole (residues b) z ≡ residue_image b z
  unfolding whole
  whole_residue (pos n) = ones_residue n
  whole_residue (negsuc n) = ap (residues b).negative (ones_residue (suc n))

  pub residue_laws : Laws (residues b)
  residue_laws = laws_from residue_ring (λ z s. whole_residue z)
