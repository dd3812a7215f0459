-- The laws of the ring of two values.
use Rattle.std.proofs.Common.{◌≡◌, ℕ, zero, suc, ◌%◌, true, ℤ, pos, nat_eq, refl, ap, ◌∙◌, arith, true≢false}
use lib.IntN.{negsuc}
use Rattle.ring_laws.specs.Rings.{Laws, CommutativeRing}
use Rattle.ring_laws.specs.Whole.{ones, whole}
use Rattle.ring_laws.specs.Bits.{differ, bits}
use Rattle.ring_laws.proofs.Images.{laws_from}

bit_ring : CommutativeRing bits
bit_ring =
    record {
      plus_associative = λ a b c. grind arith;
      plus_commutative = λ a b. grind arith;
      plus_zero = λ a. grind arith;
      plus_negative = λ a. grind arith;
      times_associative = λ a b c. grind arith;
      times_commutative = λ a b. grind arith;
      times_one = λ a. grind arith;
      times_plus = λ a b c. grind arith;
      one_zero = true≢false;
    }

-- the next number is odd where this one is not
odd_next : (n : ℕ) → differ (nat_eq (n % 2) 1) true ≡ nat_eq (suc n % 2) 1
odd_next n = grind arith

ones_odd : (n : ℕ) → ones bits n ≡ nat_eq (n % 2) 1
unfolding ones
ones_odd zero = refl
ones_odd (suc n) = ap (λ b. differ b true) (ones_odd n) ∙ odd_next n

whole_odd : (z : ℤ) → whole bits z ≡ bits.image z
unfolding whole
whole_odd (pos n) = ones_odd n
whole_odd (negsuc n) = ones_odd (suc n)

pub bit_laws : Laws bits
bit_laws = laws_from bit_ring (λ z s. whole_odd z)
