-- Whole numbers modulo m, as any type whose values are the numbers below m.
use Rattle.std.specs.Prelude.{◌≡◌, ℕ, suc, ◌+◌, ◌-◌, ◌*◌, ◌%◌, ◌<◌, ℤ, pos}
use lib.IntN.{negsuc}
use native.Mathlib.Nat.{mod-lt}
use native.Mathlib.Omega.{arith}
use Rattle.ring_laws.specs.Rings.{Operations}

-- the values of A are the numbers below m, of which there are several
pub record Below (m : ℕ) (A : Type 0) : Type 0 where
  pub several : 1 < m
  pub value : A → ℕ
  pub make : (n : ℕ) → n < m → A
  pub below : (x : A) → value x < m
  pub made : (n : ℕ) (h : n < m) → value (make n h) ≡ n
  pub own : (x : A) → make (value x) (below x) ≡ x

module _ {m : ℕ} {A : Type 0} (b : Below m A) where
  -- the value of n modulo m
  abbrev pub residue : ℕ → A
  residue n = b.make (n % m) (mod-lt n (omega arith))

  abbrev pub residue_opposite : A → A
  residue_opposite x = residue (m - b.value x)

  abbrev pub residue_image : ℤ → A
  residue_image (pos n) = residue n
  residue_image (negsuc n) = residue_opposite (residue (suc n))

  abbrev pub residues : Operations A
  residues =
      record {
        zero = residue 0;
        one = residue 1;
        plus = λ x y. residue (b.value x + b.value y);
        negative = residue_opposite;
        times = λ x y. residue (b.value x * b.value y);
        image = residue_image;
      }
