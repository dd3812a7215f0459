-- Every whole number in a ring, counted out in ones.
use Rattle.std.specs.Prelude.{ℕ, zero, suc, ℤ, pos}
use lib.IntN.{negsuc}
use Rattle.ring_laws.specs.Rings.{Operations}

-- the sum of n ones
unfoldable pub ones : {A : Type 0} → Operations A → ℕ → A
ones r zero = r.zero
ones r (suc n) = r.plus (ones r n) r.one

-- as many ones as the magnitude says, or what is opposite to them
unfoldable pub whole : {A : Type 0} → Operations A → ℤ → A
whole r (pos n) = ones r n
whole r (negsuc n) = r.negative (ones r (suc n))
