-- The first letter that is not below k.
use Rattle.std.proofs.Common.{◌≡◌, ℕ, List, [], ◌∷◌, refl, arith}
use Rattle.std.proofs.lemmas.Bool.Decides.{nat_tests}
use Rattle.std.specs.List.{position_or_len}
use Rattle.std.specs.Prelude.{nat_le}
use Rattle.word.specs.Faults.{foreign}

pub foreign_at : (k : ℕ) (w : List ℕ) → foreign k w ≡ position_or_len (λ x. nat_le k x) w
foreign_at k [] = refl
foreign_at k (x ∷ w) = let e = foreign_at k w in grind (arith, nat_tests)
