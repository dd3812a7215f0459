-- Comparing two words letter by letter.
use Rattle.std.proofs.Common.{◌≡◌, ◌+◌, ◌⊎◌, List, [], ◌∷◌, length, Ordering, Less, Equal, Greater, refl, sym, ◌∙◌, arith}
use Rattle.std.specs.Ordering.{ordering_then}
use Rattle.std.proofs.lemmas.Bool.Decides.{nat_tests}
use Rattle.letter_order.specs.Orders.{by_value}
use Rattle.lyndon.specs.Words.{dictionary}

-- where one of two words has ended, their lengths decide
by_length : {A : Type 0} (ranks : A → A → Ordering) (u v : List A) → (length u ≡ 0) ⊎ (length v ≡ 0) → dictionary ranks u v ≡ by_value (length u) (length v)
by_length ranks [] [] e = refl
by_length ranks [] (y ∷ v) e = grind (arith, nat_tests)
by_length ranks (x ∷ u) [] e = grind (arith, nat_tests)
by_length ranks (x ∷ u) (y ∷ v) e = grind arith

-- a and b, one of them empty, are what is left of u and v behind as many letters
pub ended : {A : Type 0} (ranks : A → A → Ordering) (u v a b : List A) → (length a ≡ 0) ⊎ (length b ≡ 0) → (dictionary ranks a b ≡ dictionary ranks u v) × (length a + length v ≡ length b + length u) → by_value (length u) (length v) ≡ dictionary ranks u v
ended ranks u v a b end left =
    let same : by_value (length u) (length v) ≡ by_value (length a) (length b) = grind (arith, nat_tests)
    in same ∙ sym (by_length ranks a b end) ∙ left.0

pub decides_alone : (r s t : Ordering) → (r ≡ Equal → ⊥) → ordering_then r s ≡ ordering_then r t
decides_alone Less s t h = refl
decides_alone Equal s t h = absurd (h refl)
decides_alone Greater s t h = refl
