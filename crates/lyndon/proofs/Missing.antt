-- The first Lyndon word of a shape that is missing.
use Rattle.std.proofs.Common.{◌≡◌, ℕ, ◌⊎◌, List, [], ◌∷◌, ◌++◌, refl, inl, inr, arith}
use Rattle.std.specs.List.{AllByRecursion}
use Rattle.lyndon.specs.Codes.{Listed}
use Rattle.lyndon.specs.Listing.{OfShape, In, Rising, First, FirstMissing}
use Rattle.lyndon.proofs.Codes.{by_value_total}
use Rattle.lyndon.proofs.Dictionary.{irrefl}
use Rattle.lyndon.proofs.Rises.{in_either, in_all, rising_split}

pub not_itself : (v : List ℕ) → Listed v v → ⊥
not_itself v (inl l) = omega arith
not_itself v (inr b) = irrefl by_value_total v b.1

all_last : {A : Type 0} (P : A → Type 0) (xs : List A) (x : A) → AllByRecursion P (xs ++ x ∷ []) → P x
all_last P [] x h = h.0
all_last P (y ∷ xs) x h = all_last P xs x h.1

-- no word stands before a place and again from there on
pub not_twice : (us vs : List (List ℕ)) → Rising Listed (us ++ vs) → (w : List ℕ) → In w vs → In w us → ⊥
not_twice us vs up w h i = not_itself w (in_all (λ u. Listed u w) w us (rising_split Listed us vs up w h) i)

-- the last of the first words is the first that is missing among those before it
pub first_missing : (k n : ℕ) (ws : List (List ℕ)) (w : List ℕ) → First k n (ws ++ w ∷ []) → FirstMissing k n ws w
first_missing k n ws w F = record {
  lyndon = all_last (OfShape k n) ws w F.lyndon;
  missing = not_twice ws (w ∷ []) F.rising w (inl refl);
  first = λ v V none. go v none (F.unskipped v V);
}
  where
    last : (v : List ℕ) → (In v ws → ⊥) → In v ws ⊎ In v (w ∷ []) → (v ≡ w) ⊎ Listed w v
    last v none (inl h) = absurd (none h)
    last v none (inr (inl e)) = inl e
    last v none (inr (inr h)) = absurd h

    go : (v : List ℕ) → (In v ws → ⊥) → In v (ws ++ w ∷ []) ⊎ AllByRecursion (λ u. Listed u v) (ws ++ w ∷ []) → (v ≡ w) ⊎ Listed w v
    go v none (inl h) = last v none (in_either v ws (w ∷ []) h)
    go v none (inr a) = inr (all_last (λ u. Listed u v) ws w a)
