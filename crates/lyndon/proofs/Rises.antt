-- Lists in which each stands to every later one in a relation.
use Rattle.std.proofs.Common.{ℕ, zero, suc, ◌<◌, ◌⊎◌, List, [], ◌∷◌, ◌++◌, map, length, get_or, take, ap, inl, inr, arith}
use Rattle.std.specs.List.{AllByRecursion}
use Rattle.std.proofs.ByRecursion.{All-append, All-take, All-get_or}
use Rattle.lyndon.specs.Listing.{In, Rising}

pub in_left : {A : Type 0} (x : A) (xs ys : List A) → In x xs → In x (xs ++ ys)
in_left x [] ys h = absurd h
in_left x (z ∷ xs) ys (inl e) = inl e
in_left x (z ∷ xs) ys (inr h) = inr (in_left x xs ys h)

pub in_right : {A : Type 0} (x : A) (xs ys : List A) → In x ys → In x (xs ++ ys)
in_right x [] ys h = h
in_right x (z ∷ xs) ys h = inr (in_right x xs ys h)

pub in_either : {A : Type 0} (x : A) (xs ys : List A) → In x (xs ++ ys) → In x xs ⊎ In x ys
in_either x [] ys h = inr h
in_either x (z ∷ xs) ys (inl e) = inl (inl e)
in_either x (z ∷ xs) ys (inr h) = go (in_either x xs ys h)
  where
    go : In x xs ⊎ In x ys → In x (z ∷ xs) ⊎ In x ys
    go (inl l) = inl (inr l)
    go (inr r) = inr r

pub in_all : {A : Type 0} (P : A → Type 0) (x : A) (xs : List A) → AllByRecursion P xs → In x xs → P x
in_all P x [] a h = absurd h
in_all P x (z ∷ xs) a (inl e) = rw e a.0
in_all P x (z ∷ xs) a (inr h) = in_all P x xs a.1 h

pub in_map : {A B : Type 0} (f : A → B) (x : A) (xs : List A) → In x xs → In (f x) (map f xs)
in_map f x [] h = absurd h
in_map f x (z ∷ xs) (inl e) = inl (ap f e)
in_map f x (z ∷ xs) (inr h) = inr (in_map f x xs h)

module _ {A : Type 0} (R : A → A → Type 0) where
  pub rising_append : (xs ys : List A) → Rising R xs → Rising R ys → AllByRecursion (λ x. AllByRecursion (R x) ys) xs → Rising R (xs ++ ys)
  rising_append [] ys a b h = b
  rising_append (x ∷ xs) ys a b h = (All-append (R x) xs ys a.0 h.0, rising_append xs ys a.1 b h.1)

  pub rising_take : (n : ℕ) (xs : List A) → Rising R xs → Rising R (take n xs)
  rising_take zero xs a = tt
  rising_take (suc n) [] a = tt
  rising_take (suc n) (x ∷ xs) a = (All-take (R x) n xs a.0, rising_take n xs a.1)

  -- what is before a place is in the relation to what stands from there on
  pub rising_split : (xs ys : List A) → Rising R (xs ++ ys) → (y : A) → In y ys → AllByRecursion (λ x. R x y) xs
  rising_split [] ys a y h = tt
  rising_split (x ∷ xs) ys a y h = (in_all (R x) y (xs ++ ys) a.0 (in_right y xs ys h), rising_split xs ys a.1 y h)

  pub rising_at : (xs : List A) (i j : ℕ) (d : A) → Rising R xs → i < j → j < length xs → R (get_or xs i d) (get_or xs j d)
  rising_at [] i j d a h k = absurd (omega arith)
  rising_at (x ∷ xs) zero zero d a h k = absurd (omega arith)
  rising_at (x ∷ xs) zero (suc j) d a h k = All-get_or (R x) xs j d (omega arith) a.0
  rising_at (x ∷ xs) (suc i) zero d a h k = absurd (omega arith)
  rising_at (x ∷ xs) (suc i) (suc j) d a h k = rising_at xs i j d a.1 (omega arith) (omega arith)
