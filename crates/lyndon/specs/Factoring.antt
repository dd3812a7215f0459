-- The factors of a word and the place of its split, as functions.
use Rattle.std.specs.Prelude.{ℕ, suc, Bool, true, false, cond, ◌&&◌, List, [], ◌∷◌, ◌++◌}
use Rattle.std.specs.declared.cmp.Ordering.{Ordering}
use Rattle.std.specs.Ordering.{is_lt}
use Rattle.lyndon.specs.Words.{dictionary}

-- the Lyndon word l in front of factors: it takes in the first of them as long as that is greater
abbrev pub merged : {A : Type 0} → (A → A → Ordering) → List A → List (List A) → List (List A)
merged ranks l [] = l ∷ []
merged ranks l (f ∷ fs) = cond (is_lt (dictionary ranks l f)) (merged ranks (l ++ f) fs) (l ∷ f ∷ fs)

abbrev pub factors : {A : Type 0} → (A → A → Ordering) → List A → List (List A)
factors ranks [] = []
factors ranks (x ∷ w) = merged ranks (x ∷ []) (factors ranks w)

-- is w before s and each shorter non-empty suffix of s?
abbrev pub leads : {A : Type 0} → (A → A → Ordering) → List A → List A → Bool
leads ranks w [] = true
leads ranks w (x ∷ s) = is_lt (dictionary ranks w (x ∷ s)) && leads ranks w s

abbrev pub is_lyndon : {A : Type 0} → (A → A → Ordering) → List A → Bool
is_lyndon ranks [] = false
is_lyndon ranks (x ∷ w) = leads ranks (x ∷ w) w

-- how many letters stand before the longest suffix that is Lyndon
abbrev pub ahead : {A : Type 0} → (A → A → Ordering) → List A → ℕ
ahead ranks [] = 0
ahead ranks (x ∷ w) = cond (is_lyndon ranks (x ∷ w)) 0 (suc (ahead ranks w))

-- how many letters the left part of the split has
abbrev pub split_place : {A : Type 0} → (A → A → Ordering) → List A → ℕ
split_place ranks [] = 0
split_place ranks (x ∷ w) = suc (ahead ranks w)
