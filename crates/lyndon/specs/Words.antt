-- Words over letters of which `ranks` is the order.
use Rattle.std.specs.Prelude.{◌≡◌, ℕ, ◌<◌, ◌≤◌, List, [], ◌∷◌, ◌++◌, length, drop}
use Rattle.std.specs.declared.cmp.Ordering.TheVariants.{Less, Equal, Greater}
use Rattle.std.specs.declared.cmp.Ordering.{Ordering}
use Rattle.std.specs.Ordering.{ordering_then}
use Rattle.std.specs.List.{AllByRecursion}

-- dictionary order: a proper prefix comes first; otherwise the first differing letter decides
abbrev pub dictionary : {A : Type 0} → (A → A → Ordering) → List A → List A → Ordering
dictionary ranks [] [] = Equal
dictionary ranks [] (y ∷ v) = Less
dictionary ranks (x ∷ u) [] = Greater
dictionary ranks (x ∷ u) (y ∷ v) = ordering_then (ranks x y) (dictionary ranks u v)

abbrev pub Before : {A : Type 0} → (A → A → Ordering) → List A → List A → Type 0
Before ranks u v = dictionary ranks u v ≡ Less

-- a Lyndon word: not empty, and before each of its proper non-empty suffixes
pub record Lyndon {A : Type 0} (ranks : A → A → Ordering) (w : List A) : Type 0 where
  pub some : 0 < length w
  pub least : (i : ℕ) → 0 < i → i < length w → Before ranks w (drop i w)

abbrev pub joined : {A : Type 0} → List (List A) → List A
joined [] = []
joined (f ∷ fs) = f ++ joined fs

-- no word is followed by a greater one
abbrev pub Falling : {A : Type 0} → (A → A → Ordering) → List (List A) → Type 0
Falling ranks [] = Unit {0}
Falling ranks (f ∷ []) = Unit {0}
Falling ranks (f ∷ g ∷ fs) = (Before ranks f g → ⊥) × Falling ranks (g ∷ fs)

-- fs are the factors of w: Lyndon words whose sequence is w, none followed by a greater one
pub record Factors {A : Type 0} (ranks : A → A → Ordering) (w : List A) (fs : List (List A)) : Type 0 where
  pub whole : joined fs ≡ w
  pub lyndon : AllByRecursion (Lyndon ranks) fs
  pub falls : Falling ranks fs

-- w is cut before its longest proper suffix that is Lyndon
pub record Split {A : Type 0} (ranks : A → A → Ordering) (w l r : List A) : Type 0 where
  pub whole : w ≡ l ++ r
  pub proper : 0 < length l
  pub lyndon : Lyndon ranks r
  pub longest : (i : ℕ) → 0 < i → Lyndon ranks (drop i w) → length l ≤ i
