-- What the calls on words come to. `ranks` is the order of the letters.
use Rattle.std.specs.Prelude.{ℕ, zero, suc, ◌+◌, cond, not, List, [], ◌∷◌, length, take, drop, Some, None, Option, nat_lt}
use Rattle.std.specs.declared.cmp.Ordering.{Ordering}
use Rattle.std.specs.Borrow.{Bor}
use Rattle.std.specs.Option.{option_map}
use Rattle.faults.specs.declared.Layer.TheVariants.{Word}
use Rattle.faults.specs.Faults.{found}
use Rattle.faults.specs.Outcome.{Outcome, refuse_if}
use Rattle.faults.specs.Outcome.Outcome.{answered}
use Rattle.lyndon.specs.Factoring.{factors, is_lyndon, split_place}
use Rattle.word.specs.Faults.{unless_long}

-- two parts of a word, cut at a place
abbrev pub cut_at : {A : Type 0} → ℕ → List A → Option (List A × List A)
cut_at place w = Some (take place w, drop place w)

-- the two parts that a pair of slices shows
abbrev pub shown : {A : Type 0} → Option (Bor (List A) × Bor (List A)) → Option (List A × List A)
shown = option_map (λ parts. (parts.0.now, parts.1.now))

-- ---- first

abbrev pub cut_behind : {A : Type 0} → List A → List (List A) → Option (List A × List A)
cut_behind w [] = None
cut_behind w (f ∷ fs) = cut_at (length f) w

-- the first factor and the rest, or none for the empty word
abbrev pub first_outcome : {A : Type 0} → (A → A → Ordering) → List A → Outcome (Option (List A × List A))
first_outcome ranks w = unless_long (length w) (answered (cut_behind w (factors ranks w)))

-- ---- factor

-- where words begin that stand one behind the other from a place on
abbrev pub starts_from : {A : Type 0} → ℕ → List (List A) → List ℕ
starts_from place [] = []
starts_from place (f ∷ fs) = place ∷ starts_from (place + length f) fs

-- the starts of the factors of a word
abbrev pub starts_of : {A : Type 0} → (A → A → Ordering) → List A → List ℕ
starts_of ranks w = starts_from 0 (factors ranks w)

-- how many factors there are; 6 where a memory of this size is too short for their starts
abbrev pub factor_outcome : {A : Type 0} → (A → A → Ordering) → List A → ℕ → Outcome ℕ
factor_outcome ranks w size =
    unless_long (length w)
    (refuse_if (nat_lt size (length (factors ranks w))) (found 6 Word 0 0) (answered (length (factors ranks w))))

-- so many places, a period apart
abbrev pub paced : ℕ → ℕ → ℕ → List ℕ
paced place period zero = []
paced place period (suc count) = place ∷ paced (place + period) period count

-- ---- split

-- the two parts of the split, or none for a single letter
abbrev pub split_parts : {A : Type 0} → (A → A → Ordering) → List A → Option (List A × List A)
split_parts ranks w = cond (nat_lt (length w) 2) None (cut_at (split_place ranks w) w)

-- 18 where the word is not Lyndon
abbrev pub split_outcome : {A : Type 0} → (A → A → Ordering) → List A → Outcome (Option (List A × List A))
split_outcome ranks w =
    unless_long (length w) (refuse_if (not (is_lyndon ranks w)) (found 18 Word 0 0) (answered (split_parts ranks w)))
