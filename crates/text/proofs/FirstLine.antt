-- The first line of an input.
use Rattle.std.proofs.Common.{◌≡◌, ℕ, zero, suc, ◌+◌, true, false, cond, eqb, ltb, List, [], ◌∷◌, length, take, refl, ap, arith, length-take, unwrap_or, ◌==◌, not}
use Rattle.std.proofs.lemmas.Grind.{common_steps}
use Rattle.std.proofs.lemmas.List.Sums.{prefix_len-le-length, take_while-cons}
use Rattle.std.specs.List.{position, position_or_len, before_first}
use Rattle.faults.specs.Faults.{found}
use Rattle.faults.specs.Outcome.Outcome.{answered, refused}
use Rattle.faults.specs.declared.Layer.TheVariants.{Text}
use Rattle.text.specs.Input.{line, FrontDecides}

-- the line of a front is a front of the line
line_take : (n : ℕ) (bs : List ℕ) → line (take n bs) ≡ take n (line bs)
line_take zero bs = refl
line_take (suc n) [] = refl
line_take (suc n) (c ∷ bs) =
    elim (eqb c 10) as (λ b. cond b [] (c ∷ line (take n bs)) ≡ take (suc n) (cond b [] (c ∷ line bs)))
    [ true ↦ refl | false ↦ ap (λ l. c ∷ l) (line_take n bs) ]

-- where a line of more than n bytes is refused, n + 1 bytes decide
module _ {X : Type 0} (no : X) (yes : List ℕ → X) (n : ℕ) where
  abbrev limited : List ℕ → X
  limited bs = cond (ltb n (length (line bs))) no (yes (line bs))

  decided : (bs : List ℕ) → limited (take (n + 1) bs) ≡ limited bs
  decided bs = let front = line_take (n + 1) bs in rw front (grind (arith, common_steps))

pub front_decides : FrontDecides
unfolding FrontDecides
front_decides = decided (refused (found 14 Text 0 0)) answered 4096

-- it is what stands before the first line feed
line_is : (bs : List ℕ) → line bs ≡ before_first (λ c. c == 10) bs
line_is [] = refl
line_is (c ∷ bs) = let more = take_while-cons (λ x. not (x == 10)) c bs in grind (arith, common_steps, line_is bs)

line_size : (bs : List ℕ) → length (line bs) ≡ position_or_len (λ c. c == 10) bs
line_size bs = let most = prefix_len-le-length (λ c. not (c == 10)) bs in rw line_is (simp length-take (omega arith))

pub line_end : (bs : List ℕ) → unwrap_or (position (λ c. c == 10) bs) (length bs) ≡ length (line bs)
line_end bs = let most = prefix_len-le-length (λ c. not (c == 10)) bs in rw line_size (grind (arith, common_steps))

pub line_front : (bs : List ℕ) → take (length (line bs)) bs ≡ line bs
line_front bs = rw (line_size, line_is)
