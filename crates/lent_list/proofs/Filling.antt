-- A memory that is filled from its front.
use Rattle.std.proofs.Common.{◌≡◌, ℕ, ◌<◌, ◌≤◌, List, [], ◌∷◌, ◌++◌, length, take, set, Ok, Err, Result, sym, refl, ap, ◌∙◌, arith, MatchResult}
use Rattle.std.proofs.lemmas.Grind.{common_steps}
use Rattle.std.proofs.lemmas.List.{drop_more, set_at}
use Rattle.std.proofs.lemmas.Slice.{drop-append-drop}
use Rattle.lent_list.specs.Lent.{over}

-- the elements are the front of the memory
pub over_front : {X : Type 0} (count : ℕ) (memory : List X) → over (take count memory) memory ≡ memory
over_front count memory = grind (arith, common_steps)

module _ {X : Type 0} (old : List X) where
  pub length_over : (w : List X) → length w ≤ length old → length (over w old) ≡ length old
  length_over w h = grind (arith, common_steps)

  -- what is filled further is filled from the start
  pub over-over : (a b : List X) → length a ≤ length b → over b (over a old) ≡ over b old
  over-over a b h = ap (λ l. b ++ l) (drop-append-drop (length a) old a (length b) h refl)

  pub over_more : (w : List X) (x : X) → length w < length old → set (over w old) (length w) x ≡ over (w ++ x ∷ []) old
  over_more w x h = let rest = drop_more old (length w) x h in grind (arith, common_steps, set_at)

  -- where there is room, a push puts one element behind the others
  pub put_more : {E : Type 0} (w was elements places : List X) (x : X) (Kept : Type 0) (r : Result (Unit {0}) E) → was ≡ over w old → length w < length old → MatchResult r (λ _. (length w < length was) × (elements ≡ w ++ x ∷ []) × (places ≡ set was (length w) x)) (λ _. (length w ≡ length was) × Kept) → (elements ≡ w ++ x ∷ []) × (places ≡ over elements old)
  put_more w was elements places x Kept (Ok u) is room done =
      (done.1, done.2 ∙ ap (λ l. set l (length w) x) is ∙ over_more w x room ∙ ap (λ l. over l old) (sym done.1))
  put_more w was elements places x Kept (Err e) is room full =
      absurd (omega (arith, full.0, ap length is ∙ length_over w (omega arith)))

-- what filling a list step by step asks for
pub ruleset fills = (over_front, length_over, over-over)
