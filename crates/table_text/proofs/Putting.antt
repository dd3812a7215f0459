-- Texts that are put into a buffer.
use Rattle.std.proofs.Common.{ℕ, ◌+◌, ◌<◌, List, [], ◌∷◌, ◌++◌, length, set, refl, subst, append_assoc, arith}
use Rattle.std.proofs.lemmas.List.{take_more_set, drop-set-lt}
use Rattle.text.specs.Pieces.{Puts}
use Rattle.text.proofs.Putting.{puts_then}
use Rattle.bracket_text.specs.Brackets.{pair}

pub puts_one : (i x : ℕ) (a : List ℕ) → i < length a → Puts i (i + 1) a (set a i x) (x ∷ [])
puts_one i x a h = record { end = refl; front = take_more_set a i x h; rest = drop-set-lt (i + 1) a i x (omega arith) }

-- a bracket is put by its two parts and three bytes
pub puts_pair : (i j k : ℕ) (a b d s t : List ℕ) → i < length a → j < length b → k < length d → Puts (i + 1) j (set a i 91) b s → Puts (j + 1) k (set b j 44) d t → Puts i (k + 1) a (set d k 93) (pair s t)
puts_pair i j k a b d s t hi hj hk p q =
    let z : Puts i (k + 1) a (set d k 93) (((91 ∷ s) ++ (44 ∷ t)) ++ 93 ∷ []) = puts_then (puts_then (puts_then (puts_one i 91 a hi) p) (puts_then (puts_one j 44 b hj) q)) (puts_one k 93 d hk) in
    subst (Puts i (k + 1) a (set d k 93)) (append_assoc (91 ∷ s) (44 ∷ t) (93 ∷ [])) z
