-- Words of letter numbers, and the numbers that they spell.
use Rattle.std.specs.Prelude.{◌≡◌, ℕ, zero, suc, ◌+◌, ◌*◌, ◌/◌, ◌%◌, ◌^◌, ◌<◌, ◌⊎◌, List, [], ◌∷◌, length}
use Rattle.std.specs.List.{AllByRecursion}
use Rattle.letter_order.specs.Orders.{by_value}
use Rattle.lyndon.specs.Words.{Before}

-- each letter is below k
abbrev pub Over : ℕ → List ℕ → Type 0
Over k w = AllByRecursion (λ x. x < k) w

-- the code of a word: the number that it spells in base k, first letter highest
abbrev pub code : ℕ → List ℕ → ℕ
code k [] = 0
code k (x ∷ w) = x * k ^ length w + code k w

-- the word of m letters with the code c
abbrev pub spelled : ℕ → ℕ → ℕ → List ℕ
spelled k zero c = []
spelled k (suc m) c = c / k ^ m ∷ spelled k m (c % k ^ m)

-- listing order: shorter words first, words of one length by the dictionary
abbrev pub Listed : List ℕ → List ℕ → Type 0
Listed u v = (length u < length v) ⊎ ((length u ≡ length v) × Before by_value u v)
