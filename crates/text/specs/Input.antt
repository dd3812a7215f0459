-- What a program reads of its input. 10 is the line feed.
use Rattle.std.specs.Prelude.{◌≡◌, ℕ, cond, List, [], ◌∷◌, length, take, ◌==◌, nat_lt}
use Rattle.faults.specs.Faults.{found}
use Rattle.faults.specs.Outcome.{Outcome, refuse_if}
use Rattle.faults.specs.Outcome.Outcome.{answered}
use Rattle.faults.specs.declared.Layer.TheVariants.{Text}

-- the bytes before the first line feed, or all where there is none
abbrev pub line : List ℕ → List ℕ
line [] = []
line (c ∷ bs) = cond (c == 10) [] (c ∷ line bs)

-- the first line, which may not have more than 4,096 bytes
abbrev pub first_line : List ℕ → Outcome (List ℕ)
first_line bs = refuse_if (nat_lt 4096 (length (line bs))) (found 14 Text 0 0) (answered (line bs))

-- the first 4,097 bytes decide what reading a line comes to
unfoldable pub FrontDecides : Type 0
FrontDecides = (bs : List ℕ) → first_line (take 4097 bs) ≡ first_line bs
