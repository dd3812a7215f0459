-- Lines of text. 32 is the space, 10 the line feed.
use Rattle.std.specs.Prelude.{ℕ, cond, List, [], ◌∷◌, ◌++◌, length, codes, decimal, nat_lt}
use Rattle.faults.specs.Faults.{found}
use Rattle.faults.specs.Outcome.{Outcome, refuse_if}
use Rattle.faults.specs.Outcome.Outcome.{answered}
use Rattle.faults.specs.declared.Layer.TheVariants.{Text}
use Rattle.lent_list.specs.Lent.{over}

-- where a factor starts, and how many letters it has
abbrev pub factor_line : ℕ → ℕ → List ℕ
factor_line start size = decimal start ++ (32 ∷ (decimal size ++ 10 ∷ []))

-- the number of a fault
abbrev pub fault_line : ℕ → List ℕ
fault_line number = codes "fault " ++ (decimal number ++ 10 ∷ [])

-- a shape, and how many entries it has
abbrev pub header_line : ℕ → ℕ → ℕ → List ℕ
header_line k n count = decimal k ++ (32 ∷ (decimal n ++ (32 ∷ (decimal count ++ 10 ∷ []))))

-- a number alone
abbrev pub number_line : ℕ → List ℕ
number_line number = decimal number ++ 10 ∷ []

-- A line is written by what the call answers and by what stands in the buffer then: each contract says both, in a word each.

-- how many bytes are written into a buffer, which may be too short
abbrev pub written : List ℕ → List ℕ → Outcome ℕ
written bytes buffer = refuse_if (nat_lt (length buffer) (length bytes)) (found 7 Text 0 0) (answered (length bytes))

-- what stands in the buffer then
abbrev pub left : List ℕ → List ℕ → List ℕ
left bytes buffer = cond (nat_lt (length buffer) (length bytes)) buffer (over bytes buffer)
