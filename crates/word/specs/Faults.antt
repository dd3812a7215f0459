-- The faults of the word layer.
use Rattle.std.specs.Prelude.{ℕ, suc, cond, List, [], ◌∷◌, length, ◌==◌, nat_lt}
use Rattle.faults.specs.declared.Fault.{Fault}
use Rattle.faults.specs.declared.Layer.TheVariants.{Word}
use Rattle.faults.specs.Faults.{found}
use Rattle.faults.specs.Outcome.{Outcome, refuse_if}
use Rattle.faults.specs.Outcome.Outcome.{answered}
use Rattle.word.specs.declared.fault.WordFault.{WordFault}
use Rattle.word.specs.declared.fault.WordFault.TheVariants.{ShortMemory, OtherLength, ForeignLetter, LongWord, NotLyndon}

abbrev pub word_fault : WordFault → Fault
word_fault ShortMemory = found 6 Word 0 0
word_fault OtherLength = found 12 Word 0 0
word_fault (ForeignLetter position) = found 13 Word 0 position
word_fault LongWord = found 17 Word 0 0
word_fault NotLyndon = found 18 Word 0 0

-- a list's memory of this size is to hold so many elements
abbrev pub room_checked : ℕ → ℕ → Outcome (Unit {0})
room_checked size elements = refuse_if (nat_lt size elements) (found 6 Word 0 0) (answered tt)

-- a word of more than 65,535 letters is refused
abbrev pub unless_long : {X : Type 0} → ℕ → Outcome X → Outcome X
unless_long letters rest = refuse_if (nat_lt 65535 letters) (found 17 Word 0 0) rest

-- a word is to have 1 to n letters
abbrev pub length_checked : ℕ → ℕ → Outcome (Unit {0})
length_checked n letters =
    refuse_if (letters == 0) (found 12 Word 0 0) (refuse_if (nat_lt n letters) (found 12 Word 0 0) (answered tt))

-- the position of the first letter that is not below k, or how many letters there are
abbrev pub foreign : ℕ → List ℕ → ℕ
foreign k [] = 0
foreign k (x ∷ w) = cond (nat_lt x k) (suc (foreign k w)) 0

-- the letters of a word are to be below k
abbrev pub letters_checked : ℕ → List ℕ → Outcome (Unit {0})
letters_checked k w = refuse_if (nat_lt (foreign k w) (length w)) (found 13 Word 0 (foreign k w)) (answered tt)
