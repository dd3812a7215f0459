-- The letters of a coded word, and its parts.
use Rattle.std.specs.Prelude.{◌≡◌, ℕ, List, take, drop}
use Rattle.lyndon.specs.Codes.{spelled}
use Rattle.lyndon.specs.Entries.{cut}
use Rattle.coded_word.specs.Codes.{Codes}
use Rattle.coded_word.specs.declared.coded.CodedWord.{CodedWord}
use Rattle.coded_word.specs.declared.coded.Letters.{Letters}
use Rattle.coded_word.specs.declared.shape.Shape.{Shape}

-- its letters
abbrev pub word_of : CodedWord → List ℕ
word_of w = spelled w.shape.k w.length w.code

-- the letters that are shown
abbrev pub letters_in : Letters → List ℕ
letters_in l = take l.count l.places

-- the parts of its split
abbrev pub left_of : CodedWord → List ℕ
left_of w = take (cut (word_of w)) (word_of w)

abbrev pub right_of : CodedWord → List ℕ
right_of w = drop (cut (word_of w)) (word_of w)

-- w is the word u of the shape s
abbrev pub IsWord : Shape → List ℕ → CodedWord → Type 0
IsWord s u w = (w.shape ≡ s) × Codes s.k u w.length w.code
