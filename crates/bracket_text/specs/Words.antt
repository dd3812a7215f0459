-- The letters of a word that was read.
use Rattle.std.specs.Prelude.{ℕ, List, take}
use Rattle.bracket_text.specs.declared.text_word.TextWord.{TextWord}

abbrev pub letters_in : TextWord → List ℕ
letters_in w = take w.count w.places
