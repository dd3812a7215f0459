-- The letters of a coded word.
use Rattle.std.proofs.Common.{◌≡◌, ℕ, ◌+◌, ◌<◌, ◌≤◌, List, [], ◌∷◌, ◌++◌, map, length, get_or, take, set, sym, ap, ◌∙◌, arith}
use Rattle.std.proofs.ByRecursion.{All-get_or}
use Rattle.std.proofs.lemmas.List.{take_more, take_more_set, take_all, map_push}
use Rattle.lyndon.proofs.Codes.{length-spelled, spelled-over}
use Rattle.coded_word.specs.Words.{word_of}
use Rattle.coded_word.specs.declared.coded.CodedWord.{CodedWord}
use Rattle.text.specs.Symbols.{symbol}

module _ (w : CodedWord) where
  pub word_size : length (word_of w) ≡ w.length
  word_size = length-spelled w.shape.k w.length w.code

  pub letter_small : (i : ℕ) → i < length (word_of w) → get_or (word_of w) i 0 < 16
  letter_small i h =
      omega (arith, All-get_or (λ x. x < w.shape.k) (word_of w) i 0 h (spelled-over w.shape.k w.length w.code w.shape.some w.coded), w.shape.letters)

-- their symbols, letter by letter
module _ (letters symbols : List ℕ) (i : ℕ) (so_far : take i symbols ≡ map symbol (take i letters)) where
  pub symbols_more : (x : ℕ) → i < length letters → i < length symbols → x ≡ symbol (get_or letters i 0) → take (i + 1) (set symbols i x) ≡ map symbol (take (i + 1) letters)
  symbols_more x here room is =
      take_more_set symbols i x room
      ∙ ap (λ l. l ++ x ∷ []) so_far
      ∙ ap (λ y. map symbol (take i letters) ++ y ∷ []) is
      ∙ sym (ap (map symbol) (take_more letters i 0 here) ∙ map_push symbol (take i letters) (get_or letters i 0))

  pub symbols_all : (w : List ℕ) → letters ≡ w → length letters ≤ i → length symbols ≤ i → symbols ≡ map symbol w
  symbols_all w is all none =
      sym (take_all i symbols none) ∙ so_far ∙ ap (map symbol) (take_all i letters all ∙ is)
