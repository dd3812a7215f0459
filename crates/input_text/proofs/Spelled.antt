-- Symbols and their letters.
use Rattle.std.proofs.Common.{◌≡◌, ℕ, ◌+◌, ◌<◌, ◌≤◌, true, List, [], ◌∷◌, ◌++◌, map, length, get_or, set, take, drop, sym, refl, ap, ap₂, ◌∙◌, arith}
use Rattle.std.specs.List.{All, AllPass, prefix_len}
use Rattle.std.proofs.lemmas.Bool.{false≢true}
use Rattle.std.proofs.lemmas.Bool.Decides.{nat_tests}
use Rattle.std.proofs.lemmas.List.Elements.{All-head, All-map, All-tail}
use Rattle.std.proofs.lemmas.List.{get_or-take, length-map, length-take-le, map_more}
use Rattle.std.proofs.lemmas.List.Folds.{length-prefix_len}
use Rattle.std.proofs.lemmas.List.Sums.{prefix_len_passes, prefix_len_stops}
use Rattle.lent_list.specs.Lent.{over}
use Rattle.lent_list.proofs.Filling.{over_more}
use Rattle.text.specs.Reading.{Begins}
use Rattle.text.specs.Digits.{Digit}
use Rattle.text.proofs.Reading.{begins_at}
use Rattle.text.specs.Symbols.{symbol, letter, is_symbol}
use Rattle.text.proofs.Letters.{letter_symbol, symbol_is, symbol_back}
use Rattle.input_text.specs.Symbols.{NoSymbol}
use Rattle.input_text.specs.Words.{IsWord}

pub digit_is : (c : ℕ) → Digit c → is_symbol c ≡ true
digit_is c d = grind (arith, nat_tests, d)

-- the symbols with which a text begins
module _ (bs : List ℕ) (n : ℕ) (all : n ≡ prefix_len is_symbol bs) where
  pub leading_size : length (take n bs) ≡ n
  leading_size = rw all (length-prefix_len is_symbol bs)

  pub leading_pass : AllPass is_symbol (take n bs)
  leading_pass k d h =
      let within : k < n = omega (arith, leading_size) in
      ap is_symbol (get_or-take n bs k d within) ∙ prefix_len_passes is_symbol bs k d (omega arith)

  pub leading_whole : Begins NoSymbol (drop n bs)
  leading_whole = rw all (begins_at NoSymbol bs (prefix_len is_symbol bs) (prefix_len_stops is_symbol bs 0))

-- letters by their symbols
pub letters_back : (cs : List ℕ) → AllPass is_symbol cs → map symbol (map letter cs) ≡ cs
letters_back [] h = refl
letters_back (c ∷ cs) h =
    ap₂ ◌∷◌ (symbol_back c (All-head (λ x. is_symbol x ≡ true) c cs h)).1 (letters_back cs (All-tail (λ x. is_symbol x ≡ true) c cs h))

-- one letter more is written over a memory
pub letter_written : (old now cs : List ℕ) (i x : ℕ) → now ≡ over (map letter (take i cs)) old → i < length cs → length cs ≤ length old → x ≡ letter (get_or cs i 0) → set now i x ≡ over (map letter (take (i + 1) cs)) old
letter_written old now cs i x is here room letter_is =
    let w = map letter (take i cs) in
    let size : length w ≡ i = length-map (take i cs) letter ∙ length-take-le i cs (omega arith) in
    let more : map letter (take (i + 1) cs) ≡ w ++ x ∷ [] = map_more letter cs i 0 here ∙ ap (λ y. w ++ y ∷ []) (sym letter_is) in
    ap (λ l. set l i x) is
    ∙ (ap (λ n. set (over w old) n x) (sym size)
    ∙ (over_more old w x (omega (arith, size)) ∙ ap (λ l. over l old) (sym more)))

pub letters_word : (cs : List ℕ) → AllPass is_symbol cs → 0 < length cs → IsWord (map letter cs)
letters_word cs h some =
    (rw length-map some, All-map (λ x. x < 16) letter cs (λ i d here. (symbol_back (get_or cs i d) (h i d here)).0))

-- ---- the texts of words

no_more : (s : List ℕ) (y : ℕ) (t : List ℕ) → s ≡ symbol y ∷ t → y < 16 → Begins NoSymbol s → ⊥
no_more s y t e small stop =
    let none : NoSymbol (symbol y) = rw e at stop in
    false≢true (sym none ∙ symbol_is y small)

-- a word that is read as far as its symbols go is the only one with which the text can begin
pub word_cut : (u w s t : List ℕ) → map symbol u ++ s ≡ map symbol w ++ t → All (λ x. x < 16) u → All (λ x. x < 16) w → Begins NoSymbol s → Begins NoSymbol t → (u ≡ w) × (s ≡ t)
word_cut [] [] s t e small other stop end = (refl, e)
word_cut [] (y ∷ w) s t e small other stop end = absurd (no_more s y (map symbol w ++ t) e (All-head (λ x. x < 16) y w other) stop)
word_cut (x ∷ u) [] s t e small other stop end = absurd (no_more t x (map symbol u ++ s) (sym e) (All-head (λ z. z < 16) x u small) end)
word_cut (x ∷ u) (y ∷ w) s t e small other stop end =
    let first : symbol x ≡ symbol y = cc in
    let rest : map symbol u ++ s ≡ map symbol w ++ t = cc in
    let a = letter_symbol x (All-head (λ z. z < 16) x u small) in
    let b = letter_symbol y (All-head (λ z. z < 16) y w other) in
    let cut = word_cut u w s t rest (All-tail (λ z. z < 16) x u small) (All-tail (λ z. z < 16) y w other) stop end in
    (ap₂ ◌∷◌ (sym a ∙ ap letter first ∙ b) cut.0, cut.1)

-- a word begins with a symbol
pub first_symbol : (u : List ℕ) (c : ℕ) (s t : List ℕ) → IsWord u → c ∷ s ≡ map symbol u ++ t → NoSymbol c → ⊥
first_symbol [] c s t is_word e none = omega (arith, is_word.0)
first_symbol (x ∷ u) c s t is_word e none =
    let first : c ≡ symbol x = cc in
    false≢true (sym none ∙ ap is_symbol first ∙ symbol_is x (All-head (λ z. z < 16) x u is_word.1))

pub no_word : (u t : List ℕ) → IsWord u → [] ≡ map symbol u ++ t → ⊥
no_word [] t is_word e = omega (arith, is_word.0)
no_word (x ∷ u) t is_word e = absurd (cc)
