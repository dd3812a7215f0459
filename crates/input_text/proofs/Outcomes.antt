-- What reading a line comes to.
use Rattle.std.proofs.Common.{◌≡◌, ℕ, List, [], ◌∷◌, ◌++◌, map, decimal, sym, refl, ap, ◌∙◌, arith}
use Rattle.std.proofs.lemmas.Fmt.{decimal_injective}
use Rattle.faults.specs.Faults.{found}
use Rattle.faults.specs.Outcome.{Outcome}
use Rattle.faults.specs.Outcome.Outcome.{answered, refused}
use Rattle.faults.specs.declared.Layer.TheVariants.{Text}
use Rattle.text.proofs.Reading.{one_place, means_or_stops}
use Rattle.input_text.specs.Shapes.{IsShape, ShapeOutcome, OneOutcome}
use Rattle.input_text.specs.Shapes.ShapeOutcome.{read, malformed}
use Rattle.text.specs.Symbols.{symbol}
use Rattle.input_text.specs.Words.{Words, IsWords, MeansWords, WordsOutcome, OneWordsOutcome}
use Rattle.input_text.specs.Words.WordsOutcome.{read as words, malformed as stopped}
use Rattle.input_text.specs.declared.shape.Numbers.{Numbers}
use Rattle.input_text.proofs.Spelled.{word_cut}
use Rattle.input_text.proofs.Decimals.{number_cut}

-- a line means one pair of numbers
pub one_meaning : (bs u v : List ℕ) → IsShape bs u → IsShape bs v → u ≡ v
one_meaning bs u v f g =
    let cut = number_cut f.0 g.0 (32 ∷ decimal f.1) (32 ∷ decimal g.1) f.3 g.3 (sym f.2 ∙ g.2) (λ d. absurd (omega (arith, d.0))) (λ d. omega (arith, d.0)) in
    let rest = cut.1 in
    let digits : decimal f.1 ≡ decimal g.1 = cc in
    let second : f.1 ≡ g.1 = decimal_injective f.1 g.1 (omega (arith, f.4)) (omega (arith, g.4)) digits in
    f.5 ∙ ap (λ k. k ∷ f.1 ∷ []) cut.0 ∙ ap (λ n. g.0 ∷ n ∷ []) second ∙ sym g.5

abbrev pair : ℕ → ℕ → Numbers
pair k n = record { k = k; n = n }

one_of : (line : List ℕ) (o p : Outcome Numbers) → ShapeOutcome line o → ShapeOutcome line p → o ≡ p
one_of line o p (read s f) (read t g) =
    let same = one_meaning line (s.k ∷ s.n ∷ []) (t.k ∷ t.n ∷ []) f g in
    let first : s.k ≡ t.k = cc in
    let second : s.n ≡ t.n = cc in
    ap (λ k. answered (pair k s.n)) first ∙ ap (λ n. answered (pair t.k n)) second
one_of line o p (read s f) (malformed q b) = absurd (means_or_stops IsShape line (s.k ∷ s.n ∷ []) q f b)
one_of line o p (malformed q a) (read t g) = absurd (means_or_stops IsShape line (t.k ∷ t.n ∷ []) q g a)
one_of line o p (malformed q a) (malformed r b) = ap (λ n. refused (found 15 Text n 0)) (one_place IsShape line q r a b)

pub one_outcome : OneOutcome
unfolding OneOutcome
one_outcome = one_of

-- ---- two words

abbrev three : ℕ → List ℕ → List ℕ → Words
three k u v = record { k = k; first = u; second = v }

pub same_words : (w z : Words) → w.k ≡ z.k → w.first ≡ z.first → w.second ≡ z.second → w ≡ z
same_words w z k first second =
    ap (λ n. three n w.first w.second) k ∙ (ap (λ u. three z.k u w.second) first ∙ ap (three z.k z.first) second)

-- a line means one number and two words
pub one_words : (bs : List ℕ) (w z : Words) → IsWords bs w → IsWords bs z → w ≡ z
one_words bs w z f g =
    let number = number_cut w.k z.k _ _ f.number g.number (sym f.line ∙ g.line) (λ d. absurd (omega (arith, d.0))) (λ d. omega (arith, d.0)) in
    let rest = number.1 in
    let words : map symbol w.first ++ (32 ∷ map symbol w.second) ≡ map symbol z.first ++ (32 ∷ map symbol z.second) = cc in
    let first = word_cut w.first z.first _ _ words f.first.1 g.first.1 refl refl in
    let more = first.1 in
    let symbols : map symbol w.second ≡ map symbol z.second = cc in
    let second = word_cut w.second z.second [] [] (ap (λ l. l ++ []) symbols) f.second.1 g.second.1 tt tt in
    same_words w z number.0 first.0 second.0

one_words_of : (line : List ℕ) (o p : Outcome Words) → WordsOutcome line o → WordsOutcome line p → o ≡ p
one_words_of line o p (words w f) (words z g) = ap answered (one_words line w z f g)
one_words_of line o p (words w f) (stopped q b) = absurd (means_or_stops MeansWords line (w ∷ []) q (w, f, refl) b)
one_words_of line o p (stopped q a) (words z g) = absurd (means_or_stops MeansWords line (z ∷ []) q (z, g, refl) a)
one_words_of line o p (stopped q a) (stopped r b) = ap (λ n. refused (found 15 Text n 0)) (one_place MeansWords line q r a b)

pub one_words_outcome : OneWordsOutcome
unfolding OneWordsOutcome
one_words_outcome = one_words_of
