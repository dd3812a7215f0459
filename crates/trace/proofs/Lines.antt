-- Lines of factors, by their starts.
use Rattle.std.proofs.Common.{◌≡◌, ℕ, ◌+◌, ◌-◌, ◌<◌, ◌≤◌, List, [], ◌∷◌, ◌++◌, length, decimal, refl, ap, ◌∙◌, arith, length-append}
use Rattle.std.proofs.lemmas.Fmt.{length-decimal-le}
use Rattle.lyndon.specs.Words.{joined}
use Rattle.text.specs.Lines.{factor_line}
use Rattle.word.specs.Calls.{starts_from}
use Rattle.trace.specs.Printed.{Rising, factor_lines, next_start, start_lines}

pub factor_line_short : (start size : ℕ) → start < 65536 → size < 65536 → length (factor_line start size) ≤ 16
factor_line_short start size h k =
    let a = length-decimal-le 5 start (omega arith) (omega arith) (omega arith) in
    let b = length-decimal-le 5 size (omega arith) (omega arith) (omega arith) in
    omega (arith, length-append (decimal start) (32 ∷ (decimal size ++ 10 ∷ [])), length-append (decimal size) (10 ∷ []))

-- behind a word of words that stand one behind the other, the next one starts
ends : {A : Type 0} (place : ℕ) (f : List A) (fs : List (List A)) → next_start (starts_from (place + length f) fs) (place + length (joined (f ∷ fs))) ≡ place + length f
ends place f [] = omega (arith, length-append f (joined []))
ends place f (g ∷ gs) = refl

-- the place behind all, counted from the second word on
behind : {A : Type 0} (place : ℕ) (f : List A) (fs : List (List A)) → place + length (joined (f ∷ fs)) ≡ place + length f + length (joined fs)
behind place f fs = omega (arith, length-append f (joined fs))

pub rising : {A : Type 0} (place : ℕ) (fs : List (List A)) → Rising (starts_from place fs) (place + length (joined fs))
rising place [] = tt
rising place (f ∷ fs) = (omega (arith, ends place f fs), rw (behind place f fs) (rising (place + length f) fs))

-- the lines by starts are those of the words
pub lines_of_words : {A : Type 0} (place : ℕ) (fs : List (List A)) → start_lines (starts_from place fs) (place + length (joined fs)) ≡ factor_lines place fs
lines_of_words place [] = refl
lines_of_words place (f ∷ fs) =
    let n = place + length (joined (f ∷ fs)) in
    let size : next_start (starts_from (place + length f) fs) n - place ≡ length f = omega (arith, ends place f fs) in
    ap (λ m. factor_line place m ++ start_lines (starts_from (place + length f) fs) n) size
    ∙ ap (λ m. factor_line place (length f) ++ start_lines (starts_from (place + length f) fs) m) (behind place f fs)
    ∙ ap (λ l. factor_line place (length f) ++ l) (lines_of_words (place + length f) fs)
