-- What the parts of a report come to.
use Rattle.std.proofs.Common.{◌≡◌, ℕ, List, Ok, Err, Result, MatchResult, refl, ap, ap₂, ◌∙◌, subst, arith}
use Rattle.faults.specs.declared.Fault.{Fault}
use Rattle.faults.specs.declared.Layer.TheVariants.{Text}
use Rattle.faults.specs.Faults.{found}
use Rattle.faults.specs.Outcome.{Outcome, told, checked}
use Rattle.faults.specs.Outcome.Outcome.{answered, refused}
use Rattle.faults.proofs.Checks.{passed, stopped}
use Rattle.text.specs.Input.{first_line}
use Rattle.text.specs.Lines.{fault_line}
use Rattle.ring.specs.Modulo.{ring_64}
use Rattle.word.specs.Faults.{letters_checked, word_fault}
use Rattle.word.specs.declared.fault.WordFault.{WordFault}
use Rattle.input_text.specs.Words.{Words, IsWords, WordsOutcome}
use Rattle.input_text.specs.Words.WordsOutcome.{read, malformed as stops}
use Rattle.coded_word.specs.declared.shape.Shape.{Shape}
use Rattle.bracket_table.specs.Views.{shape_checked}
use Rattle.console.specs.Reports.{OutcomePrints, Prints, StopPrints}
use Rattle.console.specs.declared.Stop.{Stop}
use Rattle.console.specs.declared.Stop.TheVariants.{Refused, NoMemory}
use Rattle.console.proofs.Reports.{line_prints}
use Rattle.coords.specs.Printed.{CoordinatesPrint, LinePrints, WordsPrint, difference, size, uv, vu}
use Rattle.coords.specs.Printed.LinePrints.{words, malformed}
use Rattle.coords.specs.Products.{ProductsPrint, both}
use Rattle.coords.specs.declared.products.Products.{Products}

-- ---- lines

words_read : (bs : List ℕ) (w : Words) (o : Outcome Words) → WordsOutcome bs o → o ≡ answered w → IsWords bs w
words_read bs w o (read z f) e = let same : z ≡ w = cc in subst (IsWords bs) same f
words_read bs w o (stops p h) e = absurd (let z : ◌≡◌ {A = ℕ} 0 1 = cc in omega arith)

words_malformed : (bs : List ℕ) (f : Fault) (o : Outcome Words) → WordsOutcome bs o → o ≡ refused f → LinePrints bs (fault_line f.number)
words_malformed bs f o (read z h) e = absurd (let z : ◌≡◌ {A = ℕ} 0 1 = cc in omega arith)
words_malformed bs f o (stops p h) e =
    let same : f ≡ found 15 Text p 0 = cc in malformed p h (ap (λ g. fault_line g.number) same)

pub words_refused : (input line : List ℕ) (f : Fault) → answered line ≡ first_line input → WordsOutcome line (refused f) → Prints LinePrints input (fault_line f.number)
words_refused input line f is told = line_prints LinePrints input line _ is (words_malformed line f _ told refl)

-- what words print is what their line prints
pub words_printed : {V : Type 0} (items : V → List ℕ) (input line : List ℕ) (w : Words) (r : Result V Stop) → answered line ≡ first_line input → WordsOutcome line (answered w) → MatchResult r (λ v. WordsPrint w (items v)) (StopPrints (WordsPrint w)) → MatchResult r (λ v. Prints LinePrints input (items v)) (StopPrints (Prints LinePrints input))
words_printed items input line w r is told p = go r p
  where
    print : (printed : List ℕ) → WordsPrint w printed → Prints LinePrints input printed
    print printed q = line_prints LinePrints input line printed is (words w (words_read line w _ told refl) q)

    go : (r : Result _ Stop) → MatchResult r (λ v. WordsPrint w (items v)) (StopPrints (WordsPrint w)) → MatchResult r (λ v. Prints LinePrints input (items v)) (StopPrints (Prints LinePrints input))
    go (Ok v) q = print (items v) q
    go (Err (Refused f)) q = print (fault_line f.number) q
    go (Err (NoMemory e)) q = tt

-- ---- words

module _ (w : Words) where
  abbrev prints : List ℕ → Type 0
  prints lines = CoordinatesPrint w.k (size w) (difference ring_64 w.k (size w) (uv w) (vu w)) lines

  -- what is printed, where the checks come to o and l
  print : (o l : Outcome (Unit {0})) (printed : List ℕ) → o ≡ shape_checked w.k (size w) → l ≡ letters_checked w.k (uv w) → OutcomePrints (λ _ lines. prints lines) (checked o l) printed → WordsPrint w printed
  print o l printed e f p = subst (λ q. OutcomePrints (λ _ lines. prints lines) q printed) (ap₂ checked e f) p

  pub shape_refused : (f : Fault) → refused f ≡ shape_checked w.k (size w) → WordsPrint w (fault_line f.number)
  shape_refused f e = print (refused f) (letters_checked w.k (uv w)) _ e refl refl

  pub letters_refused : (e : WordFault) (b : List ℕ × List ℕ) → answered tt ≡ shape_checked w.k (size w) → refused (word_fault e) ≡ checked (letters_checked w.k (uv w)) (answered b) → WordsPrint w (fault_line (word_fault e).number)
  letters_refused e b shape q = print (answered tt) (refused (word_fault e)) _ shape (stopped (letters_checked w.k (uv w)) (word_fault e) b q) refl

  pub bracket_printed : (s : Shape) (p : Products) (printed : List ℕ) → ProductsPrint p printed → p.uv.shape ≡ s → answered (both p) ≡ checked (letters_checked s.k (uv w)) (answered (uv w, vu w)) → answered tt ≡ shape_checked w.k (size w) → s.k ≡ w.k → s.n ≡ size w → WordsPrint w printed
  bracket_printed s p printed q is letters shape k n =
      let l = passed (letters_checked s.k (uv w)) (answered (uv w, vu w)) (both p) letters in
      let words : both p ≡ (uv w, vu w) = cc in
      let of : ℕ → ℕ → List ℕ × List ℕ → Type 0 = λ k n b. CoordinatesPrint k n (difference ring_64 k n b.0 b.1) printed in
      print (answered tt) (answered tt) printed shape (l.0 ∙ ap (λ m. letters_checked m (uv w)) k)
      (subst (λ b. of w.k (size w) b) words
      (subst (λ m. of w.k m (both p)) n (subst (λ m. of m s.n (both p)) k (subst (λ z. of z.k z.n (both p)) is q))))
