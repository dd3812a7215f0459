-- What the parts of a report come to.
use Rattle.std.proofs.Common.{◌≡◌, ℕ, ◌+◌, ◌*◌, ◌≤◌, ltb, List, [], ◌∷◌, length, Ordering, sym, refl, ap, ◌∙◌, subst, arith, length-append, ltb-false, ltb-true, le-ltb}
use Rattle.std.proofs.lemmas.Fmt.{decimal_nonempty}
use Rattle.faults.specs.declared.Fault.{Fault}
use Rattle.faults.specs.declared.Layer.TheVariants.{Text, Word}
use Rattle.faults.specs.Faults.{found}
use Rattle.faults.specs.Outcome.{Outcome, refuse_if}
use Rattle.faults.specs.Outcome.Outcome.{answered, refused}
use Rattle.faults.proofs.Checks.{answered_by, refused_by}
use Rattle.letter_order.specs.Moves.{by_axis}
use Rattle.letter_order.specs.Orders.{reversed_order}
use Rattle.letter_order.specs.declared.moves.Move.{Move}
use Rattle.lyndon.specs.Factoring.{factors}
use Rattle.lyndon.specs.Words.{joined}
use Rattle.lyndon.specs.Theorems.{Factorizations}
use Rattle.lyndon.proofs.Factorization.{few_words}
use Rattle.text.specs.Input.{first_line, line as line_of}
use Rattle.text.specs.Lines.{fault_line}
use Rattle.trace_text.specs.Traces.{IsTrace, TraceOutcome, AxesFit, further, move_text}
use Rattle.trace_text.specs.Traces.TraceOutcome.{long, malformed as stopped, short, read}
use Rattle.word.specs.Calls.{factor_outcome, starts_of}
use Rattle.console.specs.Reports.{Prints}
use Rattle.console.proofs.Reports.{line_prints}
use Rattle.trace.specs.Printed.{LinePrints, Rising, factor_lines, start_lines}
use Rattle.trace.specs.Printed.LinePrints.{factored, malformed}
use Rattle.trace.proofs.Lines.{lines_of_words, rising}

-- ---- factors

module _ {A : Type 0} (ranks : A → A → Ordering) (theory : Factorizations ranks) (w : List A) where
  whole : 0 + length (joined (factors ranks w)) ≡ length w
  whole = omega (arith, ap length (theory w).exists.whole)

  pub rising_factors : (starts : List ℕ) (n : ℕ) → starts ≡ starts_of ranks w → n ≡ length w → Rising starts n
  rising_factors starts n are is =
      rw (are, is) (subst (Rising (starts_of ranks w)) whole (rising 0 (factors ranks w)))

  lines_of_factors : (starts : List ℕ) (n : ℕ) → starts ≡ starts_of ranks w → n ≡ length w → start_lines starts n ≡ factor_lines 0 (factors ranks w)
  lines_of_factors starts n are is =
      rw (are, is) (ap (start_lines (starts_of ranks w)) (sym whole) ∙ lines_of_words 0 (factors ranks w))

  -- a list that has room for as many starts as there are letters is not refused
  pub factors_fit : (e : Fault) (size : ℕ) → length w ≤ 65535 → length w ≤ size → refused e ≡ factor_outcome ranks w size → ⊥
  factors_fit e size few room told =
      let n : length (factors ranks w) ≤ size = omega (arith, few_words ranks (factors ranks w) (theory w).exists.lyndon, ap length (theory w).exists.whole) in
      let inner : refused e ≡ refuse_if (ltb size (length (factors ranks w))) (found 6 Word 0 0) (answered (length (factors ranks w))) = rw (le-ltb 65535 (length w) few) at told in
      omega (arith, ltb-true _ _ (refused_by _ e (found 6 Word 0 0) (length (factors ranks w)) inner).0)

-- ---- traces

further_long : (ms : List Move) → AxesFit ms → 3 * length ms ≤ length (further ms)
further_long [] h = omega arith
further_long (m ∷ ms) h =
    omega (arith, further_long ms h.1, length-append (move_text m) (further ms), decimal_nonempty m.axis (omega arith))

-- a move takes two bytes, and a space but for the first
few_moves : (bs : List ℕ) (ms : List Move) → IsTrace bs ms → 3 * length ms ≤ length bs + 1
few_moves bs [] f = omega arith
few_moves bs (m ∷ ms) f =
    omega (arith, further_long ms f.1.1, ap length f.0 ∙ length-append (move_text m) (further ms), decimal_nonempty m.axis (omega arith))

trace_read : (bs : List ℕ) (size : ℕ) (ms : List Move) (o : Outcome (List Move)) → TraceOutcome bs size o → o ≡ answered ms → IsTrace bs ms × (length ms ≤ size)
trace_read bs size ms o (long h) e = absurd (let z : ◌≡◌ {A = ℕ} 0 1 = cc in omega arith)
trace_read bs size ms o (stopped p h s) e = absurd (let z : ◌≡◌ {A = ℕ} 0 1 = cc in omega arith)
trace_read bs size ms o (short ns h f k) e = absurd (let z : ◌≡◌ {A = ℕ} 0 1 = cc in omega arith)
trace_read bs size ms o (read ns h f k) e = let same : ns ≡ ms = cc in (subst (IsTrace bs) same f, rw (← same) k)

-- a first line is short
few_bytes : (input line : List ℕ) → answered line ≡ first_line input → length line ≤ 4096
few_bytes input bs is =
    let a = answered_by (ltb 4096 (length (line_of input))) (found 14 Text 0 0) bs (line_of input) is in
    omega (arith, ap length a.1, ltb-false 4096 (length (line_of input)) a.0)

line_refused : (bs : List ℕ) (size : ℕ) (f : Fault) (o : Outcome (List Move)) → TraceOutcome bs size o → o ≡ refused f → length bs ≤ 4096 → 1366 ≤ size → LinePrints bs (fault_line f.number)
line_refused bs size f o (long h) e few room = absurd (omega arith)
line_refused bs size f o (stopped p h s) e few room = let same : found 15 Text p 0 ≡ f = cc in subst (λ g. LinePrints bs (fault_line g.number)) same (malformed p s)
line_refused bs size f o (short ms h g k) e few room = absurd (omega (arith, few_moves bs ms g))
line_refused bs size f o (read ms h g k) e few room = absurd (let z : ◌≡◌ {A = ℕ} 0 1 = cc in omega arith)

pub trace_printed : (input line : List ℕ) (size : ℕ) (ms : List Move) (starts : List ℕ) (n : ℕ) (printed : List ℕ) → Factorizations (reversed_order by_axis) → answered line ≡ first_line input → TraceOutcome line size (answered ms) → starts ≡ starts_of (reversed_order by_axis) ms → n ≡ length ms → printed ≡ start_lines starts n → Prints LinePrints input printed
trace_printed input line size ms starts n printed theory is told are many e =
    let all = e ∙ lines_of_factors (reversed_order by_axis) theory ms starts n are many in
    line_prints LinePrints input line printed is (subst (LinePrints line) (sym all) (factored ms (trace_read line size ms _ told refl).0))

pub trace_refused : (input line : List ℕ) (size : ℕ) (f : Fault) → answered line ≡ first_line input → TraceOutcome line size (refused f) → size ≡ 1366 → Prints LinePrints input (fault_line f.number)
trace_refused input line size f is told room =
    line_prints LinePrints input line _ is (line_refused line size f _ told refl (few_bytes input line is) (omega arith))
