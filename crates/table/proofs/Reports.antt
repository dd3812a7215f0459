-- What the parts of a report come to.
use Rattle.std.proofs.Common.{◌≡◌, ℕ, List, [], ◌∷◌, true, Ok, Err, Result, MatchResult, is_ok, sym, refl, ap, subst, arith}
use Rattle.std.specs.Result.{IsErrAnd}
use Rattle.std.proofs.lemmas.Bool.{false≢true}
use Rattle.faults.specs.declared.Fault.{Fault}
use Rattle.faults.specs.declared.Layer.TheVariants.{Text}
use Rattle.faults.specs.Faults.{found}
use Rattle.faults.specs.Outcome.{Outcome, told}
use Rattle.faults.specs.Outcome.Outcome.{answered, refused}
use Rattle.text.specs.Input.{first_line}
use Rattle.text.specs.Lines.{fault_line}
use Rattle.input_text.specs.declared.shape.Numbers.{Numbers}
use Rattle.input_text.specs.Shapes.{IsShape, ShapeOutcome}
use Rattle.input_text.specs.Shapes.ShapeOutcome.{read, malformed as stopped}
use Rattle.bracket_table.specs.Faults.{table_fault}
use Rattle.bracket_table.specs.Views.{shape_checked}
use Rattle.bracket_table.specs.declared.fault.TableFault.{TableFault}
use Rattle.table.specs.Printed.{LinePrints, printed_table}
use Rattle.console.specs.Reports.{OutcomePrints, Prints}
use Rattle.console.proofs.Reports.{line_prints}
use Rattle.table.specs.Printed.LinePrints.{shape, malformed}

-- ---- lines

numbers_read : (bs : List ℕ) (s : Numbers) (o : Outcome Numbers) → ShapeOutcome bs o → o ≡ answered s → IsShape bs (s.k ∷ s.n ∷ [])
numbers_read bs s o (read t f) e = let same : t ≡ s = cc in subst (λ z. IsShape bs (z.k ∷ z.n ∷ [])) same f
numbers_read bs s o (stopped p h) e = absurd (let z : ◌≡◌ {A = ℕ} 0 1 = cc in omega arith)

numbers_malformed : (bs : List ℕ) (f : Fault) (o : Outcome Numbers) → ShapeOutcome bs o → o ≡ refused f → LinePrints bs (fault_line f.number)
numbers_malformed bs f o (read s h) e = absurd (let z : ◌≡◌ {A = ℕ} 0 1 = cc in omega arith)
numbers_malformed bs f o (stopped p h) e =
    let same : f ≡ found 15 Text p 0 = cc in malformed p h (ap (λ g. fault_line g.number) same)

pub numbers_refused : (input line : List ℕ) (f : Fault) → answered line ≡ first_line input → ShapeOutcome line (refused f) → Prints LinePrints input (fault_line f.number)
numbers_refused input line f is told = line_prints LinePrints input line _ is (numbers_malformed line f _ told refl)

-- what a shape prints, where opening a table comes to `opened`
shape_prints : (input line : List ℕ) (s : Numbers) (opened : Outcome (Unit {0})) (printed : List ℕ) → answered line ≡ first_line input → ShapeOutcome line (answered s) → opened ≡ shape_checked s.k s.n → OutcomePrints (λ _ lines. lines ≡ printed_table s.k s.n) opened printed → Prints LinePrints input printed
shape_prints input line s opened printed is told same p =
    line_prints LinePrints input line printed is (shape s.k s.n (numbers_read line s _ told refl) (subst (λ o. OutcomePrints (λ _ lines. lines ≡ printed_table s.k s.n) o printed) same p))

-- the fault with which a table is not opened
pub shape_refused : (input line : List ℕ) (s : Numbers) (r : Result (Unit {0}) TableFault) (f : Fault) → answered line ≡ first_line input → ShapeOutcome line (answered s) → told (λ done. done) table_fault r ≡ shape_checked s.k s.n → MatchResult r (λ x. ◌≡◌ {A = Result (Unit {0}) Fault} (Err f) (Ok x)) (λ e. IsErrAnd {T = Unit {0}} (Err f) (λ g. g ≡ table_fault e)) → Prints LinePrints input (fault_line f.number)
shape_refused input line s (Ok done) f is told same m = absurd (let z : ◌≡◌ {A = ℕ} 0 1 = cc in omega arith)
shape_refused input line s (Err e) f is told same m =
    shape_prints input line s _ _ is told same (ap (λ g. fault_line g.number) m)

pub table_printed : (input line : List ℕ) (s : Numbers) (r : Result (Unit {0}) TableFault) (printed : List ℕ) → answered line ≡ first_line input → ShapeOutcome line (answered s) → told (λ done. done) table_fault r ≡ shape_checked s.k s.n → true ≡ is_ok r → printed ≡ printed_table s.k s.n → Prints LinePrints input printed
table_printed input line s (Ok done) printed is told same ok e = shape_prints input line s _ _ is told same e
table_printed input line s (Err f) printed is told same ok e = absurd (false≢true (sym ok))
