-- What reading a trace comes to.
use Rattle.std.proofs.Common.{◌≡◌, ℕ, ◌<◌, ◌≤◌, ltb, List, [], ◌∷◌, ◌++◌, length, decimal, sym, refl, ap, ◌∙◌, arith}
use Rattle.std.proofs.lemmas.Fmt.{decimal_injective}
use Rattle.std.proofs.lemmas.Bool.{ltb-true}
use Rattle.faults.specs.Faults.{found, passed}
use Rattle.faults.specs.Outcome.{Outcome}
use Rattle.faults.specs.Outcome.Outcome.{answered, refused}
use Rattle.faults.specs.declared.Fault.{Fault}
use Rattle.faults.specs.declared.Layer.TheVariants.{Text, Word}
use Rattle.faults.proofs.Checks.{refused_by}
use Rattle.letter_order.specs.declared.moves.Move.{Move}
use Rattle.word.specs.Faults.{room_checked}
use Rattle.text.specs.Faults.{text_fault}
use Rattle.text.specs.Reading.{Stops}
use Rattle.trace_text.specs.Traces.{sign, move_text, further, trace, AxesFit, IsTrace, TraceOutcome, OneOutcome}
use Rattle.trace_text.specs.Traces.TraceOutcome.{long, malformed, short, read}
use Rattle.text.specs.declared.fault.TextFault.{TextFault}
use Rattle.text.specs.declared.fault.TextFault.TheVariants.{Malformed}
use Rattle.trace_text.proofs.Axes.{decimal_digits}
use Rattle.text.proofs.Reading.{one_place, means_or_stops}
use Rattle.trace_text.proofs.Runs.{same_run}
use Rattle.trace_text.proofs.Tracing.{along, further_stops, sign_same}

-- a move, and what is behind it
move_split : (m n : Move) (u v : List Move) → move_text m ++ further u ≡ move_text n ++ further v → m.axis < 256 → n.axis < 256 → (m ≡ n) × (further u ≡ further v)
move_split m n u v e f g =
    let s : sign m.sense ≡ sign n.sense = cc in
    let t : decimal m.axis ++ further u ≡ decimal n.axis ++ further v = cc in
    let r = same_run (decimal m.axis) (further u) (decimal n.axis) (further v) t (decimal_digits m.axis f) (decimal_digits n.axis g) (further_stops u) (further_stops v) in
    let axis : m.axis ≡ n.axis = decimal_injective m.axis n.axis (omega arith) (omega arith) r.0 in
    (ap (along m.sense) axis ∙ ap (λ x. along x n.axis) (sign_same m.sense n.sense s), r.1)

further_one : (u v : List Move) → further u ≡ further v → AxesFit u → AxesFit v → u ≡ v
further_one [] [] e f g = refl
further_one [] (n ∷ v) e f g = absurd (cc)
further_one (m ∷ u) [] e f g = absurd (cc)
further_one (m ∷ u) (n ∷ v) e f g =
    let t : move_text m ++ further u ≡ move_text n ++ further v = cc in
    let r = move_split m n u v t f.0 g.0 in
    let rest = further_one u v r.1 f.1 g.1 in
    let first = r.0 in
    cc

-- a text means one list of moves
trace_one : (u v : List Move) → trace u ≡ trace v → AxesFit u → AxesFit v → u ≡ v
trace_one [] [] e f g = refl
trace_one [] (n ∷ v) e f g = absurd (cc)
trace_one (m ∷ u) [] e f g = absurd (cc)
trace_one (m ∷ u) (n ∷ v) e f g =
    let r = move_split m n u v e f.0 g.0 in
    let rest = further_one u v r.1 f.1 g.1 in
    let first = r.0 in
    cc

pub one_meaning : (bs : List ℕ) (u v : List Move) → IsTrace bs u → IsTrace bs v → u ≡ v
one_meaning bs u v f g = trace_one u v (sym f.0 ∙ g.0) f.1 g.1

one_of : (text : List ℕ) (size : ℕ) (o p : Outcome (List Move)) → TraceOutcome text size o → TraceOutcome text size p → o ≡ p
one_of text size o p (long h) (long k) = refl
one_of text size o p (long h) (malformed q k s) = absurd (omega arith)
one_of text size o p (long h) (short v k g l) = absurd (omega arith)
one_of text size o p (long h) (read v k g l) = absurd (omega arith)
one_of text size o p (malformed q k s) (long h) = absurd (omega arith)
one_of text size o p (malformed q k s) (malformed r h t) = ap (λ n. refused (found 15 Text n 0)) (one_place IsTrace text q r s t)
one_of text size o p (malformed q k s) (short v h g l) = absurd (means_or_stops IsTrace text v q g s)
one_of text size o p (malformed q k s) (read v h g l) = absurd (means_or_stops IsTrace text v q g s)
one_of text size o p (short u k f m) (long h) = absurd (omega arith)
one_of text size o p (short u k f m) (malformed r h t) = absurd (means_or_stops IsTrace text u r f t)
one_of text size o p (short u k f m) (short v h g l) = refl
one_of text size o p (short u k f m) (read v h g l) = absurd (omega (arith, ap length (one_meaning text u v f g)))
one_of text size o p (read u k f m) (long h) = absurd (omega arith)
one_of text size o p (read u k f m) (malformed r h t) = absurd (means_or_stops IsTrace text u r f t)
one_of text size o p (read u k f m) (short v h g l) = absurd (omega (arith, ap length (one_meaning text u v f g)))
one_of text size o p (read u k f m) (read v h g l) = ap answered (one_meaning text u v f g)

pub one_outcome : OneOutcome
unfolding OneOutcome
one_outcome = one_of

-- the exits of the reader
pub malformed_read : (text : List ℕ) (size : ℕ) (f : TextFault) → length text ≤ 4096 → (p : ℕ) × (f ≡ Malformed p) × Stops IsTrace text p → TraceOutcome text size (refused (text_fault f))
malformed_read text size f h stop = rw stop.1 (malformed stop.0 h stop.2)

pub short_read : (text : List ℕ) (size n : ℕ) (e : Fault) → length text ≤ 4096 → (ms : List Move) × IsTrace text ms × (length ms ≡ n) → refused e ≡ room_checked size n → TraceOutcome text size (refused (passed Text e))
short_read text size n e h counted told =
    let none = refused_by (ltb size n) e (found 6 Word 0 0) tt told in
    rw none.1 (short counted.0 h counted.1 (omega (arith, counted.2, ltb-true size n none.0)))
