-- Trace texts. 43 is +, 45 is -, 32 is the space.
use Rattle.std.specs.Prelude.{◌≡◌, ℕ, ◌<◌, ◌≤◌, List, [], ◌∷◌, ◌++◌, length, decimal}
use Rattle.faults.specs.Faults.{found, passed}
use Rattle.faults.specs.Outcome.{Outcome}
use Rattle.faults.specs.Outcome.Outcome.{answered, refused}
use Rattle.faults.specs.declared.Layer.TheVariants.{Text, Word}
use Rattle.letter_order.specs.declared.moves.Move.{Move}
use Rattle.letter_order.specs.declared.moves.Sense.{Sense}
use Rattle.letter_order.specs.declared.moves.Sense.TheVariants.{Reverse, Forward}
use Rattle.text.specs.Reading.{Stops}

abbrev pub sign : Sense → ℕ
sign Forward = 43
sign Reverse = 45

abbrev pub move_text : Move → List ℕ
move_text m = sign m.sense ∷ decimal m.axis

-- further moves, each behind a space
abbrev pub further : List Move → List ℕ
further [] = []
further (m ∷ ms) = 32 ∷ move_text m ++ further ms

abbrev pub trace : List Move → List ℕ
trace [] = []
trace (m ∷ ms) = move_text m ++ further ms

-- each axis is below 256
abbrev pub AxesFit : List Move → Type 0
AxesFit [] = Unit {0}
AxesFit (m ∷ ms) = (m.axis < 256) × AxesFit ms

-- bs is the text of the moves ms
abbrev pub IsTrace : List ℕ → List Move → Type 0
IsTrace bs ms = (bs ≡ trace ms) × AxesFit ms

-- what reading a text into a memory of a size comes to
pub data TraceOutcome (text : List ℕ) (size : ℕ) : Outcome (List Move) → Type 0 where
  long : 4096 < length text → TraceOutcome text size (refused (found 14 Text 0 0))
  malformed : (p : ℕ) → length text ≤ 4096 → Stops IsTrace text p → TraceOutcome text size (refused (found 15 Text p 0))
  short : (ms : List Move) → length text ≤ 4096 → IsTrace text ms → size < length ms → TraceOutcome text size (refused (passed Text (found 6 Word 0 0)))
  read : (ms : List Move) → length text ≤ 4096 → IsTrace text ms → length ms ≤ size → TraceOutcome text size (answered ms)

-- a text and a size have one outcome
unfoldable pub OneOutcome : Type 0
OneOutcome =
    (text : List ℕ) (size : ℕ) (o p : Outcome (List Move)) → TraceOutcome text size o → TraceOutcome text size p → o ≡ p
