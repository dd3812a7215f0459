-- What the program prints.
use Rattle.std.specs.Prelude.{ℕ, ◌+◌, ◌-◌, ◌≤◌, List, [], ◌∷◌, ◌++◌, length}
use Rattle.letter_order.specs.Moves.{by_axis}
use Rattle.letter_order.specs.Orders.{reversed_order}
use Rattle.letter_order.specs.declared.moves.Move.{Move}
use Rattle.lyndon.specs.Factoring.{factors}
use Rattle.text.specs.Lines.{factor_line, fault_line}
use Rattle.text.specs.Reading.{Stops}
use Rattle.trace_text.specs.Traces.{IsTrace}

-- a line for each of the words that stand one behind the other from a place on: its start and its length
abbrev pub factor_lines : {A : Type 0} → ℕ → List (List A) → List ℕ
factor_lines place [] = []
factor_lines place (f ∷ fs) = factor_line place (length f) ++ factor_lines (place + length f) fs

-- for a line of at most 4,096 bytes: the factors of its moves under the reversed order, or fault 15
pub data LinePrints (bytes : List ℕ) : List ℕ → Type 0 where
  factored : (ms : List Move) → IsTrace bytes ms → LinePrints bytes (factor_lines 0 (factors (reversed_order by_axis) ms))
  malformed : (p : ℕ) → Stops IsTrace bytes p → LinePrints bytes (fault_line 15)

-- ---- by starts

-- the first of some starts, or n where there are none
abbrev pub next_start : List ℕ → ℕ → ℕ
next_start [] n = n
next_start (s ∷ ss) n = s

-- the same lines from the starts of the words, where n is the place behind them all
abbrev pub start_lines : List ℕ → ℕ → List ℕ
start_lines [] n = []
start_lines (s ∷ ss) n = factor_line s (next_start ss n - s) ++ start_lines ss n

-- none is behind the next
abbrev pub Rising : List ℕ → ℕ → Type 0
Rising [] n = Unit {0}
Rising (s ∷ ss) n = (s ≤ next_start ss n) × Rising ss n
