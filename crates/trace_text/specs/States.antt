-- The reader of traces: what it can read in each state.
use Rattle.std.specs.Prelude.{◌≡◌, ℕ, ◌+◌, ◌-◌, ◌<◌, ◌↔◌, List, [], ◌∷◌, ◌++◌, length, take, drop, Some, None, Ok, Err, decimal, Option, Result, slice_index}
use Rattle.std.specs.Iterator.{Count, at_most}
use Rattle.letter_order.specs.declared.moves.Move.{Move}
use Rattle.text.specs.declared.fault.TextFault.{TextFault}
use Rattle.text.specs.declared.fault.TextFault.TheVariants.{Malformed}
use Rattle.trace_text.specs.declared.reader.Reader.{Reader}
use Rattle.trace_text.specs.declared.reader.State.{State}
use Rattle.trace_text.specs.declared.reader.State.TheVariants.{Start, Next, Axis, Ended}
use Rattle.text.specs.Reading.{Stops, Halts, Leads}
use Rattle.trace_text.specs.Traces.{sign, further, AxesFit, IsTrace}

-- the text bs that can be read, and the moves that it adds
abbrev pub Rest : State → List ℕ → List Move → Type 0
Rest Start bs ms = IsTrace bs ms
Rest Next bs ms = IsTrace bs ms × (0 < length ms)
Rest (Axis sense) bs ms = IsTrace (sign sense ∷ bs) ms
Rest Ended bs ms = (bs ≡ further ms) × AxesFit ms

abbrev pub LeadingZero : List ℕ → Type 0
LeadingZero digits = (1 < length digits) × (slice_index digits 0 ≡ 48)

-- some axis is written with these digits in front
abbrev pub AxisFront : List ℕ → Type 0
AxisFront front = (axis : ℕ) × (rest : List ℕ) × (axis < 256) × (decimal axis ≡ front ++ rest)

-- the digits at the place i are the axis that they write, or have a first one with which they write none
abbrev pub AxisRead : List ℕ → ℕ → Result ℕ TextFault → Type 0
AxisRead digits i (Ok axis) = (axis < 256) × (digits ≡ decimal axis)
AxisRead digits i (Err f) =
    (k : ℕ) × (f ≡ Malformed (i + k)) × (k < length digits) × AxisFront (take k digits) × (AxisFront (take (k + 1) digits) → ⊥)

-- the text of a reader, and its place there
abbrev pub text_of : Reader → List ℕ
text_of r = r.marks.text.now

abbrev pub place_of : Reader → ℕ
place_of r = r.marks.place

-- a reader of the text bs has read these moves
pub record HasRead (bs : List ℕ) (w : List Move) (r : Reader) : Type 0 where
  pub text : text_of r ≡ bs
  pub leads : Leads Rest bs 0 Start w (place_of r) r.state

-- a mark leads from its place to the reader's, with the move that it ends, or the text stops in it
abbrev pub Stepped : ℕ → Reader → Reader → Result (Option Move) TextFault → Type 0
Stepped i old new (Ok None) = Leads Rest (text_of old) i old.state [] (place_of old) new.state
Stepped i old new (Ok (Some m)) =
    Leads Rest (text_of old) i old.state (m ∷ []) (place_of old) new.state × (new.state ≡ Ended)
Stepped i old new (Err f) =
    (p : ℕ) × (f ≡ Malformed p) × Halts Rest (text_of old) i old.state p × (new.state ≡ old.state)

-- a reader goes on in the text of another, and has read these moves
pub record Onward (old : Reader) (w : List Move) (new : Reader) : Type 0 where
  pub text : text_of new ≡ text_of old
  pub leads : Leads Rest (text_of old) (place_of old) old.state w (place_of new) new.state

-- one move is read, or the text stops, or no move is left
abbrev pub GivesMove : Reader → Option (Result Move TextFault) → Reader → Type 0
GivesMove old None new = (ms : List Move) → Rest old.state (drop (place_of old) (text_of old)) ms ↔ (ms ≡ [])
GivesMove old (Some (Ok m)) new = Onward old (m ∷ []) new
GivesMove old (Some (Err f)) new =
    (p : ℕ) × (f ≡ Malformed p) × Halts Rest (text_of old) (place_of old) old.state p

-- a text that may not end in this state has one fault more
abbrev pub early : State → ℕ
early Start = 0
early Next = 1
early (Axis sense) = 1
early Ended = 0

-- each move has a byte at least, and so has each fault but that of a text that ends early
abbrev pub moves_left : Reader → Count
moves_left r = at_most (length (text_of r) - place_of r + early r.state)

-- how many moves a text has
abbrev pub Counted : List ℕ → Result ℕ TextFault → Type 0
Counted bs (Ok n) = (ms : List Move) × IsTrace bs ms × (length ms ≡ n)
Counted bs (Err f) = (p : ℕ) × (f ≡ Malformed p) × Stops IsTrace bs p
