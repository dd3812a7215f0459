-- Lists of calls on a table.
use Rattle.std.specs.Prelude.{ℕ, ◌+◌, Bool, true, false, cond, List, [], ◌∷◌, Some, None, Option}
use Rattle.faults.specs.Outcome.{Outcome}
use Rattle.faults.specs.Outcome.Outcome.{answered, refused}
use Rattle.bracket_table.specs.Calls.{opened, grow_in, grow_outcome, grown}
use Rattle.bracket_table.specs.Views.{Dimensions, View, shape_checked}

-- A call, with what it brings. Only open and grow change a table. What the values of a sheet are makes no difference to
-- it: only how many they are is told here, so sheets over different rings may stand in one list.
pub data Call : Type 0 where
  Open : (k n : ℕ) → Call
  Grow : Call
  Look : (number : ℕ) → Call
  Find : (letters : List ℕ) → Call
  Expand : (number size : ℕ) → Call
  -- a length, and the size of a sheet
  Into : (m size : ℕ) → Call
  Back : (m size : ℕ) → Call
  Lie : (m size : ℕ) → Call
  -- two lengths, each with the size of a sheet, and the size of the sheet that is written
  Join : (a a_size b b_size size : ℕ) → Call
  Line : (number : ℕ) (buffer : List ℕ) → Call
  Read : (text : List ℕ) → Call

-- what is seen of a table after a call
abbrev pub next : Call → View → View
next (Open k n) v = opened k n (shape_checked k n) v
next Grow v = grown (grow_outcome v) v
next call v = v

-- what is seen of it after these calls, the latest first, where v was seen before
abbrev pub after : View → List Call → View
after v [] = v
after v (call ∷ calls) = next call (after v calls)

-- ---- which calls were accepted, as the calls and the room tell it

abbrev pub accepted : {X : Type 0} → Outcome X → Bool
accepted (answered x) = true
accepted (refused fault) = false

-- the shape that the latest accepted open was given
abbrev pub shape_after : List Call → Option Dimensions
shape_after [] = None
shape_after (Open k n ∷ calls) = cond (accepted (shape_checked k n)) (Some (record { k = k; n = n })) (shape_after calls)
shape_after (call ∷ calls) = shape_after calls

-- how many grows were accepted since
abbrev pub grows_after : ℕ → List Call → ℕ
grows_after room [] = 0
grows_after room (Open k n ∷ calls) = cond (accepted (shape_checked k n)) 0 (grows_after room calls)
grows_after room (Grow ∷ calls) =
    let grows = grows_after room calls in
    cond (accepted (grow_in (shape_after calls) grows room)) (grows + 1) grows
grows_after room (call ∷ calls) = grows_after room calls
