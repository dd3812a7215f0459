-- Every table is left by some list of calls.
use Rattle.std.proofs.Common.{◌≡◌, ℕ, zero, suc, ◌+◌, ◌^◌, ◌<◌, ◌≤◌, List, [], ◌∷◌, length, take, Some, None, Option, sym, refl, ap, ◌∙◌, subst, arith}
use Rattle.std.proofs.lemmas.Bool.{le-leb, lt-leb, le-ltb}
use Rattle.std.proofs.lemmas.List.{length-take}
use Rattle.faults.specs.Outcome.Outcome.{answered}
use Rattle.lent_list.specs.Lent.{items, places}
use Rattle.lyndon.specs.declared.entry.Entry.{Entry}
use Rattle.lyndon.specs.Entries.{listing}
use Rattle.coded_word.specs.declared.coded.Cursor.{Cursor}
use Rattle.coded_word.specs.declared.shape.Shape.{Shape}
use Rattle.bracket_table.specs.Calls.{grow_in}
use Rattle.bracket_table.specs.Held.{entries_in}
use Rattle.bracket_table.specs.Runs.{Call, after}
use Rattle.bracket_table.specs.Runs.Call.{Open, Grow}
use Rattle.bracket_table.specs.Seen.{dimensions, view}
use Rattle.bracket_table.specs.Views.{Dimensions, fresh, shape_checked}
use Rattle.bracket_table.specs.declared.Table.{Table}
use Rattle.table_audit.specs.Law.{Reached}
use Rattle.table_audit.proofs.Runs.{Stands, of_entries, grows}

-- other calls, and so many grows after them
abbrev with_grows : ℕ → List Call → List Call
with_grows zero calls = calls
with_grows (suc count) calls = Grow ∷ with_grows count calls

-- an open with the numbers of a shape is accepted
open_accepted : (s : Shape) → shape_checked s.k s.n ≡ answered tt
open_accepted s =
    rw (le-leb 1 s.k s.some, le-leb s.k 16 s.letters, le-leb 1 s.n s.one, le-leb s.n 12 s.depth, le-ltb 4096 (s.k ^ s.n) s.few) refl

module _ (s : Shape) (room : ℕ) where
  abbrev shape : Option Dimensions
  shape = Some (record { k = s.k; n = s.n })

  -- a grow is accepted where there is a word and room
  grow_accepted : (count : ℕ) → count < length (listing s.k s.n) → count < room → grow_in shape count room ≡ answered count
  grow_accepted count there free = rw (lt-leb (length (listing s.k s.n)) count there, lt-leb room count free) refl

  -- an open and so many grows leave so many entries
  left : (count : ℕ) → count ≤ length (listing s.k s.n) → count ≤ room → Stands room shape count (after (fresh room) (with_grows count (Open s.k s.n ∷ [])))
  left zero there free = rw (open_accepted s) (record { is = refl; within = omega arith; shaped = (s.some, s.depth) })
  left (suc count) there free =
      let before = left count (omega arith) (omega arith) in
      let more = grows room shape count (after (fresh room) (with_grows count (Open s.k s.n ∷ []))) before in
      let next : Stands room shape (count + 1) (after (fresh room) (with_grows (suc count) (Open s.k s.n ∷ []))) = rw (grow_accepted count (omega arith) (omega arith)) at more in
      subst (λ c. Stands room shape c (after (fresh room) (with_grows (suc count) (Open s.k s.n ∷ [])))) (omega arith) next

-- by the cursor of a table, its entries, and its room
reached_by : (next : Option Cursor) (es : List Entry) (room : ℕ) → es ≡ take (length es) (entries_in next) → length es ≤ room → Reached (of_entries (dimensions next) room es)
unfolding Reached
reached_by None [] room listed free = (room, [], refl)
reached_by None (e ∷ es) room listed free = absurd (omega (arith, ap length listed, length-take (length (e ∷ es)) (entries_in None)))
reached_by (Some c) es room listed free =
    let count = length es in
    let S = left c.shape room count (omega (arith, ap length listed, length-take count (listing c.shape.k c.shape.n))) free in
    (room, with_grows count (Open c.shape.k c.shape.n ∷ []), ap (of_entries (dimensions (Some c)) room) listed ∙ sym S.is)

pub reached : (t : Table) → Reached (view t)
reached t = reached_by t.next (items t.entries) (length (places t.entries)) t.listed (omega (arith, length-take t.entries.count (places t.entries)))
