-- The table on which a call of this library works.
use Rattle.std.specs.Prelude.{ℕ, suc, zero, length, take, Some, nat_lt}
use Rattle.faults.specs.declared.Layer.TheVariants as layer
use Rattle.faults.specs.Faults.{found}
use Rattle.faults.specs.Outcome.{Outcome, refuse_if, checked}
use Rattle.faults.specs.Outcome.Outcome.{answered, refused}
use Rattle.lyndon.specs.Entries.{listing}
use Rattle.bracket_table.specs.Calls.{grow_outcome, grown}
use Rattle.bracket_table.specs.Views.{View, shape_checked}

-- open k n, and then so many grows, in memory for every shape: the first of them that is refused tells the fault
abbrev pub table_checked : ℕ → ℕ → ℕ → Outcome (Unit {0})
table_checked k n grows =
    checked (shape_checked k n)
    (refuse_if (nat_lt (length (listing k n)) grows) (found 9 layer.Table 0 0) (answered tt))

-- the table that they leave: the first so many Lyndon words, with the numbers of their parts
abbrev pub table_of : ℕ → ℕ → ℕ → View
table_of k n grows = record { shape = Some (record { k = k; n = n }); entries = take grows (listing k n); room = 1496 }

-- the table that has all of them
abbrev pub whole_of : ℕ → ℕ → View
whole_of k n = record { shape = Some (record { k = k; n = n }); entries = listing k n; room = 1496 }

-- what a call on the table of so many grows comes to
abbrev pub on_table : {X : Type 0} → ℕ → ℕ → ℕ → (View → Outcome X) → Outcome X
on_table k n grows call = checked (table_checked k n grows) (call (table_of k n grows))

-- ---- step by step

-- what follows a grow that is accepted
abbrev pub next_grow : Outcome ℕ → (View → Outcome View) → View → Outcome View
next_grow (answered i) rest v = rest (grown (answered i) v)
next_grow (refused f) rest v = refused f

-- what so many grows leave of a table, or the fault of the first that is refused
abbrev pub grown_by : ℕ → View → Outcome View
grown_by zero v = answered v
grown_by (suc grows) v = next_grow (grow_outcome v) (grown_by grows) v
