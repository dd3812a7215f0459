use Rattle.std.proofs.Common.{◌≡◌, ◌-◌}
use Rattle.bracket_table.specs.Seen.{view}
use Rattle.c_interface.specs.Tables.{grown_by}
use Rattle.c_interface.proofs.tables.grow_times.Given as goal

-- the grows that are left come to what all of them do
abbrev pub invariant-loop : goal.invariant-loop
invariant-loop l = grown_by (l.grows - l.counter) (view l.table) ≡ grown_by l.grows (view l.initial.table)
