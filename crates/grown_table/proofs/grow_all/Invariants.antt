use Rattle.std.proofs.Common.{◌≡◌, ◌-◌, length}
use Rattle.lent_list.specs.Lent.{over, SameMemory}
use Rattle.bracket_table.specs.Seen.{memory, view}
use Rattle.grown_table.proofs.grow_all.Given as goal

-- the entries of any table are the first of its shape
abbrev pub invariant-loop : goal.invariant-loop
invariant-loop l = record {
  shape : (view l.table).shape ≡ (view l.initial.table).shape;
  room : (view l.table).room ≡ (view l.initial.table).room;
  memory : memory l.table ≡ over (view l.table).entries (memory l.initial.table);
  lender : SameMemory l.initial.table.entries l.table.entries;
}

abbrev pub decreases-loop : goal.decreases-loop
decreases-loop l = (view l.initial.table).room - length (view l.table).entries
