use Rattle.std.proofs.Common.{◌≡◌, ◌++◌, drop}
use Rattle.bracket_table.specs.Seen.{view}
use Rattle.lent_list.specs.Lent.{items, Refilled}
use Rattle.table_lines.specs.Lines.{entry_lines, letters_in, lines_in}
use Rattle.table_lines.proofs.push_lines.Given as goal

-- the lines that there are, and those of the entries that are left; the table stays as it is
abbrev pub invariant-loop-number : goal.invariant-loop-number
invariant-loop-number l = record {
  lines : items l.list ++ entry_lines (letters_in (view l.initial.table).shape) l.number (drop l.number (view l.initial.table).entries) ≡ lines_in (view l.initial.table);
  filled : Refilled l.initial.list l.list (items l.list);
  same : l.table ≡ l.initial.table;
}
