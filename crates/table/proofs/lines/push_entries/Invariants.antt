use Rattle.std.proofs.Common.{◌≡◌, ◌++◌, drop, vec_items}
use Rattle.bracket_table.specs.Seen.{view}
use Rattle.table_lines.specs.Lines.{entry_lines, letters_in, lines_in}
use Rattle.table.proofs.lines.push_entries.Given as goal

-- the lines that there are, and those of the entries that are left; the table stays as it is
abbrev pub invariant-loop-number : goal.invariant-loop-number
invariant-loop-number l = record {
  lines : vec_items l.lines ++ entry_lines (letters_in (view l.initial.table).shape) l.number (drop l.number (view l.initial.table).entries) ≡ vec_items l.initial.lines ++ lines_in (view l.initial.table);
  same : l.table ≡ l.initial.table;
}
