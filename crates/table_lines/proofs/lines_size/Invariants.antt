use Rattle.std.proofs.Common.{◌≡◌, ◌+◌, ◌*◌, ◌≤◌, drop, length}
use Rattle.bracket_table.specs.Seen.{view}
use Rattle.table_lines.specs.Lines.{entry_lines, letters_in, lines_in}
use Rattle.table_lines.proofs.lines_size.Given as goal

-- the bytes that are counted, and those of the entries that are left; the table stays as it is
abbrev pub invariant-loop-number : goal.invariant-loop-number
invariant-loop-number l = record {
  size : l.size + length (entry_lines (letters_in (view l.initial.table).shape) l.number (drop l.number (view l.initial.table).entries)) ≡ length (lines_in (view l.initial.table));
  few : l.size ≤ 74 * l.number;
  same : l.table ≡ l.initial.table;
}
