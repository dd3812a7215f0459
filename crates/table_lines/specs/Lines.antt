-- The lines of the entries of a table.
use Rattle.std.specs.Prelude.{ℕ, ◌+◌, List, [], ◌∷◌, ◌++◌, Some, None, Option, slice_index_or}
use Rattle.faults.specs.declared.Layer.TheVariants as layer
use Rattle.faults.specs.Outcome.{Outcome, passed_up}
use Rattle.lyndon.specs.declared.entry.Entry.{Entry}
use Rattle.lyndon.specs.Entries.{no_entry}
use Rattle.text.specs.Lines.{written, left}
use Rattle.bracket_table.specs.Calls.{when_open}
use Rattle.bracket_table.specs.Views.{Dimensions, View}
use Rattle.table_text.specs.Lines.{line_of_entry}

-- the lines of entries over k letters, numbered from i on
abbrev pub entry_lines : ℕ → ℕ → List Entry → List ℕ
entry_lines k i [] = []
entry_lines k i (e ∷ es) = line_of_entry k i e ++ entry_lines k (i + 1) es

abbrev pub letters_in : Option Dimensions → ℕ
letters_in None = 0
letters_in (Some s) = s.k

-- the line of the entry with this number
abbrev pub line_in : View → ℕ → List ℕ
line_in v i = line_of_entry (letters_in v.shape) i (slice_index_or v.entries i no_entry)

-- the lines of all entries, by number
abbrev pub lines_in : View → List ℕ
lines_in v = entry_lines (letters_in v.shape) 0 v.entries

-- how many bytes of lines are written into a buffer, which may be too short
abbrev pub lines_outcome : View → List ℕ → Outcome ℕ
lines_outcome v buffer = when_open v.shape (λ s. passed_up layer.Table (written (lines_in v) buffer))

-- what stands in the buffer then; a closed table has no lines
abbrev pub lines_left : View → List ℕ → List ℕ
lines_left v buffer = left (lines_in v) buffer
