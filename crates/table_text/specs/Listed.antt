-- The entry of a table that a number names, and its word.
use Rattle.std.specs.Prelude.{ℕ, List, slice_index_or}
use Rattle.lyndon.specs.declared.entry.Entry.{Entry}
use Rattle.lyndon.specs.Entries.{word, no_entry}
use Rattle.table_text.specs.declared.entry_line.Listed.{Listed}

abbrev pub entry_at : Listed → Entry
entry_at s = slice_index_or s.entries.now s.number no_entry

abbrev pub word_at : Listed → List ℕ
word_at s = word s.shape.k (entry_at s)
