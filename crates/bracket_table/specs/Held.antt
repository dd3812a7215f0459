-- What a table of a shape, or of none, can hold.
use Rattle.std.specs.Prelude.{ℕ, List, [], Some, None, Option}
use Rattle.lyndon.specs.declared.entry.Entry.{Entry}
use Rattle.lyndon.specs.Listing.{keys, rest}
use Rattle.lyndon.specs.Entries.{listing}
use Rattle.coded_word.specs.declared.coded.CodedWord.{CodedWord}
use Rattle.coded_word.specs.declared.coded.Cursor.{Cursor}
use Rattle.coded_word.specs.Scan.{FirstFrom}

abbrev pub entries_in : Option Cursor → List Entry
entries_in None = []
entries_in (Some c) = listing c.shape.k c.shape.n

-- the Lyndon words, by length and code
abbrev pub keys_in : Option Cursor → List (ℕ × ℕ)
keys_in None = []
keys_in (Some c) = keys c.shape.k c.shape.n

-- those from the place of the cursor on
abbrev pub rest_in : Option Cursor → List (ℕ × ℕ)
rest_in None = []
rest_in (Some c) = rest c.shape.k c.shape.n c.length c.code

-- w is the first of those
abbrev pub IsNext : Option Cursor → CodedWord → Type 0
IsNext None w = ⊥
IsNext (Some c) w = FirstFrom c (Some w)
