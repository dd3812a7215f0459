-- What a caller sees of the value of a table.
use Rattle.std.specs.Prelude.{◌≡◌, List, length, Some, None, Option}
use Rattle.lent_list.specs.Lent.{items, places}
use Rattle.coded_word.specs.declared.coded.Cursor.{Cursor}
use Rattle.lyndon.specs.declared.entry.Entry.{Entry}
use Rattle.lyndon.specs.Listing.{FirstMissing}
use Rattle.lyndon.specs.Entries.{word, words}
use Rattle.lyndon.specs.Theorems.{FirstEntries}
use Rattle.bracket_table.specs.declared.Table.{Table}
use Rattle.bracket_table.specs.Views.{Dimensions, View}

abbrev pub dimensions : Option Cursor → Option Dimensions
dimensions None = None
dimensions (Some c) = Some (record { k = c.shape.k; n = c.shape.n })

abbrev pub view : Table → View
view t = record { shape = dimensions t.next; entries = items t.entries; room = length (places t.entries) }

-- what stands in the places of the entry memory
abbrev pub memory : Table → List Entry
memory t = places t.entries

-- the entries are the first of the listing of the shape
abbrev pub Sound : View → Type 0
Sound v = (s : Dimensions) → v.shape ≡ Some s → FirstEntries s.k s.n v.entries

-- the word of e is the first that is no entry
unfoldable pub Adds : View → Entry → Type 0
Adds v e = (s : Dimensions) → v.shape ≡ Some s → FirstMissing s.k s.n (words s.k v.entries) (word s.k e)
