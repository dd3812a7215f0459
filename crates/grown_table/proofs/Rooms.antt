-- A memory in which each listing has room.
use Rattle.std.proofs.Common.{◌≡◌, ◌≤◌, length, take, Some, None, Option, arith}
use Rattle.std.proofs.lemmas.List.{take_all}
use Rattle.lyndon.proofs.Counts.{few_keys}
use Rattle.lyndon.proofs.Entries.{length-listing}
use Rattle.coded_word.specs.declared.coded.Cursor.{Cursor}
use Rattle.bracket_table.specs.Calls.{listing_of}
use Rattle.bracket_table.specs.Seen.{dimensions, view}
use Rattle.bracket_table.specs.declared.Table.{Table}

few_entries : (s : Option Cursor) → length (listing_of (dimensions s)) ≤ 1496
few_entries None = omega arith
few_entries (Some x) =
    omega (arith, few_keys x.shape.k x.shape.n x.shape.some x.shape.letters x.shape.depth x.shape.few, length-listing x.shape.k x.shape.n x.shape.some)

pub all_entries : (t : Table) → 1496 ≤ (view t).room → take (view t).room (listing_of (view t).shape) ≡ listing_of (view t).shape
all_entries t room = let few = few_entries t.next in take_all (view t).room (listing_of (view t).shape) (omega arith)
