-- A table that is grown as far as it can be.
use Rattle.std.specs.Prelude.{take}
use Rattle.bracket_table.specs.Calls.{listing_of}
use Rattle.bracket_table.specs.Views.{View}

-- the same table with the first entries of its shape, as many as its memory can hold
abbrev pub filled : View → View
filled v = record { shape = v.shape; entries = take v.room (listing_of v.shape); room = v.room }
