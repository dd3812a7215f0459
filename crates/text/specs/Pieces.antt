-- The pieces of a line, and bytes that are put into a buffer.
use Rattle.std.specs.Prelude.{◌≡◌, ℕ, ◌+◌, List, ◌++◌, length, take, drop, decimal}
use Rattle.std.specs.List.{flat_map}
use Rattle.text.specs.declared.line.piece.Piece.{Piece}
use Rattle.text.specs.declared.line.piece.Piece.TheVariants.{Bytes, Number}

abbrev pub bytes_of : Piece → List ℕ
bytes_of (Bytes part) = part.now
bytes_of (Number n) = decimal n

abbrev pub bytes_of_all : List Piece → List ℕ
bytes_of_all ps = flat_map bytes_of ps

-- the bytes stand in `new` from one place up to another, and the rest is that of `old`
pub record Puts (from to : ℕ) (old new bytes : List ℕ) : Type 0 where
  pub end : to ≡ from + length bytes
  pub front : take to new ≡ take from old ++ bytes
  pub rest : drop to new ≡ drop to old
