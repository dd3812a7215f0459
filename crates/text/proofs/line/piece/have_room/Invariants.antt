use Rattle.std.proofs.Common.{◌≡◌, ◌+◌, length, drop}
use Rattle.text.specs.Pieces.{bytes_of_all}
use Rattle.text.proofs.line.piece.have_room.Given as goal

-- the room is for the other pieces
abbrev pub invariant-loop-piece : goal.invariant-loop-piece
invariant-loop-piece l = l.room + length (bytes_of_all l.pieces) ≡ l.places + length (bytes_of_all (drop l.piece-index l.pieces))
