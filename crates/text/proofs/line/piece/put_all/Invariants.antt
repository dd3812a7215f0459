use Rattle.std.proofs.Common.{◌≤◌, length, take}
use Rattle.text.specs.Pieces.{bytes_of_all, Puts}
use Rattle.text.proofs.line.piece.put_all.Given as goal

-- the first pieces are put, and there is room for all
abbrev pub invariant-loop-piece : goal.invariant-loop-piece
invariant-loop-piece l =
    Puts 0 l.place l.initial.buffer l.buffer (bytes_of_all (take l.piece-index l.pieces))
    × (length (bytes_of_all l.pieces) ≤ length l.buffer)
