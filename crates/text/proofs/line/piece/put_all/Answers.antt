use Rattle.std.proofs.Common.{arith}
use Rattle.text.proofs.Putting.{puts_more, room_next}
use Rattle.text.proofs.line.piece.put_all.Goals as goal

pub put-place-requires : goal.put-place-requires
put-place-requires c =
    room_next c.args.pieces.now c.loop-piece.piece-index _ c.loop-piece-test.true c.loop-piece.invariant.0 c.loop-piece.invariant.1

pub loop-piece-preserved : goal.loop-piece-preserved
loop-piece-preserved c = (
  puts_more c.args.pieces.now c.loop-piece.piece-index _ c.loop-piece-test.true c.loop-piece.invariant.0 c.put-place.ensures,
  omega (arith, c.loop-piece.invariant.1),
)
