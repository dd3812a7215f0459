use Rattle.std.proofs.Common.{arith}
use Rattle.text.proofs.Putting.{puts_part}
use Rattle.text.proofs.line.piece.put_bytes.Goals as goal

pub returns : goal.returns
returns c =
    puts_part c.args.place _ c.args.buffer.now c.args.bytes.now c.copy_from_slice.new.self c.requires (omega arith) c.copy_from_slice.ensures.after
