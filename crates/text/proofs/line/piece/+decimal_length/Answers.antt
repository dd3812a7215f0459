use Rattle.std.proofs.Common.{sym, arith, lit≤}
use Rattle.std.proofs.lemmas.Fmt.{length-decimal-le}
use Rattle.text.proofs.Putting.{length-digit, length-decimal_more}
use Rattle.text.proofs.line.piece.+decimal_length.Goals as goal

pub returns-then-n-lt10 : goal.returns-then-n-lt10
returns-then-n-lt10 t c = record { value = sym (length-digit c.args.n c.if-n-lt10.true); bound = lit≤ tt }

pub returns-else-n-lt10 : goal.returns-else-n-lt10
returns-else-n-lt10 t c =
    let more = length-decimal_more c.args.n c.if-n-lt10.false (omega arith) in
    let few = length-decimal-le 20 c.args.n (omega arith) (omega arith) (omega arith) in
    record { value = omega arith; bound = omega arith }
