use Rattle.std.proofs.Common.{◌≡◌, ◌%◌, arith, rules}
use Rattle.std.proofs.lemmas.Fmt.{decimal_digit, decimal_step}
use Rattle.text.proofs.Putting.{length-digit, length-decimal_more, puts_then}
use Rattle.text.proofs.line.piece.+put_decimal.Goals as goal

pub put_bytes-requires : goal.put_bytes-requires
put_bytes-requires t c =
    let one = length-digit c.args.n c.if-n-lt10.true in
    search rules

pub returns-then-n-lt10 : goal.returns-then-n-lt10
returns-then-n-lt10 t c =
    let last : c.args.n % 10 ≡ c.args.n = omega arith in
    rw (decimal_digit c.args.n c.if-n-lt10.true) (rw last at c.put_bytes.ensures)

pub put_decimal-last-requires : goal.put_decimal-last-requires
put_decimal-last-requires t c =
    let more = length-decimal_more c.args.n c.if-n-lt10.false (omega arith) in
    search rules

pub put_bytes-requires-2 : goal.put_bytes-requires-2
put_bytes-requires-2 t c =
    let more = length-decimal_more c.args.n c.if-n-lt10.false (omega arith) in
    search rules

pub returns : goal.returns
returns t c =
    rw (decimal_step c.args.n c.if-n-lt10.false (omega arith)) (puts_then c.put_decimal-last.ensures c.put_bytes-2.ensures)
