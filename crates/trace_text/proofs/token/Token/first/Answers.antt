use Rattle.std.proofs.Common.{◌≡◌, length, take, refl, arith, length-take-le}
use Rattle.trace_text.proofs.Runs.{Run, leading_run}
use Rattle.trace_text.proofs.token.Token.first.Goals as goal

pub returns-in-48-to-57 : goal.returns-in-48-to-57
returns-in-48-to-57 c =
    let run : Run c.args.text.now c.leading_digits.result = rw c.leading_digits.ensures (leading_run c.args.text.now) in
    let item = c.in_ok-first.ensures.item in
    let some = run.some (omega arith) (omega arith, omega arith) in
    let size : length (take c.leading_digits.result c.args.text.now) ≡ c.leading_digits.result = length-take-le c.leading_digits.result c.args.text.now run.within in
    rw size (some, run.within, (refl, rw size some, run.digits, run.whole))
