use Rattle.std.proofs.Common.{◌≡◌, false, refl, rules}
use Rattle.std.proofs.lemmas.Result.{err_from_is_err_and}
use Rattle.trace_text.proofs.Steps.{sign_taken, axis_taken, axis_refused, untaken}
use Rattle.trace_text.proofs.Tracing.{taken}
use Rattle.trace_text.proofs.reader.Reader.step.Goals as goal

pub returns-in_err-axis-in-Axis-Digits-clause-done : goal.returns-in_err-axis-in-Axis-Digits-clause-done
returns-in_err-axis-in-Axis-Digits-clause-done c =
    let p = err_from_is_err_and c.from_residual.result c.from_residual.ensures.1 in
    let stop = axis_refused c.args.self.now c.args.mark c.requires c.in-Axis-Digits.digits c.in-Axis-Digits.is-1 c.in-Axis-Digits.sense _ c.in-Axis-Digits.is-0 c.in_err-axis-in-Axis-Digits.ensures in
    rw (p.1, p.2) (stop.0, stop.1, stop.2, refl)

pub returns-in-Axis-Digits-clause-done : goal.returns-in-Axis-Digits-clause-done
returns-in-Axis-Digits-clause-done c =
    (axis_taken c.args.self.now c.args.mark c.requires c.in-Axis-Digits.digits c.in-Axis-Digits.is-1 c.in-Axis-Digits.sense _ c.in-Axis-Digits.is-0 c.in_ok-axis-in-Axis-Digits.ensures, refl)

pub returns-in-Start-Sign-clause-done : goal.returns-in-Start-Sign-clause-done
returns-in-Start-Sign-clause-done c = sign_taken c.args.self.now c.args.mark c.requires c.in-Start-Sign.bytes c.sense_of.result (search rules) c.in-Start-Sign.is-1 c.sense_of.ensures

-- any other mark
pub returns-in_default : goal.returns-in_default
returns-in_default c =
    let off : taken c.args.self.now.state c.args.mark.token ≡ false = search rules in
    record { marks = refl; done = (c.args.mark.place, refl, untaken c.args.self.now c.args.mark c.requires off, refl) }

pub returns-in_default-2 : goal.returns-in_default-2
returns-in_default-2 c =
    let off : taken c.args.self.now.state c.args.mark.token ≡ false = search rules in
    record { marks = refl; done = (c.args.mark.place, refl, untaken c.args.self.now c.args.mark c.requires off, refl) }
