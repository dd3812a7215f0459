use Rattle.std.proofs.Common.{◌≡◌, length, sym, ap, ◌∙◌, arith}
use Rattle.trace_text.specs.States.{text_of, place_of}
use Rattle.trace_text.proofs.Turns.{early_one, gives_next, stays_next, ends_early}
use Rattle.trace_text.proofs.reader.ReaderIterator.next.Goals as goal

pub returns-in-Some-transpose-clause-steps : goal.returns-in-Some-transpose-clause-steps
returns-in-Some-transpose-clause-steps c =
    let marks = c.in-Some.ensures.steps in
    gives_next c.args.self.now c.loop-mark.self c.loop-mark.invariant.onward c.next.new.self marks.0 c.step.new.self c.in-Some.mark marks.1 c.step.ensures.marks c.step.result c.in-Some-transpose.ended (sym c.transpose.ensures ∙ c.in-Some-transpose.is) c.step.ensures.done

pub loop-mark-preserved : goal.loop-mark-preserved
loop-mark-preserved c =
    let marks = c.in-Some.ensures.steps in
    let one = early_one c.step.new.self.state in
    let size : length (text_of c.step.new.self) ≡ length (text_of c.loop-mark.self) = ap (λ m. length m.text.now) c.step.ensures.marks ∙ ap length marks.0 in
    let place : place_of c.step.new.self ≡ c.next.new.self.place = ap (λ m. m.place) c.step.ensures.marks in
    record {
      onward = stays_next c.args.self.now c.loop-mark.self c.loop-mark.invariant.onward c.next.new.self marks.0 c.step.new.self c.in-Some.mark marks.1 c.step.ensures.marks c.step.result (sym c.transpose.ensures ∙ c.in_default-transpose.is) c.step.ensures.done;
      fewer = omega (arith, marks.1, c.loop-mark.invariant.fewer);
    }

pub returns-in-Next-clause-steps : goal.returns-in-Next-clause-steps
returns-in-Next-clause-steps c =
    let marks = c.in_default.ensures.steps in
    ends_early c.args.self.now c.loop-mark.self c.loop-mark.invariant.onward c.next.new.self marks.0 marks.1 c.in-Next.is c.loop-mark.self
