use Rattle.std.proofs.Common.{length}
use Rattle.std.proofs.lemmas.Result.{err_from_is_err_and}
use Rattle.lent_list.specs.Lent.{places, items}
use Rattle.word.specs.Faults.{word_fault}
use Rattle.trace_text.specs.Traces.TraceOutcome.{long, read}
use Rattle.trace_text.proofs.Outcomes.{malformed_read, short_read}
use Rattle.trace_text.proofs.reader.read_trace.Goals as goal

pub returns-then-text-gt-LONGEST-clause-outcome : goal.returns-then-text-gt-LONGEST-clause-outcome
returns-then-text-gt-LONGEST-clause-outcome c = long c.if-text-gt-LONGEST.true

pub returns-in_err-count-clause-outcome : goal.returns-in_err-count-clause-outcome
returns-in_err-count-clause-outcome c =
    let p = err_from_is_err_and c.from_residual.result c.from_residual.ensures.1 in
    rw (p.1, p.2) (malformed_read c.args.text.now (length (places c.args.moves.now)) c.in_err-count.field-0.0 c.if-text-gt-LONGEST.false c.in_err-count.ensures)

pub returns-in_err-check_room-clause-outcome : goal.returns-in_err-check_room-clause-outcome
returns-in_err-check_room-clause-outcome c =
    let p = err_from_is_err_and c.from_residual-in_err-check_room.result c.from_residual-in_err-check_room.ensures.1 in
    let short = short_read c.args.text.now c.size.result c.in_ok-count.count (word_fault c.in_err-check_room.field-0.0) c.if-text-gt-LONGEST.false c.in_ok-count.ensures c.in_err-check_room.ensures in
    rw (p.1, p.2) (rw c.size.ensures at short)

pub returns-clause-outcome : goal.returns-clause-outcome
returns-clause-outcome c =
    read (items c.fill.new.moves) c.if-text-gt-LONGEST.false c.fill.ensures.moves c.fill.ensures.within
