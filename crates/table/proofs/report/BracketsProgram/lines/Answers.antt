use Rattle.std.proofs.lemmas.Result.{err_from_is_err_and}
use Rattle.table.proofs.Reports.{shape_refused, table_printed}
use Rattle.table.proofs.report.BracketsProgram.lines.Goals as goal

pub returns-in_err-map_err : goal.returns-in_err-map_err
returns-in_err-map_err c =
    let p = err_from_is_err_and c.from_residual-in_err-map_err.result c.from_residual-in_err-map_err.ensures.1 in
    rw (p.1, p.2) (shape_refused c.args.input.now c.in_ok-line.line.now c.in_ok-numbers.numbers c.open.result c.in_err-map_err.field-0.0 c.in_ok-line.ensures.outcome c.in_ok-numbers.ensures.outcome c.open.ensures.outcome c.in_err-map_err.ensures.cases)

pub returns : goal.returns
returns c =
    table_printed c.args.input.now c.in_ok-line.line.now c.in_ok-numbers.numbers c.open.result _ c.in_ok-line.ensures.outcome c.in_ok-numbers.ensures.outcome c.open.ensures.outcome c.in_ok-map_err.ensures.variant c.in_ok-table_lines.ensures
