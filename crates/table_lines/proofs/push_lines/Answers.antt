use Rattle.std.proofs.Common.{◌+◌, ◌++◌, drop, sym, ap, ◌∙◌, rules}
use Rattle.bracket_table.specs.Seen.{view}
use Rattle.lent_list.specs.Lent.{items}
use Rattle.table_lines.specs.Lines.{entry_lines, letters_in, line_in}
use Rattle.table_lines.proofs.Filled.{filled_more, lines_more}
use Rattle.table_lines.proofs.push_lines.Goals as goal

pub loop-number-preserved : goal.loop-number-preserved
loop-number-preserved c =
    let v = view c.args.table.now in
    let i = c.loop-number.number in
    let mid = c.loop-number.list in
    let put = c.push_line.ensures.line.0 ∙ ap (λ t. items mid ++ line_in (view t) i) c.loop-number.invariant.same in
    record {
      lines =
          ap (λ l. l ++ entry_lines (letters_in v.shape) (i + 1) (drop (i + 1) v.entries)) put
          ∙ lines_more v i (items mid) (rw (sym c.entries-number-end.ensures) c.loop-number-test.true)
          ∙ c.loop-number.invariant.lines;
      filled = filled_more c.args.list.now mid c.push_line.new.list _ c.loop-number.invariant.filled c.push_line.ensures.line;
      same = search rules;
    }
