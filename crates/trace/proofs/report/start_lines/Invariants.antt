use Rattle.std.proofs.Common.{◌≡◌, ◌++◌, length, vec_items}
use Rattle.trace.specs.Printed.{Rising, start_lines}
use Rattle.trace.proofs.report.start_lines.Given as goal

-- the lines that there are, and those of the starts that are left
abbrev pub invariant-loop-start : goal.invariant-loop-start
invariant-loop-start l = record {
  lines : vec_items l.lines ++ start_lines l.left l.end ≡ start_lines l.starts l.end;
  rising : Rising l.left l.end;
}

abbrev pub decreases-loop-start : goal.decreases-loop-start
decreases-loop-start l = length l.left
