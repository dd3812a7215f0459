use Rattle.std.proofs.Common.{◌≡◌, ◌++◌, drop, vec_items}
use Rattle.coords.specs.Printed.{lines_from}
use Rattle.coords.proofs.lines.coordinate_lines.Given as goal

-- the lines that there are, and those of the coordinates that are left
abbrev pub invariant-loop-code : goal.invariant-loop-code
invariant-loop-code l = vec_items l.lines ++ lines_from l.shape.k l.shape.n l.code (drop l.code l.coordinates) ≡ lines_from l.shape.k l.shape.n 0 l.coordinates
