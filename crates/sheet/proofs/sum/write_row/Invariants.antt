use Rattle.std.proofs.Common.{◌≡◌, map, take}
use Rattle.sheet_laws.specs.Terms.{followed}
use Rattle.sheet.proofs.sum.write_row.Given as goal

abbrev pub invariant-loop-j : goal.invariant-loop-j
invariant-loop-j l = take l.j l.row ≡ map (followed l.y.words l.opposite l.front) (take l.j l.y.terms.now)
