use Rattle.std.proofs.Common.{◌≡◌, take}
use Rattle.sheet.specs.Products.{multiple, minus}
use Rattle.sheet.proofs.product.subtract_multiple.Given as goal

abbrev pub invariant-loop-j : goal.invariant-loop-j
invariant-loop-j g l = l.sheet ≡ minus g.R.Ring.ring l.initial.sheet (multiple g.R.Ring.ring l.value (take l.j l.row))
