use Rattle.std.proofs.Common.{◌≡◌, take}
use Rattle.sheet.specs.Products.{multiple}
use Rattle.sheet.proofs.product.write_multiple.Given as goal

abbrev pub invariant-loop-j : goal.invariant-loop-j
invariant-loop-j g l = take l.j l.sheet ≡ multiple g.R.Ring.ring l.value (take l.j l.row)
