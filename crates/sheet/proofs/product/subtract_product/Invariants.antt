use Rattle.std.proofs.Common.{◌≡◌, take}
use Rattle.sheet.specs.Products.{product, minus}
use Rattle.sheet.proofs.product.subtract_product.Given as goal

abbrev pub invariant-loop-i : goal.invariant-loop-i
invariant-loop-i g l = l.sheet ≡ minus g.R.Ring.ring l.initial.sheet (product g.R.Ring.ring (take l.i l.x) l.y)
