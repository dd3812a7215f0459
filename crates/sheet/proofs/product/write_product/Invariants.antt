use Rattle.std.proofs.Common.{◌≡◌, ◌*◌, length, take}
use Rattle.sheet.specs.Products.{product}
use Rattle.sheet.proofs.product.write_product.Given as goal

abbrev pub invariant-loop-i : goal.invariant-loop-i
invariant-loop-i g l = take (l.i * length l.y) l.sheet ≡ product g.R.Ring.ring (take l.i l.x) l.y
