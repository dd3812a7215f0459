use Rattle.std.proofs.Common.{◌≡◌, ◌*◌, length, take}
use Rattle.sheet_laws.specs.Terms.{products}
use Rattle.sheet.proofs.sum.write_product.Given as goal

abbrev pub invariant-loop-i : goal.invariant-loop-i
invariant-loop-i l = take (l.i * length l.y.terms.now) l.terms ≡ products l.y.words l.opposite (take l.i l.x.terms.now) l.y.terms.now
