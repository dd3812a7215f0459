use Rattle.std.proofs.Common.{◌≡◌, take}
use Rattle.sheet_laws.specs.Terms.{products, added}
use Rattle.sheet.proofs.adding.add_product.Given as goal

abbrev pub invariant-loop-front : goal.invariant-loop-front
invariant-loop-front g l = l.sheet ≡ added g.R.Ring.ring l.factor (products l.y.words l.opposite (take l.front-index l.x.terms.now) l.y.terms.now) l.initial.sheet
