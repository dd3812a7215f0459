use Rattle.std.proofs.Common.{◌∙◌}
use Rattle.sheet.proofs.Multiples.{product_more}
use Rattle.sheet.proofs.adding.add_product.Goals as goal

pub loop-front-preserved : goal.loop-front-preserved
loop-front-preserved g c =
    c.add_row.ensures ∙ product_more g.R.Ring.ring c.args.factor _ _ _ _ _ _ _ _ c.loop-front.invariant c.loop-front-test.true
