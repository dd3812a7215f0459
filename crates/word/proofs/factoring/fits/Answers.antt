use Rattle.std.proofs.Common.{sym, ◌∙◌, arith, le-leb}
use Rattle.lyndon.proofs.Factorization.{few_factors}
use Rattle.word.proofs.factoring.fits.Goals as goal

pub returns-then-word-size : goal.returns-then-word-size
returns-then-word-size g c =
    let few = few_factors (g.met.O.Order.total c.args.order.now) c.args.word.now in
    le-leb _ _ c.if-word-size.true ∙ sym (le-leb _ _ (omega arith))
