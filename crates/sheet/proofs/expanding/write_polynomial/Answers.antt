use Rattle.sheet.proofs.Expanded.{raised_from_zero}
use Rattle.sheet.proofs.expanding.write_polynomial.Goals as goal

pub returns : goal.returns
returns g c =
    raised_from_zero g.R.Ring.ring g.met.R.Ring.laws c.args.word c.clear.new.sheet _ _ c.add_polynomial.ensures c.one.ensures
    (λ p h. c.clear.ensures p (rw c.requires h))
