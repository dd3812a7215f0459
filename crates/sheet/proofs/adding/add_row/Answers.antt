use Rattle.std.proofs.Common.{ap, ◌∙◌, [], ◌∷◌}
use Rattle.sheet_laws.specs.Terms.{added}
use Rattle.sheet.proofs.Multiples.{row_more}
use Rattle.sheet.proofs.adding.add_row.Goals as goal

pub loop-behind-preserved : goal.loop-behind-preserved
loop-behind-preserved g c =
    c.add_term.ensures
    ∙ ap (λ t. added g.R.Ring.ring c.args.factor (t ∷ []) c.loop-behind.sheet) c.follow.ensures
    ∙ row_more g.R.Ring.ring c.args.factor _ _ _ _ _ _ _ _ c.loop-behind.invariant c.loop-behind-test.true
