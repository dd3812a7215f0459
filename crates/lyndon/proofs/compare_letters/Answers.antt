use Rattle.std.proofs.Common.{inl, inr}
use Rattle.lyndon.proofs.Comparing.{ended}
use Rattle.lyndon.proofs.compare_letters.Goals as goal

pub returns : goal.returns
returns g c =
    ended _ _ _ c.loop-x.x-iterator.a.rest.now c.loop-x.x-iterator.b.rest.now
    (elim c.in-None.ensures.steps [ inl p ↦ inl p.1.0 | inr p ↦ inr p.1.0 ])
    c.loop-x.invariant
