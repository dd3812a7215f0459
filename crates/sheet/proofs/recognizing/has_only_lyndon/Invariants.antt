use Rattle.sheet.proofs.OnlyLyndon.{OnlyLyndonBelow}
use Rattle.sheet.proofs.recognizing.has_only_lyndon.Given as goal

abbrev pub invariant-loop-place : goal.invariant-loop-place
invariant-loop-place g l = OnlyLyndonBelow g.R.Ring.ring l.fn.shape.k l.m l.coordinates l.place
