use Rattle.std.proofs.Common.{◌≡◌}
use Rattle.sheet_laws.specs.Steps.{reduced}
use Rattle.sheet.proofs.converting.reduce_with.Given as goal

abbrev pub invariant-loop-place : goal.invariant-loop-place
invariant-loop-place g l = l.sheet ≡ reduced g.R.Ring.ring l.shape.k l.m l.place l.initial.sheet
