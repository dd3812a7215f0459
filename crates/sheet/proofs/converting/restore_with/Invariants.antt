use Rattle.std.proofs.Common.{◌≡◌, length}
use Rattle.sheet_laws.specs.Steps.{restored}
use Rattle.sheet.proofs.converting.restore_with.Given as goal

abbrev pub invariant-loop-place : goal.invariant-loop-place
invariant-loop-place g l = restored g.R.Ring.ring l.shape.k l.m l.place l.sheet ≡ restored g.R.Ring.ring l.shape.k l.m (length l.initial.sheet) l.initial.sheet
