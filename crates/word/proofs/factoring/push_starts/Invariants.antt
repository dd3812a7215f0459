use Rattle.std.proofs.Common.{◌++◌}
use Rattle.lent_list.specs.Lent.{items, Refilled}
use Rattle.word.specs.Calls.{paced}
use Rattle.word.proofs.factoring.push_starts.Given as goal

abbrev pub invariant-loop-i : goal.invariant-loop-i
invariant-loop-i l =
    Refilled l.initial.starts l.starts (items l.initial.starts ++ paced l.from l.run.period l.i)
