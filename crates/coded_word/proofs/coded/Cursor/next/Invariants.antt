use Rattle.std.proofs.Common.{◌≡◌, ◌-◌}
use Rattle.coded_word.specs.Scan.{left_from}
use Rattle.coded_word.proofs.coded.Cursor.next.Given as goal

abbrev pub invariant-loop-word : goal.invariant-loop-word
invariant-loop-word l =
    (l.place.shape ≡ l.fn.self.shape) × (left_from l.place ≡ left_from l.fn.self)

abbrev pub decreases-loop-word : goal.decreases-loop-word
decreases-loop-word l = l.place.shape.n - l.place.length
