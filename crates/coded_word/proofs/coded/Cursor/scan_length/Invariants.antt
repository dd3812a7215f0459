use Rattle.std.proofs.Common.{◌≡◌, ◌-◌, ◌≤◌}
use Rattle.lyndon.specs.Listing.{rest}
use Rattle.coded_word.specs.Scan.{left_from}
use Rattle.coded_word.proofs.coded.Cursor.scan_length.Given as goal

abbrev pub invariant-loop-code : goal.invariant-loop-code
invariant-loop-code l =
    (left_from l.self ≡ rest l.self.shape.k l.self.shape.n l.self.length l.code) × (l.code ≤ l.words)

abbrev pub decreases-loop-code : goal.decreases-loop-code
decreases-loop-code l = l.words - l.code
