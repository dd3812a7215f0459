use Rattle.std.proofs.Common.{◌≡◌, map, take}
use Rattle.sheet_laws.specs.Terms.{followed, added}
use Rattle.sheet.proofs.adding.add_row.Given as goal

abbrev pub invariant-loop-behind : goal.invariant-loop-behind
invariant-loop-behind g l = l.sheet ≡ added g.R.Ring.ring l.factor (map (followed l.y.words l.opposite l.front) (take l.behind-index l.y.terms.now)) l.initial.sheet
