use Rattle.std.proofs.Common.{◌-◌, ◌≤◌, length}
use Rattle.bracket_table.proofs.Searching.{Between}
use Rattle.bracket_table.proofs.search.position.Given as goal

abbrev pub invariant-loop-low : goal.invariant-loop-low
invariant-loop-low l = record {
  between : Between l.entries l.word.length l.word.code l.low l.high;
  within : l.high ≤ length l.entries;
}

abbrev pub decreases-loop-low : goal.decreases-loop-low
decreases-loop-low l = l.high - l.low
