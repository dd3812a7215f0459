use Rattle.std.proofs.Common.{◌-◌, ◌≤◌, [], length}
use Rattle.std.specs.Iterator.{size}
use Rattle.trace_text.specs.States.{Onward, moves_left, text_of, place_of}
use Rattle.trace_text.proofs.reader.ReaderIterator.next.Given as goal

-- no move has ended
abbrev pub invariant-loop-mark : goal.invariant-loop-mark
invariant-loop-mark l = record {
  onward : Onward l.initial.self [] l.self;
  fewer : size (moves_left l.self) ≤ size (moves_left l.initial.self);
}

abbrev pub decreases-loop-mark : goal.decreases-loop-mark
decreases-loop-mark l = length (text_of l.self) - place_of l.self
