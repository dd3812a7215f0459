use Rattle.std.proofs.Common.{◌≡◌, ◌+◌, ◌≤◌, List, length}
use Rattle.std.specs.Iterator.{size}
use Rattle.letter_order.specs.declared.moves.Move.{Move}
use Rattle.trace_text.specs.States.{HasRead, moves_left}
use Rattle.trace_text.proofs.reader.count_moves.Given as goal

-- so many moves have been read
abbrev pub invariant-loop-next : goal.invariant-loop-next
invariant-loop-next l = record {
  can_next : goal.iterator-loop-next.can_next l.next-iterator;
  is_finite : goal.iterator-loop-next.is_finite l.next-iterator;
  moves : (w : List Move) × HasRead l.text w l.next-iterator × (length w ≡ l.count);
  few : l.count + size (moves_left l.next-iterator) ≤ size (moves_left l.initial.next-iterator);
}
