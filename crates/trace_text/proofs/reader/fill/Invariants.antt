use Rattle.lent_list.specs.Lent.{items, Refilled}
use Rattle.trace_text.specs.States.{HasRead}
use Rattle.trace_text.proofs.reader.fill.Given as goal

-- the list has the moves that have been read
abbrev pub invariant-loop-next : goal.invariant-loop-next
invariant-loop-next l = record {
  can_next : goal.iterator-loop-next.can_next l.next-iterator;
  is_finite : goal.iterator-loop-next.is_finite l.next-iterator;
  moves : HasRead l.text (items l.moves) l.next-iterator;
  memory : Refilled l.initial.moves l.moves (items l.moves);
}
