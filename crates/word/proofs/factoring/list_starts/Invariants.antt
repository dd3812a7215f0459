use Rattle.std.proofs.Common.{◌≡◌, ◌++◌}
use Rattle.lent_list.specs.Lent.{items, places, over}
use Rattle.word.specs.Calls.{starts_from, starts_of}
use Rattle.word.proofs.Passing.{Within, factors_left}
use Rattle.word.proofs.factoring.list_starts.Given as goal

-- the starts that are listed, and those of what is left
abbrev pub invariant-loop-from : goal.invariant-loop-from
invariant-loop-from g l =
    Within g.O.Order.ranks l.from-iterator
    × (l.from-iterator.word.now ≡ l.word)
    × (items l.starts ++ starts_from l.from-iterator.from (factors_left g.O.Order.ranks l.from-iterator) ≡ starts_of (g.O.Order.ranks l.order) l.word)
    × (places l.starts ≡ over (items l.starts) (places l.initial.starts))
    × (l.starts.memory.ghost_name ≡ l.initial.starts.memory.ghost_name)
