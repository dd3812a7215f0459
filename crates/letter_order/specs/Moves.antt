-- The order of moves.
use Rattle.std.specs.declared.cmp.Ordering.TheVariants.{Less, Equal, Greater}
use Rattle.std.specs.declared.cmp.Ordering.{Ordering}
use Rattle.std.specs.Ordering.{ordering_then}
use Rattle.letter_order.specs.declared.moves.Move.{Move}
use Rattle.letter_order.specs.declared.moves.Sense.{Sense}
use Rattle.letter_order.specs.declared.moves.Sense.TheVariants.{Reverse, Forward}
use Rattle.letter_order.specs.Orders.{by_value}

-- reverse before forward
abbrev pub by_sense : Sense → Sense → Ordering
by_sense Reverse Reverse = Equal
by_sense Reverse Forward = Less
by_sense Forward Reverse = Greater
by_sense Forward Forward = Equal

-- the lower axis first, then by sense
abbrev pub by_axis : Move → Move → Ordering
by_axis x y = ordering_then (by_value x.axis y.axis) (by_sense x.sense y.sense)
