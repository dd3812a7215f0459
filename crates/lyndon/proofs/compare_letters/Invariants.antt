use Rattle.std.proofs.Common.{◌≡◌, ◌+◌, length}
use Rattle.lyndon.specs.Words.{dictionary}
use Rattle.lyndon.proofs.compare_letters.Given as goal

-- what is left decides, and as many letters of one word are read as of the other
abbrev pub invariant-loop-x : goal.invariant-loop-x
invariant-loop-x g l =
    (dictionary (g.O.Order.ranks l.order) l.x-iterator.a.rest.now l.x-iterator.b.rest.now
    ≡ dictionary (g.O.Order.ranks l.order) l.u l.v)
    × (length l.x-iterator.a.rest.now + length l.v ≡ length l.x-iterator.b.rest.now + length l.u)
