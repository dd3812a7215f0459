use Rattle.std.proofs.Common.{◌≡◌, ◌^◌, ◌<◌, take}
use Rattle.lyndon.specs.Codes.{code}
use Rattle.coded_word.proofs.shape.Shape.code_of.Given as goal

abbrev pub invariant-loop-letter : goal.invariant-loop-letter
invariant-loop-letter l =
    (l.code ≡ code l.k (take l.letter-index l.letters)) × (l.code < l.k ^ l.letter-index)
