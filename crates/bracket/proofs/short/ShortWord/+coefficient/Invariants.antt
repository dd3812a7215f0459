use Rattle.std.proofs.Common.{◌+◌, ◌*◌, length}
use Rattle.bracket.specs.Cuts.{letters_of}
use Rattle.bracket.proofs.short.ShortWord.+coefficient.Given as goal

-- the word gets shorter
abbrev pub decreases-coefficient : goal.decreases-coefficient
decreases-coefficient l = 2 * length (letters_of l.self) + 1

abbrev pub decreases-product_at : goal.decreases-product_at
decreases-product_at l = 2 * (length (letters_of l.self) + length (letters_of l.behind))
