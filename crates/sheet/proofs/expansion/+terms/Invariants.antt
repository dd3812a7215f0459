use Rattle.std.proofs.Common.{◌+◌, ◌*◌, length}
use Rattle.bracket.specs.Cuts.{letters_of}
use Rattle.sheet.proofs.expansion.+terms.Given as goal

abbrev pub decreases-expand_word : goal.decreases-expand_word
decreases-expand_word l = 2 * length (letters_of l.word) + 1

abbrev pub decreases-expand_parts : goal.decreases-expand_parts
decreases-expand_parts l = 2 * (length (letters_of l.left) + length (letters_of l.right))
