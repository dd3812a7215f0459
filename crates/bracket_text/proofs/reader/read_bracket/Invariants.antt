use Rattle.bracket_text.specs.States.{HasRead}
use Rattle.bracket_text.proofs.reader.read_bracket.Given as goal

abbrev pub invariant-loop-place : goal.invariant-loop-place
invariant-loop-place l = HasRead l.text l.place l.reader
