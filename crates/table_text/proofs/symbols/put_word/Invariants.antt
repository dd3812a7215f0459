use Rattle.std.proofs.Common.{◌≡◌, map, take}
use Rattle.text.specs.Symbols.{symbol}
use Rattle.table_text.proofs.symbols.put_word.Given as goal

abbrev pub invariant-loop-place : goal.invariant-loop-place
invariant-loop-place l = take l.place l.symbols ≡ map symbol (take l.place l.letter-items)
