use Rattle.std.proofs.Common.{◌≡◌, map, take}
use Rattle.lent_list.specs.Lent.{over}
use Rattle.text.specs.Symbols.{letter}
use Rattle.input_text.proofs.symbols.Symbols.write_letters.Given as goal

abbrev pub invariant-loop-place : goal.invariant-loop-place
invariant-loop-place l = l.buffer ≡ over (map letter (take l.place l.self.bytes.now)) l.initial.buffer
