use Rattle.std.proofs.Common.{ℕ, length, ap, arith, length-append}
use Rattle.std.proofs.lemmas.List.{length-set}
use Rattle.table_text.specs.Reads.{entry_text}
use Rattle.table_text.proofs.Putting.{puts_pair}
use Rattle.table_text.proofs.entry_line.Listed.+put_text.Goals as goal

pub returns-in-Some : goal.returns-in-Some
returns-in-Some t c =
    let whole = rw (c.at-listed.ensures.entries, c.at-listed.ensures.number, c.at-listed.ensures.shape, ← c.from.ensures, ← c.from-in-Some.ensures) at c.in-Some.ensures.0 in
    let size = simp length-append at (ap length whole) in
    rw whole
    (puts_pair c.args.place c.put_text-comma.result c.put_text-close.result c.args.buffer.now c.put_text-comma.new.buffer c.put_text-close.new.buffer (entry_text c.args.self.now.shape.k c.args.self.now.entries.now c.from.result) (entry_text c.args.self.now.shape.k c.args.self.now.entries.now c.from-in-Some.result) (omega (arith, length-set {A = ℕ})) (omega (arith, length-set {A = ℕ})) (omega (arith, length-set {A = ℕ})) c.put_text-comma.ensures c.put_text-close.ensures)
