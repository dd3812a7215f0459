use Rattle.std.proofs.Common.{length}
use Rattle.table_text.specs.Reads.{entry_text}
use Rattle.table_text.proofs.entry_line.Listed.+put_text.Given as goal

abbrev pub decreases-put_text : goal.decreases-put_text
decreases-put_text l = length (entry_text l.self.now.shape.k l.self.now.entries.now l.number)
