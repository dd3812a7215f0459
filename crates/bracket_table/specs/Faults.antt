-- The faults of the table layer.
use Rattle.faults.specs.declared.Fault.{Fault}
use Rattle.faults.specs.declared.Layer.TheVariants as layer
use Rattle.faults.specs.Faults.{found, passed}
use Rattle.word.specs.Faults.{word_fault}
use Rattle.text.specs.Faults.{text_fault}
use Rattle.bracket_table.specs.declared.fault.TableFault.{TableFault}
use Rattle.bracket_table.specs.declared.fault.TableFault.TheVariants.{Letters, Depth, ManyWords, Full, Closed, Complete, NoEntry, Word, Text}

-- faults of the word layer and of the text layer are passed up whole
abbrev pub table_fault : TableFault → Fault
table_fault Letters = found 1 layer.Table 0 0
table_fault Depth = found 2 layer.Table 0 0
table_fault ManyWords = found 3 layer.Table 0 0
table_fault Full = found 4 layer.Table 0 0
table_fault Closed = found 8 layer.Table 0 0
table_fault Complete = found 9 layer.Table 0 0
table_fault NoEntry = found 10 layer.Table 0 0
table_fault (Word lower) = passed layer.Table (word_fault lower)
table_fault (Text lower) = passed layer.Table (text_fault lower)
