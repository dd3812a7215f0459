-- The faults of the text layer.
use Rattle.faults.specs.declared.Fault.{Fault}
use Rattle.faults.specs.declared.Layer.TheVariants.{Text}
use Rattle.faults.specs.Faults.{found, passed}
use Rattle.word.specs.Faults.{word_fault}
use Rattle.text.specs.declared.fault.TextFault.{TextFault}
use Rattle.text.specs.declared.fault.TextFault.TheVariants.{ShortBuffer, LongText, Malformed, UnknownText, Word}

-- a fault of the word layer is passed up whole
abbrev pub text_fault : TextFault → Fault
text_fault ShortBuffer = found 7 Text 0 0
text_fault LongText = found 14 Text 0 0
text_fault (Malformed place) = found 15 Text place 0
text_fault UnknownText = found 16 Text 0 0
text_fault (Word lower) = passed Text (word_fault lower)
