use Rattle.coded_word.proofs.Scanning.{Led}
use Rattle.coded_word.proofs.coded.CodedWord.count_passed.Given as goal

abbrev pub invariant-loop-i : goal.invariant-loop-i
invariant-loop-i l = Led l.k l.self.length l.self.code l.i l.shifted
