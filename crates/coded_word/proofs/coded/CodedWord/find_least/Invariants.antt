use Rattle.coded_word.proofs.Least.{Least}
use Rattle.coded_word.proofs.coded.CodedWord.find_least.Given as goal

abbrev pub invariant-loop-i : goal.invariant-loop-i
invariant-loop-i l = Least l.k l.fn.self.length l.fn.self.code l.i l.shifted l.before l.least
