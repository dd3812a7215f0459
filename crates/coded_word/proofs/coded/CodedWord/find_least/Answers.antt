use Rattle.std.proofs.Common.{rules, ◌≡◌, ◌^◌, arith}
use Rattle.coded_word.proofs.Least.{least_taken, least_kept, least_cut}
use Rattle.coded_word.proofs.coded.CodedWord.find_least.Goals as goal
use Rattle.coded_word.proofs.coded.CodedWord.find_least.Goals.{then-shifted-least, else-shifted-least}

pub loop-i-preserved : goal.loop-i-preserved
loop-i-preserved c =
    let e : c.count_words-words.result ≡ c.from-k.result ^ c.args.self.length = rw c.from-k.ensures c.count_words-words.ensures.value in
    elim c.if-shifted-least.branch [
      | then-shifted-least w ↦ rw (w.least-is, w.before-is) (search (rules, least_taken))
      | else-shifted-least w ↦ rw (w.least-is, w.before-is) (search (rules, least_kept))
    ]

pub returns-clause-cut : goal.returns-clause-cut
returns-clause-cut c =
    let w = c.args.self in
    least_cut w.shape.k w.length w.code _ _ _ _ w.shape.some w.coded c.requires (omega arith) (rw c.from-k.ensures at c.loop-i.invariant)
