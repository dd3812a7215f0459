use Rattle.std.proofs.Common.{refl, arith}
use Rattle.coded_word.proofs.Cutting.{quotient_coded, front_codes, back_codes}
use Rattle.coded_word.proofs.coded.CodedWord.cut_at.Goals as goal

pub invariant_of-left : goal.invariant_of-left
invariant_of-left c =
    let w = c.args.self in
    record {
      some = omega arith;
      short = omega (arith, w.short);
      coded = quotient_coded w.shape.k w.length w.code w.shape.some w.coded c.args.letters c.count_words-weight.result (omega arith) c.count_words-weight.ensures.value;
    }

pub returns-clause-left : goal.returns-clause-left
returns-clause-left c =
    let w = c.args.self in
    (refl, front_codes w.shape.k w.length w.code w.shape.some w.coded c.args.letters c.count_words-weight.result (omega arith) c.count_words-weight.ensures.value)

pub returns-clause-right : goal.returns-clause-right
returns-clause-right c =
    let w = c.args.self in
    (refl, back_codes w.shape.k w.length w.code w.shape.some w.coded c.args.letters c.count_words-weight.result (omega arith) c.count_words-weight.ensures.value)
