use Rattle.bracket.proofs.Cutting.{split_left, split_right, split_found, split_none, split_refused}
use Rattle.bracket.proofs.short.ShortWord.split.Goals as goal

pub invariant_of-result : goal.invariant_of-result
invariant_of-result c = record { short = split_left _ _ _ (rw c.in-Ok-Some.field-0-is at c.in-Ok-Some.ensures.answer) c.args.self.short }

pub invariant_of-result-in-Ok-Some : goal.invariant_of-result-in-Ok-Some
invariant_of-result-in-Ok-Some c = record { short = split_right _ _ _ (rw c.in-Ok-Some.field-0-is at c.in-Ok-Some.ensures.answer) c.args.self.short }

pub returns-in-Ok-Some : goal.returns-in-Ok-Some
returns-in-Ok-Some c = split_found _ _ _ (rw c.in-Ok-Some.field-0-is at c.in-Ok-Some.ensures.answer)

pub returns-in-Ok-None : goal.returns-in-Ok-None
returns-in-Ok-None c = split_none _ (rw c.in-Ok-None.field-0-is at c.in-Ok-None.ensures.answer) c.args.self.short

pub returns-in-Err : goal.returns-in-Err
returns-in-Err c = split_refused _ _ c.in-Err.ensures.answer c.args.self.short
