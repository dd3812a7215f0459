use Rattle.std.proofs.Common.{rules, refl, ◌%◌, ◌<◌, ◌≤◌, arith}
use Rattle.coded_word.proofs.Spelling.{letters_more, small_next}
use Rattle.coded_word.proofs.coded.CodedWord.write_letters.Goals as goal

pub loop-place-preserved : goal.loop-place-preserved
loop-place-preserved c =
    let k = c.from-k.result in
    let rest = c.loop-place.rest in
    let place = c.loop-place.place in
    let some : 1 ≤ k = omega (arith, c.args.self.shape.some, c.from-k.ensures) in
    let here : 0 < place = search rules in
    let small = c.loop-place.invariant.1 in
    (search rules, small_next k rest place some here small, letters_more k rest place some here small (rest % k) c.loop-place.letters _ (search rules) refl c.loop-place.invariant.2)
