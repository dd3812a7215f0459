use Rattle.std.proofs.Common.{◌+◌, ◌*◌, ◌<◌, [], ◌∷◌, ◌++◌, length, sym, ap, ◌∙◌, append_assoc, arith, length-append}
use Rattle.lent_list.specs.Lent.{items, places, over}
use Rattle.lent_list.proofs.Filling.{put_more}
use Rattle.word.specs.Calls.{paced}
use Rattle.word.proofs.Starts.{length-paced, paced_more}
use Rattle.word.proofs.factoring.push_starts.Goals as goal

pub loop-i-preserved : goal.loop-i-preserved
loop-i-preserved c =
    let before = items c.args.starts.now in
    let old = places c.args.starts.now in
    let was = items c.loop-i.starts in
    let x = c.args.from + c.loop-i.i * c.args.run.period in
    let sofar = paced c.args.from c.args.run.period c.loop-i.i in
    let size = ap length c.loop-i.invariant.0 ∙ length-append before sofar in
    let room : length was < length old = omega (arith, size, length-paced c.args.from c.args.run.period c.loop-i.i, c.requires.room, c.loop-i-test.true) in
    let put = put_more old was (places c.loop-i.starts) (items c.push.new.self) (places c.push.new.self) x _ c.push.result (c.loop-i.invariant.1 ∙ ap (λ l. over l old) (sym c.loop-i.invariant.0)) room c.push.ensures.done in
    let more = put.0 ∙ ap (λ l. l ++ x ∷ []) c.loop-i.invariant.0 ∙ append_assoc before sofar (x ∷ []) ∙ ap (λ l. before ++ l) (sym (paced_more c.args.from c.args.run.period c.loop-i.i)) in
    (more, put.1 ∙ ap (λ l. over l old) more, c.push.ensures.lender ∙ c.loop-i.invariant.2)
