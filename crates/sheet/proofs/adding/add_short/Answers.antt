use Rattle.std.proofs.Common.{arith, sym, ◌∙◌, mul_comm}
use Rattle.lyndon.proofs.Codes.{code_below}
use Rattle.sheet_laws.proofs.WordTerms.{first_size, split_size}
use Rattle.sheet.proofs.Parts.{left_in, right_in, first_in, rest_in, all_room, joint_words, words_fit}
use Rattle.sheet.proofs.Multiples.{letter_raised, product_raised, bracket_raised}
use Rattle.sheet.proofs.adding.add_short.Goals as goal

pub add_term-requires : goal.add_term-requires
add_term-requires g c = rw (c.letter_term.ensures c.args.shape.k, c.requires.size) (code_below _ _ c.requires.word.0.0)

pub expand_parts-requires-clause-left : goal.expand_parts-requires-clause-left
expand_parts-requires-clause-left g c = let C = c.in-Bracket.ensures in (left_in c.args.shape _ _ _ C c.requires.word.0, C.1.proper)

pub expand_parts-requires-clause-right : goal.expand_parts-requires-clause-right
expand_parts-requires-clause-right g c = let C = c.in-Bracket.ensures in (right_in c.args.shape _ _ _ C c.requires.word.0, C.1.lyndon.some)

pub expand_parts-requires-clause-room : goal.expand_parts-requires-clause-room
expand_parts-requires-clause-room g c =
    let C = c.in-Bracket.ensures in
    all_room _ _ _ _ (split_size _ _ _ C) C.1.proper C.1.lyndon.some (omega (arith, c.requires.word.0.1, c.args.shape.depth)) c.requires.memory

pub add_product-requires-clause-size : goal.add_product-requires-clause-size
add_product-requires-clause-size g c =
    c.requires.size ∙ sym (joint_words _ _ _ _ _ _ c.expand_parts.ensures.left.0 c.expand_parts.ensures.right.0 (split_size _ _ _ c.in-Bracket.ensures))

pub add_product-requires-clause-few : goal.add_product-requires-clause-few
add_product-requires-clause-few g c =
    words_fit c.args.shape _ _ _ _ _ c.expand_parts.ensures.left.0 c.expand_parts.ensures.right.0 (split_size _ _ _ c.in-Bracket.ensures) c.requires.word.0.1

pub add_product-requires-in-Bracket-clause-size : goal.add_product-requires-in-Bracket-clause-size
add_product-requires-in-Bracket-clause-size g c =
    c.add_product.auto.sheet ∙ c.requires.size
    ∙ sym (joint_words _ _ _ _ _ _ c.expand_parts.ensures.left.0 c.expand_parts.ensures.right.0 (split_size _ _ _ c.in-Bracket.ensures))
    ∙ mul_comm c.expand_parts.result.0.words c.expand_parts.result.1.words

pub add_product-requires-in-Bracket-clause-few : goal.add_product-requires-in-Bracket-clause-few
add_product-requires-in-Bracket-clause-few g c =
    rw mul_comm (words_fit c.args.shape _ _ _ _ _ c.expand_parts.ensures.left.0 c.expand_parts.ensures.right.0 (split_size _ _ _ c.in-Bracket.ensures) c.requires.word.0.1)

pub expand_parts-requires-in-Product-clause-left : goal.expand_parts-requires-in-Product-clause-left
expand_parts-requires-in-Product-clause-left g c = let C = c.in-Product.ensures in (first_in c.args.shape _ _ _ C c.requires.word.0, C.1.lyndon.0.some)

pub expand_parts-requires-in-Product-clause-right : goal.expand_parts-requires-in-Product-clause-right
expand_parts-requires-in-Product-clause-right g c = let C = c.in-Product.ensures in (rest_in c.args.shape _ _ _ C c.requires.word.0, C.3)

pub expand_parts-requires-in-Product-clause-room : goal.expand_parts-requires-in-Product-clause-room
expand_parts-requires-in-Product-clause-room g c =
    let C = c.in-Product.ensures in
    all_room _ _ _ _ (first_size _ _ _ C) C.1.lyndon.0.some C.3 (omega (arith, c.requires.word.0.1, c.args.shape.depth)) c.requires.memory

pub add_product-requires-in-Product-clause-size : goal.add_product-requires-in-Product-clause-size
add_product-requires-in-Product-clause-size g c =
    c.requires.size ∙ sym (joint_words _ _ _ _ _ _ c.expand_parts-in-Product.ensures.left.0 c.expand_parts-in-Product.ensures.right.0 (first_size _ _ _ c.in-Product.ensures))

pub add_product-requires-in-Product-clause-few : goal.add_product-requires-in-Product-clause-few
add_product-requires-in-Product-clause-few g c =
    words_fit c.args.shape _ _ _ _ _ c.expand_parts-in-Product.ensures.left.0 c.expand_parts-in-Product.ensures.right.0 (first_size _ _ _ c.in-Product.ensures) c.requires.word.0.1

pub returns-in-Single : goal.returns-in-Single
returns-in-Single g c =
    letter_raised g.R.Ring.ring g.met.R.Ring.laws c.args.shape _ _ _ c.requires.word.0 c.requires.size c.letter_term.result _ c.in-Single.ensures (c.letter_term.ensures c.args.shape.k) c.add_term.ensures

pub returns-in-Bracket : goal.returns-in-Bracket
returns-in-Bracket g c =
    bracket_raised g.R.Ring.ring g.met.R.Ring.laws c.args.shape _ _ _ c.requires.word.0 c.requires.size _ _ c.expand_parts.result.0 c.expand_parts.result.1 _ _
    c.in-Bracket.ensures c.expand_parts.ensures.left c.expand_parts.ensures.right c.add_product.ensures c.add_product-in-Bracket.ensures

pub returns-in-Product : goal.returns-in-Product
returns-in-Product g c =
    product_raised g.R.Ring.ring g.met.R.Ring.laws c.args.shape _ _ _ c.requires.word.0 c.requires.size _ _ c.expand_parts-in-Product.result.0 c.expand_parts-in-Product.result.1 _
    c.in-Product.ensures c.expand_parts-in-Product.ensures.left c.expand_parts-in-Product.ensures.right c.add_product-in-Product.ensures
