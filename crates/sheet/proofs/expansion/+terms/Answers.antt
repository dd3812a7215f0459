use Rattle.std.proofs.Common.{rules, arith, ◌∙◌}
use Rattle.sheet.proofs.Parts.{left_in, right_in, first_in, rest_in, terms_fit, parts_fit, words_fit, room_left, letter_expands, product_expands, bracket_expands}
use Rattle.sheet_laws.proofs.WordTerms.{first_size, split_size}
use Rattle.sheet.proofs.expansion.+terms.Goals as goal

pub expand_word-split_at_mut-front-requires : goal.expand_word-split_at_mut-front-requires
expand_word-split_at_mut-front-requires t c = rw c.most.ensures (terms_fit _ _ c.requires.room c.requires.word.1)

pub expand_word-expand_parts-requires : goal.expand_word-expand_parts-requires
expand_word-expand_parts-requires t c =
    let C = c.in-Bracket.ensures in
    let left = left_in c.args.shape _ _ _ C c.requires.word.0 in
    let right = right_in c.args.shape _ _ _ C c.requires.word.0 in
    let size = split_size _ _ _ C in
    let room = parts_fit _ _ _ _ _ size C.1.proper C.1.lyndon.some c.requires.room c.most.ensures in
    search (rules, C.1.proper, C.1.lyndon.some)

pub expand_word-bracket-requires-clause-words : goal.expand_word-bracket-requires-clause-words
expand_word-bracket-requires-clause-words t c =
    words_fit c.args.shape _ _ _ _ _ c.expand_parts.ensures.left.0 c.expand_parts.ensures.right.0 (split_size _ _ _ c.in-Bracket.ensures) c.requires.word.0.1

pub expand_word-bracket-requires-clause-room : goal.expand_word-bracket-requires-clause-room
expand_word-bracket-requires-clause-room t c =
    let C = c.in-Bracket.ensures in
    room_left _ _ _ _ _ _ (split_size _ _ _ C) C.1.proper C.1.lyndon.some c.expand_parts.ensures.left.1.few c.expand_parts.ensures.right.1.few (c.split_at_mut-front.ensures.front_len ∙ c.most.ensures)

pub expand_word-expand_parts-requires-in-Product : goal.expand_word-expand_parts-requires-in-Product
expand_word-expand_parts-requires-in-Product t c =
    let C = c.in-Product.ensures in
    let left = first_in c.args.shape _ _ _ C c.requires.word.0 in
    let right = rest_in c.args.shape _ _ _ C c.requires.word.0 in
    let size = first_size _ _ _ C in
    let room = parts_fit _ _ _ _ _ size C.1.lyndon.0.some C.3 c.requires.room c.most.ensures in
    search (rules, C.1.lyndon.0.some, C.3)

pub expand_word-product-requires-clause-words : goal.expand_word-product-requires-clause-words
expand_word-product-requires-clause-words t c =
    words_fit c.args.shape _ _ _ _ _ c.expand_parts-in-Product.ensures.left.0 c.expand_parts-in-Product.ensures.right.0 (first_size _ _ _ c.in-Product.ensures) c.requires.word.0.1

pub expand_word-product-requires-clause-room : goal.expand_word-product-requires-clause-room
expand_word-product-requires-clause-room t c =
    let C = c.in-Product.ensures in
    omega (arith, room_left _ _ _ _ _ _ (first_size _ _ _ C) C.1.lyndon.0.some C.3 c.expand_parts-in-Product.ensures.left.1.few c.expand_parts-in-Product.ensures.right.1.few (c.split_at_mut-front.ensures.front_len ∙ c.most.ensures))

pub expand_word-returns-in-Single : goal.expand_word-returns-in-Single
expand_word-returns-in-Single t c = letter_expands c.args.shape _ c.single.result c.requires.word.0 (omega arith) c.single.ensures.words c.single.ensures.terms

pub expand_word-returns-in-Bracket : goal.expand_word-returns-in-Bracket
expand_word-returns-in-Bracket t c =
    bracket_expands c.args.shape _ _ _ c.expand_parts.result.0 c.expand_parts.result.1 c.bracket.result c.in-Bracket.ensures c.expand_parts.ensures.left c.expand_parts.ensures.right c.bracket.ensures.words c.bracket.ensures.terms

pub expand_word-returns-in-Product : goal.expand_word-returns-in-Product
expand_word-returns-in-Product t c =
    product_expands c.args.shape _ _ _ c.expand_parts-in-Product.result.0 c.expand_parts-in-Product.result.1 c.product.result c.in-Product.ensures c.expand_parts-in-Product.ensures.left c.expand_parts-in-Product.ensures.right c.product.ensures.words c.product.ensures.terms
