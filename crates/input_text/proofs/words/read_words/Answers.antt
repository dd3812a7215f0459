use Rattle.std.proofs.Common.{[], ◌∷◌}
use Rattle.input_text.proofs.Parts.Part.{space, word}
use Rattle.input_text.proofs.Parts.{apart_end, apart_space}
use Rattle.input_text.proofs.Awaiting.{starts, reads_number, reads_space, reads_word, no_number, no_space, no_word, no_end, whole}
use Rattle.input_text.proofs.Pairs.{words, words_exit, words_read}
use Rattle.input_text.proofs.words.read_words.Goals as goal

pub returns-in_err-k-clause-outcome : goal.returns-in_err-k-clause-outcome
returns-in_err-k-clause-outcome c =
    let start = starts words c.new-reader.result c.new-reader.ensures.line c.new-reader.ensures.place in
    words_exit c.from_residual.result c.in_err-k.field-0.0 c.from_residual.ensures.1 (no_number start c.in_err-k.ensures.number)

pub returns-in_err-space-clause-outcome : goal.returns-in_err-space-clause-outcome
returns-in_err-space-clause-outcome c =
    let start = starts words c.new-reader.result c.new-reader.ensures.line c.new-reader.ensures.place in
    let gap = reads_number c.number.new.self c.in_ok-k.k (apart_space (word ∷ space ∷ word ∷ [])) start c.in_ok-k.ensures.line c.in_ok-k.ensures.number in
    words_exit c.from_residual-in_err-space.result c.in_err-space.field-0.0 c.from_residual-in_err-space.ensures.1 (no_space c.space.new.self.place gap c.in_err-space.ensures.space)

pub returns-in_err-first-clause-outcome : goal.returns-in_err-first-clause-outcome
returns-in_err-first-clause-outcome c =
    let start = starts words c.new-reader.result c.new-reader.ensures.line c.new-reader.ensures.place in
    let gap = reads_number c.number.new.self c.in_ok-k.k (apart_space (word ∷ space ∷ word ∷ [])) start c.in_ok-k.ensures.line c.in_ok-k.ensures.number in
    let first = reads_space c.space.new.self gap c.in_ok-space.ensures.line c.in_ok-space.ensures.space in
    words_exit c.from_residual-in_err-first.result c.in_err-first.field-0.0 c.from_residual-in_err-first.ensures.1 (no_word c.word.new.self.place first c.in_err-first.ensures.word)

pub returns-in_err-space-2-clause-outcome : goal.returns-in_err-space-2-clause-outcome
returns-in_err-space-2-clause-outcome c =
    let start = starts words c.new-reader.result c.new-reader.ensures.line c.new-reader.ensures.place in
    let gap = reads_number c.number.new.self c.in_ok-k.k (apart_space (word ∷ space ∷ word ∷ [])) start c.in_ok-k.ensures.line c.in_ok-k.ensures.number in
    let first = reads_space c.space.new.self gap c.in_ok-space.ensures.line c.in_ok-space.ensures.space in
    let between = reads_word c.word.new.self c.in_ok-first.first (apart_space (word ∷ [])) first c.in_ok-first.ensures.line c.in_ok-first.ensures.word in
    words_exit c.from_residual-in_err-space-2.result c.in_err-space-2.field-0.0 c.from_residual-in_err-space-2.ensures.1 (no_space c.space-2.new.self.place between c.in_err-space-2.ensures.space)

pub returns-in_err-second-clause-outcome : goal.returns-in_err-second-clause-outcome
returns-in_err-second-clause-outcome c =
    let start = starts words c.new-reader.result c.new-reader.ensures.line c.new-reader.ensures.place in
    let gap = reads_number c.number.new.self c.in_ok-k.k (apart_space (word ∷ space ∷ word ∷ [])) start c.in_ok-k.ensures.line c.in_ok-k.ensures.number in
    let first = reads_space c.space.new.self gap c.in_ok-space.ensures.line c.in_ok-space.ensures.space in
    let between = reads_word c.word.new.self c.in_ok-first.first (apart_space (word ∷ [])) first c.in_ok-first.ensures.line c.in_ok-first.ensures.word in
    let second = reads_space c.space-2.new.self between c.in_ok-space-2.ensures.line c.in_ok-space-2.ensures.space in
    words_exit c.from_residual-in_err-second.result c.in_err-second.field-0.0 c.from_residual-in_err-second.ensures.1 (no_word c.word-2.new.self.place second c.in_err-second.ensures.word)

pub returns-in_err-end-clause-outcome : goal.returns-in_err-end-clause-outcome
returns-in_err-end-clause-outcome c =
    let start = starts words c.new-reader.result c.new-reader.ensures.line c.new-reader.ensures.place in
    let gap = reads_number c.number.new.self c.in_ok-k.k (apart_space (word ∷ space ∷ word ∷ [])) start c.in_ok-k.ensures.line c.in_ok-k.ensures.number in
    let first = reads_space c.space.new.self gap c.in_ok-space.ensures.line c.in_ok-space.ensures.space in
    let between = reads_word c.word.new.self c.in_ok-first.first (apart_space (word ∷ [])) first c.in_ok-first.ensures.line c.in_ok-first.ensures.word in
    let second = reads_space c.space-2.new.self between c.in_ok-space-2.ensures.line c.in_ok-space-2.ensures.space in
    let last = reads_word c.word-2.new.self c.in_ok-second.second apart_end second c.in_ok-second.ensures.line c.in_ok-second.ensures.word in
    words_exit c.from_residual-in_err-end.result c.in_err-end.field-0.0 c.from_residual-in_err-end.ensures.1 (no_end last c.in_err-end.ensures)

pub returns-clause-outcome : goal.returns-clause-outcome
returns-clause-outcome c =
    let start = starts words c.new-reader.result c.new-reader.ensures.line c.new-reader.ensures.place in
    let gap = reads_number c.number.new.self c.in_ok-k.k (apart_space (word ∷ space ∷ word ∷ [])) start c.in_ok-k.ensures.line c.in_ok-k.ensures.number in
    let first = reads_space c.space.new.self gap c.in_ok-space.ensures.line c.in_ok-space.ensures.space in
    let between = reads_word c.word.new.self c.in_ok-first.first (apart_space (word ∷ [])) first c.in_ok-first.ensures.line c.in_ok-first.ensures.word in
    let second = reads_space c.space-2.new.self between c.in_ok-space-2.ensures.line c.in_ok-space-2.ensures.space in
    let last = reads_word c.word-2.new.self c.in_ok-second.second apart_end second c.in_ok-second.ensures.line c.in_ok-second.ensures.word in
    words_read _ (whole last c.in_ok-end.ensures)
