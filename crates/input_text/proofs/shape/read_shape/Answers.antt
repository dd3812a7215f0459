use Rattle.std.proofs.Common.{[], ◌∷◌}
use Rattle.input_text.proofs.Parts.Part.{number}
use Rattle.input_text.proofs.Parts.{apart_end, apart_space}
use Rattle.input_text.proofs.Awaiting.{starts, reads_number, reads_space, no_number, no_space, no_end, whole}
use Rattle.input_text.proofs.Shapes.{shape, shape_exit, shape_read}
use Rattle.input_text.proofs.shape.read_shape.Goals as goal

pub returns-in_err-k-clause-outcome : goal.returns-in_err-k-clause-outcome
returns-in_err-k-clause-outcome c =
    let start = starts shape c.new-reader.result c.new-reader.ensures.line c.new-reader.ensures.place in
    shape_exit c.from_residual.result c.in_err-k.field-0.0 c.from_residual.ensures.1 (no_number start c.in_err-k.ensures.number)

pub returns-in_err-space-clause-outcome : goal.returns-in_err-space-clause-outcome
returns-in_err-space-clause-outcome c =
    let start = starts shape c.new-reader.result c.new-reader.ensures.line c.new-reader.ensures.place in
    let gap = reads_number c.number.new.self c.in_ok-k.k (apart_space (number ∷ [])) start c.in_ok-k.ensures.line c.in_ok-k.ensures.number in
    shape_exit c.from_residual-in_err-space.result c.in_err-space.field-0.0 c.from_residual-in_err-space.ensures.1 (no_space c.space.new.self.place gap c.in_err-space.ensures.space)

pub returns-in_err-n-clause-outcome : goal.returns-in_err-n-clause-outcome
returns-in_err-n-clause-outcome c =
    let start = starts shape c.new-reader.result c.new-reader.ensures.line c.new-reader.ensures.place in
    let gap = reads_number c.number.new.self c.in_ok-k.k (apart_space (number ∷ [])) start c.in_ok-k.ensures.line c.in_ok-k.ensures.number in
    let second = reads_space c.space.new.self gap c.in_ok-space.ensures.line c.in_ok-space.ensures.space in
    shape_exit c.from_residual-in_err-n.result c.in_err-n.field-0.0 c.from_residual-in_err-n.ensures.1 (no_number second c.in_err-n.ensures.number)

pub returns-in_err-end-clause-outcome : goal.returns-in_err-end-clause-outcome
returns-in_err-end-clause-outcome c =
    let start = starts shape c.new-reader.result c.new-reader.ensures.line c.new-reader.ensures.place in
    let gap = reads_number c.number.new.self c.in_ok-k.k (apart_space (number ∷ [])) start c.in_ok-k.ensures.line c.in_ok-k.ensures.number in
    let second = reads_space c.space.new.self gap c.in_ok-space.ensures.line c.in_ok-space.ensures.space in
    let last = reads_number c.number-2.new.self c.in_ok-n.n apart_end second c.in_ok-n.ensures.line c.in_ok-n.ensures.number in
    shape_exit c.from_residual-in_err-end.result c.in_err-end.field-0.0 c.from_residual-in_err-end.ensures.1 (no_end last c.in_err-end.ensures)

pub returns-clause-outcome : goal.returns-clause-outcome
returns-clause-outcome c =
    let start = starts shape c.new-reader.result c.new-reader.ensures.line c.new-reader.ensures.place in
    let gap = reads_number c.number.new.self c.in_ok-k.k (apart_space (number ∷ [])) start c.in_ok-k.ensures.line c.in_ok-k.ensures.number in
    let second = reads_space c.space.new.self gap c.in_ok-space.ensures.line c.in_ok-space.ensures.space in
    let last = reads_number c.number-2.new.self c.in_ok-n.n apart_end second c.in_ok-n.ensures.line c.in_ok-n.ensures.number in
    shape_read (whole last c.in_ok-end.ensures)
