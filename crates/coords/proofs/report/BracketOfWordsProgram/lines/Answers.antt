use Rattle.input_text.specs.Words.{words_of}
use Rattle.coords.proofs.Reports.{words_printed}
use Rattle.coords.proofs.report.BracketOfWordsProgram.lines.Goals as goal

pub returns : goal.returns
returns c =
    words_printed (λ v. v.items) c.args.input.now c.in_ok-line.line.now (words_of c.in_ok-words.words) c.words_lines.result c.in_ok-line.ensures.outcome c.in_ok-words.ensures.outcome c.words_lines.ensures
