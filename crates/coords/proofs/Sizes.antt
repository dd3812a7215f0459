-- How many bytes lines have.
use Rattle.std.proofs.Common.{ℕ, ◌^◌, ◌<◌, ◌≤◌, [], ◌∷◌, ◌++◌, map, length, decimal, arith, length-append}
use Rattle.std.proofs.lemmas.Fmt.{length-decimal-le}
use Rattle.std.proofs.lemmas.List.{length-map}
use Rattle.lyndon.proofs.Codes.{length-spelled}
use Rattle.text.specs.Lines.{number_line}
use Rattle.text.specs.Symbols.{symbol}
use Rattle.coded_word.specs.declared.coded.CodedWord.{CodedWord}
use Rattle.coded_word.specs.Words.{word_of}
use Rattle.table_text.specs.Lines.{coordinate_line}

pub coordinate_line_short : (w : CodedWord) (value : ℕ) → value < 2 ^ 64 → length (coordinate_line (word_of w) value) ≤ 34
coordinate_line_short w value h =
    let v = length-decimal-le 20 value (omega arith) (omega arith) (omega arith) in
    let n = length-spelled w.shape.k w.length w.code in
    omega (arith, w.short, w.shape.depth, length-append (map symbol (word_of w)) (32 ∷ (decimal value ++ 10 ∷ [])), length-append (decimal value) (10 ∷ []), length-map (word_of w) symbol)

pub zero_line_short : length (number_line 0) ≤ 34
zero_line_short = omega (arith, length-append (decimal 0) (10 ∷ []), length-decimal-le 1 0 (omega arith) (omega arith) (omega arith))
