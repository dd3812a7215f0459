-- How many bytes the header of a table has.
use Rattle.std.proofs.Common.{ℕ, ◌^◌, ◌<◌, ◌≤◌, [], ◌∷◌, ◌++◌, length, decimal, arith, length-append}
use Rattle.std.proofs.lemmas.Fmt.{length-decimal-le}
use Rattle.text.specs.Lines.{header_line}

pub header_size : (k n count : ℕ) → k < 256 → n < 256 → count < 2 ^ 64 → length (header_line k n count) ≤ 32
header_size k n count a b c =
    let x = length-decimal-le 3 k (omega arith) (omega arith) (omega arith) in
    let y = length-decimal-le 3 n (omega arith) (omega arith) (omega arith) in
    let z = length-decimal-le 20 count (omega arith) (omega arith) (omega arith) in
    omega (arith, length-append (decimal k) (32 ∷ (decimal n ++ (32 ∷ (decimal count ++ 10 ∷ [])))), length-append (decimal n) (32 ∷ (decimal count ++ 10 ∷ [])), length-append (decimal count) (10 ∷ []))
