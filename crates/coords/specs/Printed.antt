-- What the program prints.
use Rattle.std.specs.Prelude.{◌≡◌, ℕ, ◌+◌, cond, List, [], ◌∷◌, ◌++◌, length, ◌==◌, ◌-ℤ◌}
use Rattle.faults.specs.Outcome.{Outcome, checked}
use Rattle.lyndon.specs.Codes.{spelled}
use Rattle.polynomial.specs.Polynomials.{only}
use Rattle.ring_laws.specs.Rings.{Operations}
use Rattle.ring.specs.Modulo.{ring_64}
use Rattle.ring.specs.declared.modulo.Mod64.{Mod64}
use Rattle.word.specs.Faults.{letters_checked}
use Rattle.text.specs.Lines.{fault_line, number_line}
use Rattle.text.specs.Reading.{Stops}
use Rattle.input_text.specs.Words.{Words, IsWords, MeansWords}
use Rattle.bracket_table.specs.Views.{shape_checked}
use Rattle.sheet_laws.specs.Sheets.{sheet_of}
use Rattle.sheet_laws.specs.Coordinates.{Coordinates}
use Rattle.table_text.specs.Lines.{coordinate_line}
use Rattle.console.specs.Reports.{OutcomePrints}

-- uv and vu
abbrev pub uv : Words → List ℕ
uv w = w.first ++ w.second

abbrev pub vu : Words → List ℕ
vu w = w.second ++ w.first

-- how many letters each of them has
abbrev pub size : Words → ℕ
size w = length w.first + length w.second

-- x - y as a sheet over k letters, where the words x and y have n letters: each coefficient by its image
abbrev pub difference : {A : Type 0} → Operations A → ℕ → ℕ → List ℕ → List ℕ → List A
difference ring k n x y = sheet_of k n (λ u. ring.image (only x u -ℤ only y u))

-- the line of a word's coordinate; none where it is zero
abbrev pub line_of : List ℕ → ℕ → List ℕ
line_of w value = cond (value == 0) [] (coordinate_line w value)

-- the lines of the coordinates of words of n letters below k, in the order of codes from i on
abbrev pub lines_from : ℕ → ℕ → ℕ → List Mod64 → List ℕ
lines_from k n i [] = []
lines_from k n i (x ∷ xs) = line_of (spelled k n i) x.value ++ lines_from k n (i + 1) xs

-- lines, or the line of zero where there are none
abbrev pub or_zero : List ℕ → List ℕ
or_zero [] = number_line 0
or_zero (b ∷ bs) = b ∷ bs

-- what is printed for a sheet over k letters of length n: the lines of its coordinates
pub record CoordinatesPrint (k n : ℕ) (sheet : List Mod64) (printed : List ℕ) : Type 0 where
  pub coordinates : List Mod64
  pub of_sheet : Coordinates ring_64 k n sheet coordinates
  pub lines : printed ≡ or_zero (lines_from k n 0 coordinates)

-- k and the joint length of the words are to be a shape, and their letters are to be below k
abbrev pub words_checked : Words → Outcome (Unit {0})
words_checked w = checked (shape_checked w.k (size w)) (letters_checked w.k (uv w))

-- for a number and two words: the coordinates of uv - vu modulo 2^64, or the fault with which they are refused
abbrev pub WordsPrint : Words → List ℕ → Type 0
WordsPrint w printed =
    OutcomePrints (λ _ lines. CoordinatesPrint w.k (size w) (difference ring_64 w.k (size w) (uv w) (vu w)) lines) (words_checked w) printed

-- for a line of at most 4,096 bytes: what its number and words print, or fault 15 where it has not that form
pub data LinePrints (bytes printed : List ℕ) : Type 0 where
  words : (w : Words) → IsWords bytes w → WordsPrint w printed → LinePrints bytes printed
  malformed : (p : ℕ) → Stops MeansWords bytes p → printed ≡ fault_line 15 → LinePrints bytes printed
