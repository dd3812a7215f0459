-- What the program prints.
use Rattle.std.specs.Prelude.{◌≡◌, ℕ, List, [], ◌∷◌, ◌++◌, length}
use Rattle.lyndon.specs.Entries.{listing}
use Rattle.text.specs.Lines.{fault_line, header_line}
use Rattle.text.specs.Reading.{Stops}
use Rattle.input_text.specs.Shapes.{IsShape}
use Rattle.table_lines.specs.Lines.{entry_lines}
use Rattle.bracket_table.specs.Views.{shape_checked}
use Rattle.console.specs.Reports.{OutcomePrints}

-- the shape k, n and how many Lyndon words it has, and then each with its split, in listing order
abbrev pub printed_table : ℕ → ℕ → List ℕ
printed_table k n = header_line k n (length (listing k n)) ++ entry_lines k 0 (listing k n)

-- for two numbers: the table of the shape, or the fault with which they are refused as one
abbrev pub ShapePrints : ℕ → ℕ → List ℕ → Type 0
ShapePrints k n printed = OutcomePrints (λ _ lines. lines ≡ printed_table k n) (shape_checked k n) printed

-- for a line of at most 4,096 bytes: what its two numbers print, or fault 15 where it has not that form
pub data LinePrints (bytes printed : List ℕ) : Type 0 where
  shape : (k n : ℕ) → IsShape bytes (k ∷ n ∷ []) → ShapePrints k n printed → LinePrints bytes printed
  malformed : (p : ℕ) → Stops IsShape bytes p → printed ≡ fault_line 15 → LinePrints bytes printed
