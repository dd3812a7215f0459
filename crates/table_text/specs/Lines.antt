-- The text of a word, and the lines of an entry and of a coordinate.
-- 45 is the minus sign, 32 the space, 10 the line feed.
use Rattle.std.specs.Prelude.{◌≡◌, ℕ, zero, suc, ◌+◌, ◌*◌, ◌<◌, cond, List, [], ◌∷◌, ◌++◌, map, length, take, drop, Some, None, decimal, Option, ◌==◌, nat_lt}
use Rattle.std.specs.List.{slice_get}
use Rattle.faults.specs.declared.Layer.TheVariants as layer
use Rattle.faults.specs.Outcome.{Outcome, passed_up}
use Rattle.letter_order.specs.Orders.{by_value}
use Rattle.lyndon.specs.declared.entry.Entry.{Entry}
use Rattle.lyndon.specs.Words.{Split}
use Rattle.lyndon.specs.Entries.{cut, word}
use Rattle.text.specs.Lines.{written, left}
use Rattle.text.specs.Symbols.{symbol}
use Rattle.bracket_text.specs.Brackets.{pair}
use Rattle.bracket_table.specs.Calls.{when_open, with_entry}
use Rattle.bracket_table.specs.Views.{Dimensions, View}

-- the text of a word of at most m letters: a letter's symbol, or the texts of the two parts of its split
unfoldable pub text : ℕ → List ℕ → List ℕ
text zero w = []
text (suc m) w = cond (nat_lt (length w) 2) (map symbol w) (pair (text m (take (cut w) w)) (text m (drop (cut w) w)))

abbrev pub text_of : List ℕ → List ℕ
text_of w = text (length w) w

-- a letter's text is its symbol, that of a bracket has the texts of the two parts; and how long a text is
pub record Texts : Type 0 where
  pub letter : (x : ℕ) → text_of (x ∷ []) ≡ symbol x ∷ []
  pub bracket : (w l r : List ℕ) → Split by_value w l r → text_of w ≡ pair (text_of l) (text_of r)
  pub size : (w : List ℕ) → 0 < length w → length (text_of w) + 3 ≡ 4 * length w

-- the number of a part, which a letter has not
abbrev pub part : Entry → ℕ → List ℕ
part e number = cond (e.length == 1) (45 ∷ []) (decimal number)

-- five fields
abbrev pub fields : ℕ → List ℕ → List ℕ → List ℕ → List ℕ → List ℕ
fields number word left right text =
    decimal number ++ (32 ∷ (word ++ (32 ∷ (left ++ (32 ∷ (right ++ (32 ∷ (text ++ 10 ∷ []))))))))

-- number, word, left, right and text of an entry over k letters
abbrev pub line_of_entry : ℕ → ℕ → Entry → List ℕ
line_of_entry k i e = fields i (map symbol (word k e)) (part e e.left) (part e e.right) (text_of (word k e))

-- a word, and the value of its coordinate
abbrev pub coordinate_line : List ℕ → ℕ → List ℕ
coordinate_line w value = map symbol w ++ (32 ∷ (decimal value ++ 10 ∷ []))

-- ---- line

abbrev pub line_outcome : View → ℕ → List ℕ → Outcome ℕ
line_outcome v i buffer =
    when_open v.shape (λ s.
    with_entry (slice_get v.entries i) (λ e. passed_up layer.Table (written (line_of_entry s.k i e) buffer)))

-- what stands in the buffer then, for the entry with this number, where there is one
abbrev pub left_by : Option Dimensions → Option Entry → ℕ → List ℕ → List ℕ
left_by None e i buffer = buffer
left_by (Some s) None i buffer = buffer
left_by (Some s) (Some e) i buffer = left (line_of_entry s.k i e) buffer

abbrev pub line_left : View → ℕ → List ℕ → List ℕ
line_left v i buffer = left_by v.shape (slice_get v.entries i) i buffer
