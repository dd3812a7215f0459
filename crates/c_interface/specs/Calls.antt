-- What the calls of this library come to, each on the table of k, n and so many grows.
use Rattle.std.specs.Prelude.{ℕ, ◌≡◌, List, length, nat_lt}
use Rattle.std.specs.List.{slice_get}
use Rattle.faults.specs.declared.Layer.TheVariants as layer
use Rattle.faults.specs.Faults.{found}
use Rattle.faults.specs.Outcome.{Outcome, checked, passed_up, refuse_if}
use Rattle.faults.specs.Outcome.Outcome.{answered, refused}
use Rattle.lent_list.specs.Lent.{over}
use Rattle.letter_order.specs.Orders.{by_value}
use Rattle.lyndon.specs.declared.entry.Entry.{Entry}
use Rattle.lyndon.specs.Entries.{listing}
use Rattle.ring.specs.declared.modulo.Mod64.{Mod64}
use Rattle.ring.specs.Modulo.{ring_64}
use Rattle.word.specs.Calls.{factor_outcome, starts_of}
use Rattle.text.specs.Lines.{written}
use Rattle.bracket_table.specs.Calls.{look_outcome, find_outcome}
use Rattle.bracket_table.specs.Views.{shape_checked}
use Rattle.table_text.specs.Lines.{line_outcome, line_left}
use Rattle.table_text.specs.Reads.{ReadOutcome}
use Rattle.table_lines.specs.Lines.{entry_lines}
use Rattle.sheet.specs.Calls.{expand_outcome, expanded_in, conversion_outcome, IntoLeaves, back_leaves, LieSaysYes, join_outcome, joined_in}
use Rattle.c_interface.specs.Answers.{outcome_or_none, if_answered, IfAnswered, Says}
use Rattle.c_interface.specs.Tables.{table_checked, table_of, on_table}

-- ---- the whole table

-- how many entries there are, for a memory with so many places
abbrev pub entries_by : ℕ → ℕ → ℕ → Outcome ℕ
entries_by k n places =
    checked (shape_checked k n)
    (refuse_if (nat_lt places (length (listing k n))) (found 4 layer.Table 0 0) (answered (length (listing k n))))

abbrev pub entries_left : ℕ → ℕ → List Entry → List Entry
entries_left k n memory = if_answered (entries_by k n (length memory)) (over (listing k n) memory) memory

-- how many bytes their lines have, one behind the other
abbrev pub lines_by : ℕ → ℕ → List ℕ → Outcome ℕ
lines_by k n buffer = checked (shape_checked k n) (passed_up layer.Table (written (entry_lines k 0 (listing k n)) buffer))

abbrev pub lines_left : ℕ → ℕ → List ℕ → List ℕ
lines_left k n buffer = if_answered (lines_by k n buffer) (over (entry_lines k 0 (listing k n)) buffer) buffer

-- ---- entries

abbrev pub look_by : ℕ → ℕ → ℕ → ℕ → Outcome Entry
look_by k n grows number = on_table k n grows (λ v. look_outcome v number)

-- 65,535 where no entry has the word
abbrev pub find_by : ℕ → ℕ → ℕ → List ℕ → Outcome ℕ
find_by k n grows letters = outcome_or_none (on_table k n grows (λ v. find_outcome v letters))

-- ---- texts

abbrev pub line_by : ℕ → ℕ → ℕ → ℕ → List ℕ → Outcome ℕ
line_by k n grows number buffer = on_table k n grows (λ v. line_outcome v number buffer)

abbrev pub line_left_by : ℕ → ℕ → ℕ → ℕ → List ℕ → List ℕ
line_left_by k n grows number buffer =
    if_answered (line_by k n grows number buffer) (line_left (table_of k n grows) number buffer) buffer

-- what reading a text comes to, where making the table comes to `made`
abbrev pub ReadWhere : Outcome (Unit {0}) → ℕ → ℕ → ℕ → List ℕ → Outcome ℕ → Type 0
ReadWhere (answered done) k n grows text o = ReadOutcome (table_of k n grows) text o
ReadWhere (refused f) k n grows text o = o ≡ refused f

abbrev pub ReadBy : ℕ → ℕ → ℕ → List ℕ → Outcome ℕ → Type 0
ReadBy k n grows = ReadWhere (table_checked k n grows) k n grows

-- ---- sheets

abbrev pub expand_by : ℕ → ℕ → ℕ → ℕ → ℕ → Outcome (Unit {0})
expand_by k n grows number size = on_table k n grows (λ v. expand_outcome v number size)

abbrev pub expand_left : ℕ → ℕ → ℕ → ℕ → List Mod64 → List Mod64
expand_left k n grows number sheet =
    let v = table_of k n grows in
    if_answered (expand_by k n grows number (length sheet)) (expanded_in ring_64 v.shape (slice_get v.entries number)) sheet

-- of into, back and lie
abbrev pub convert_by : ℕ → ℕ → ℕ → ℕ → ℕ → Outcome (Unit {0})
convert_by k n grows m size = on_table k n grows (λ v. conversion_outcome v m size)

abbrev pub IntoLeft : ℕ → ℕ → ℕ → ℕ → List Mod64 → List Mod64 → Type 0
IntoLeft k n grows m sheet after =
    IfAnswered (convert_by k n grows m (length sheet)) (IntoLeaves ring_64 (table_of k n grows).shape m sheet after) (after ≡ sheet)

abbrev pub back_left : ℕ → ℕ → ℕ → ℕ → List Mod64 → List Mod64
back_left k n grows m sheet =
    if_answered (convert_by k n grows m (length sheet)) (back_leaves ring_64 (table_of k n grows).shape m sheet) sheet

-- lie answers 1 for yes, and 0 for no
abbrev pub LieLeft : ℕ → ℕ → ℕ → ℕ → List Mod64 → ℕ → ℕ → Type 0
LieLeft k n grows m coordinates before after =
    IfAnswered (convert_by k n grows m (length coordinates)) (Says after (LieSaysYes ring_64 (table_of k n grows).shape m coordinates)) (after ≡ before)

abbrev pub join_by : ℕ → ℕ → ℕ → ℕ → ℕ → ℕ → ℕ → ℕ → Outcome (Unit {0})
join_by k n grows a x b y size = on_table k n grows (λ v. join_outcome v a x b y size)

abbrev pub join_left : ℕ → ℕ → ℕ → ℕ → List Mod64 → ℕ → List Mod64 → List Mod64 → List Mod64
join_left k n grows a x b y sheet =
    if_answered (join_by k n grows a (length x) b (length y) (length sheet)) (joined_in ring_64 (table_of k n grows).shape a x b y) sheet

-- ---- words

abbrev pub factor_by : List ℕ → ℕ → Outcome ℕ
factor_by word places = factor_outcome by_value word places

abbrev pub starts_left : List ℕ → List ℕ → List ℕ
starts_left word memory = if_answered (factor_by word (length memory)) (over (starts_of by_value word) memory) memory
