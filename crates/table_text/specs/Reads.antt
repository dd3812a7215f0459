-- Reading the text of an entry.
use Rattle.std.specs.Prelude.{◌≡◌, ℕ, ◌<◌, List, length, Some, MatchOption, ◌≢◌, slice_index_or}
use Rattle.faults.specs.declared.Fault.{Fault}
use Rattle.faults.specs.declared.Layer.TheVariants as layer
use Rattle.faults.specs.Faults.{found, passed}
use Rattle.faults.specs.Outcome.{Outcome}
use Rattle.faults.specs.Outcome.Outcome.{answered, refused}
use Rattle.lyndon.specs.declared.entry.Entry.{Entry}
use Rattle.lyndon.specs.Entries.{word, no_entry}
use Rattle.word.specs.Faults.{letters_checked}
use Rattle.bracket_text.specs.Brackets.{BracketOutcome}
use Rattle.bracket_table.specs.Views.{Dimensions, View}
use Rattle.table_text.specs.Lines.{text_of}

-- the text of the entry with this number, over k letters
abbrev pub entry_text : ℕ → List Entry → ℕ → List ℕ
entry_text k es i = text_of (word k (slice_index_or es i no_entry))

-- what reading a text comes to, among these entries over k letters
pub data TextOutcome (k : ℕ) (es : List Entry) (text : List ℕ) : Outcome ℕ → Type 0 where
  -- it is too long, or not well formed
  no_text : (f : Fault) → BracketOutcome text (refused f) → TextOutcome k es text (refused (passed layer.Table f))
  -- one of its letters is not below k
  foreign : (w : List ℕ) (f : Fault) → BracketOutcome text (answered w) → letters_checked k w ≡ refused f → TextOutcome k es text (refused (passed layer.Table f))
  -- no entry has it
  unknown : (w : List ℕ) → BracketOutcome text (answered w) → letters_checked k w ≡ answered tt → ((i : ℕ) → i < length es → text ≢ entry_text k es i) → TextOutcome k es text (refused (passed layer.Table (found 16 layer.Text 0 0)))
  -- it is the text of an entry
  known : (i : ℕ) → i < length es → text ≡ entry_text k es i → TextOutcome k es text (answered i)

-- what reading a text comes to, in a table, which may be closed
unfoldable pub ReadOutcome : View → List ℕ → Outcome ℕ → Type 0
ReadOutcome v text o =
    MatchOption v.shape (o ≡ refused (found 8 layer.Table 0 0)) (λ s. TextOutcome s.k v.entries text o)

-- how the texts of these entries over k letters are read
pub record ReadBack (k : ℕ) (es : List Entry) : Type 0 where
  -- each text comes to one thing
  pub one : (text : List ℕ) (o p : Outcome ℕ) → TextOutcome k es text o → TextOutcome k es text p → o ≡ p
  -- the text of each entry is read as this entry
  pub back : (i : ℕ) → i < length es → (o : Outcome ℕ) → TextOutcome k es (entry_text k es i) o → o ≡ answered i
  -- a text that is read as an entry is the text of that entry
  pub accepted : (text : List ℕ) (i : ℕ) → TextOutcome k es text (answered i) → (i < length es) × (text ≡ entry_text k es i)
  -- no two entries have the same text
  pub apart : (i j : ℕ) → i < length es → j < length es → entry_text k es i ≡ entry_text k es j → i ≡ j

-- the same for the entries of a table, where it is open
unfoldable pub ReadsBack : View → Type 0
ReadsBack v = (s : Dimensions) → v.shape ≡ Some s → ReadBack s.k v.entries
