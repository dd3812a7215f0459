-- What a line answers, over plain values.
use Rattle.std.proofs.Common.{◌≡◌, ℕ, ◌<◌, ◌≤◌, List, length, get_or, take, Some, None, refl, ap}
use Rattle.std.proofs.lemmas.Option.{slice_get-get_or, slice_get_past}
use Rattle.faults.specs.declared.Layer.TheVariants as layer
use Rattle.faults.specs.Faults.{found, passed}
use Rattle.faults.specs.Outcome.{Outcome, passed_up}
use Rattle.faults.specs.Outcome.Outcome.{answered, refused}
use Rattle.lyndon.specs.declared.entry.Entry.{Entry}
use Rattle.lyndon.specs.Entries.{listing, no_entry}
use Rattle.text.specs.Faults.{text_fault}
use Rattle.text.specs.Lines.{written, left}
use Rattle.text.specs.declared.fault.TextFault.{TextFault}
use Rattle.coded_word.specs.declared.shape.Shape.{Shape}
use Rattle.bracket_table.specs.Faults.{table_fault}
use Rattle.bracket_table.specs.Seen.{Sound}
use Rattle.bracket_table.specs.declared.fault.TableFault.{TableFault}
use Rattle.bracket_table.specs.declared.fault.TableFault.TheVariants.{Closed}
use Rattle.bracket_table.specs.Views.{View}
use Rattle.table_text.specs.Lines.{line_of_entry, line_outcome, line_left}

module _ (v : View) (i : ℕ) (buffer : List ℕ) where
  -- a closed table
  module _ (is : v.shape ≡ None) where
    pub closed : (f : TableFault) → f ≡ Closed → refused (table_fault f) ≡ line_outcome v i buffer
    closed f e = rw (is, e) refl

    pub closed_left : buffer ≡ line_left v i buffer
    closed_left = rw is refl

  -- rows are the entries of an open table
  module _ (x : Shape) (is : v.shape ≡ Some (record { k = x.k; n = x.n })) (rows : List Entry) (are : rows ≡ v.entries) where
    pub rows_listed : Sound v → rows ≡ take (length rows) (listing x.k x.n)
    rows_listed sound = rw are (sound (record { k = x.k; n = x.n }) is).listed

    -- no entry has the number
    module _ (beyond : length rows ≤ i) where
      past : length v.entries ≤ i
      past = rw (← are) beyond

      pub none : refused (found 10 layer.Table 0 0) ≡ line_outcome v i buffer
      none = rw (is, slice_get_past v.entries i past) refl

      pub none_left : buffer ≡ line_left v i buffer
      none_left = rw (is, slice_get_past v.entries i past) refl

    -- an entry has it
    module _ (here : i < length rows) where
      inside : i < length v.entries
      inside = rw (← are) here

      pub line_at : (o : Outcome ℕ) → o ≡ written (line_of_entry x.k i (get_or rows i no_entry)) buffer → passed_up layer.Table o ≡ line_outcome v i buffer
      line_at o h = rw (is, slice_get-get_or v.entries i no_entry inside) (ap (passed_up layer.Table) (rw are at h))

      pub written_there : (size : ℕ) → answered size ≡ written (line_of_entry x.k i (get_or rows i no_entry)) buffer → answered size ≡ line_outcome v i buffer
      written_there size h = line_at (answered size) h

      pub short : (f : TextFault) → refused (text_fault f) ≡ written (line_of_entry x.k i (get_or rows i no_entry)) buffer → refused (passed layer.Table (text_fault f)) ≡ line_outcome v i buffer
      short f h = line_at (refused (text_fault f)) h

      pub left_there : (after : List ℕ) → after ≡ left (line_of_entry x.k i (get_or rows i no_entry)) buffer → after ≡ line_left v i buffer
      left_there after h = rw (is, slice_get-get_or v.entries i no_entry inside) (rw are at h)

-- what a line comes to
pub ruleset lines = (closed, closed_left, rows_listed, none, none_left, written_there, short, left_there)
