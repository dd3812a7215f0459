-- The lines of the entries of a table.
use Rattle.std.proofs.Common.{◌≡◌, ℕ, ◌<◌, ◌≤◌, ltb, List, [], length, get_or, take, Some, None, Option, Ok, Err, Result, IsOk, sym, refl, ap, ◌∙◌, subst, arith}
use Rattle.std.proofs.ByRecursion.{All-get_or}
use Rattle.std.proofs.lemmas.List.{get_or-map, length-map, length-take}
use Rattle.faults.specs.declared.Fault.{Fault}
use Rattle.faults.specs.declared.Layer.{Layer}
use Rattle.faults.specs.declared.Layer.TheVariants as layer
use Rattle.faults.specs.Faults.{found}
use Rattle.faults.specs.Outcome.{Outcome, passed_up, told}
use Rattle.faults.specs.Outcome.Outcome.{answered, refused}
use Rattle.faults.proofs.Checks.{answered_by}
use Rattle.lyndon.specs.declared.entry.Entry.{Entry}
use Rattle.lyndon.specs.Entries.{listing, no_entry, word, words}
use Rattle.lyndon.specs.Listing.{OfShape}
use Rattle.lyndon.proofs.Codes.{length-spelled}
use Rattle.text.specs.Lines.{written, left}
use Rattle.text.proofs.Written.{line_fits, line_stands}
use Rattle.coded_word.specs.declared.coded.Cursor.{Cursor}
use Rattle.bracket_table.specs.Held.{entries_in}
use Rattle.table_text.specs.Lines.{line_of_entry, line_left, line_outcome}
use Rattle.bracket_table.proofs.Growing.{few, few_of, sound}
use Rattle.bracket_table.specs.Seen.{dimensions, view}
use Rattle.bracket_table.specs.Faults.{table_fault}
use Rattle.bracket_table.specs.declared.Table.{Table}
use Rattle.bracket_table.specs.declared.fault.TableFault.{TableFault}
use Rattle.bracket_table.specs.Views.{View}
use Rattle.table_text.proofs.Lining.{left_there, line_at}
use Rattle.table_lines.specs.Lines.{line_in}
use Rattle.table_lines.proofs.Sizes.{entry_line_size}

-- ---- the line of one entry

passed_answer : (by : Layer) (n : ℕ) (o : Outcome ℕ) → answered n ≡ passed_up by o → answered n ≡ o
passed_answer by n (answered m) e = e
passed_answer by n (refused f) e = absurd (let z : ◌≡◌ {A = ℕ} 0 1 = cc in omega arith)

passed_refusal : (by : Layer) (f : Fault) (o : Outcome ℕ) → refused f ≡ passed_up by o → (g : Fault) × (refused g ≡ o)
passed_refusal by f (answered m) e = absurd (let z : ◌≡◌ {A = ℕ} 0 1 = cc in omega arith)
passed_refusal by f (refused g) e = (g, refl)

abbrev seen : Option Cursor → List Entry → ℕ → View
seen s es room = record { shape = dimensions s; entries = es; room = room }

-- the entry with the number i of an open table
module _ (x : Cursor) (es : List Entry) (room : ℕ) (listed : es ≡ take (length es) (listing x.shape.k x.shape.n)) (i : ℕ) (here : i < length es) where
  abbrev e : Entry
  e = get_or es i no_entry

  abbrev line : List ℕ
  line = line_of_entry x.shape.k i e

  line_short : length line ≤ 74
  line_short =
      let first = sound (Some x) es room listed (record { k = x.shape.k; n = x.shape.n }) refl in
      let of_words = All-get_or (OfShape x.shape.k x.shape.n) (words x.shape.k es) i [] (omega (arith, length-map es (word x.shape.k))) first.first.lyndon in
      let of_shape = subst (OfShape x.shape.k x.shape.n) (get_or-map (word x.shape.k) es i no_entry [] here) of_words in
      let n = length-spelled x.shape.k e.length e.code in
      entry_line_size x.shape.k i e (omega (arith, few (Some x) x refl es listed)) (omega (arith, of_shape.lyndon.some)) (omega (arith, of_shape.short, x.shape.depth)) (first.parts i here).earlier

  told_of : (buffer : List ℕ) → line_outcome (seen (Some x) es room) i buffer ≡ passed_up layer.Table (written line buffer)
  told_of buffer = sym (line_at (seen (Some x) es room) i buffer x.shape refl es refl here (written line buffer) refl)

  left_of : (buffer : List ℕ) → line_left (seen (Some x) es room) i buffer ≡ left line buffer
  left_of buffer = sym (left_there (seen (Some x) es room) i buffer x.shape refl es refl here (left line buffer) refl)

-- a table that was never opened has none
none_listed : (es : List Entry) (i : ℕ) → es ≡ take (length es) [] → i < length es → ⊥
none_listed es i listed here = omega (arith, ap length listed, length-take {A = Entry} (length es) [])

-- 74 bytes are enough
line_refused : (s : Option Cursor) (es : List Entry) (room : ℕ) → es ≡ take (length es) (entries_in s) → (i : ℕ) → i < length es → (buffer : List ℕ) → length buffer ≡ 74 → (f : Fault) → refused f ≡ line_outcome (seen s es room) i buffer → ⊥
line_refused None es room listed i here buffer long f told = none_listed es i listed here
line_refused (Some x) es room listed i here buffer long f told =
    let r = passed_refusal layer.Table f (written (line x es room listed i here) buffer) (told ∙ told_of x es room listed i here buffer) in
    line_fits (line x es room listed i here) buffer r.0 (omega (arith, line_short x es room listed i here)) r.1

line_written : (s : Option Cursor) (es : List Entry) (room : ℕ) → es ≡ take (length es) (entries_in s) → (i : ℕ) → i < length es → (buffer : List ℕ) → length buffer ≡ 74 → (size : ℕ) (after : List ℕ) → answered size ≡ line_outcome (seen s es room) i buffer → after ≡ line_left (seen s es room) i buffer → (take size after ≡ line_in (seen s es room) i) × (size ≤ 74)
line_written None es room listed i here buffer long size after told is = absurd (none_listed es i listed here)
line_written (Some x) es room listed i here buffer long size after told is =
    let t = passed_answer layer.Table size (written (line x es room listed i here) buffer) (told ∙ told_of x es room listed i here buffer) in
    let l = line_stands (line x es room listed i here) buffer after size t (is ∙ left_of x es room listed i here buffer) in
    (l.0, omega (arith, l.1))

line_measured : (s : Option Cursor) (es : List Entry) (room : ℕ) → es ≡ take (length es) (entries_in s) → (i : ℕ) → i < length es → (buffer : List ℕ) → length buffer ≡ 74 → (size : ℕ) → answered size ≡ line_outcome (seen s es room) i buffer → (size ≡ length (line_in (seen s es room) i)) × (size ≤ 74)
line_measured None es room listed i here buffer long size told = absurd (none_listed es i listed here)
line_measured (Some x) es room listed i here buffer long size told =
    let bytes = line x es room listed i here in
    let t = passed_answer layer.Table size (written bytes buffer) (told ∙ told_of x es room listed i here buffer) in
    let m = answered_by (ltb (length buffer) (length bytes)) (found 7 layer.Text 0 0) size (length bytes) t in
    (m.1, omega (arith, m.1, line_short x es room listed i here))

-- the line of an entry of a table
pub entry_answered : (t : Table) (i : ℕ) (buffer : List ℕ) (r : Result ℕ TableFault) → i < length (view t).entries → length buffer ≡ 74 → told (λ n. n) table_fault r ≡ line_outcome (view t) i buffer → IsOk r
entry_answered t i buffer (Ok n) here long is = refl
entry_answered t i buffer (Err e) here long is =
    absurd (line_refused t.next (view t).entries (view t).room t.listed i here buffer long (table_fault e) is)

pub entry_in_front : (t : Table) (i : ℕ) (buffer after : List ℕ) (r : Result ℕ TableFault) (n : ℕ) → i < length (view t).entries → length buffer ≡ 74 → told (λ n. n) table_fault r ≡ line_outcome (view t) i buffer → r ≡ Ok n → after ≡ line_left (view t) i buffer → (take n after ≡ line_in (view t) i) × (n ≤ 74)
entry_in_front t i buffer after r n here long is e stands =
    line_written t.next (view t).entries (view t).room t.listed i here buffer long n after (subst (λ x. told (λ n. n) table_fault x ≡ line_outcome (view t) i buffer) e is) stands

pub entry_measured : (t : Table) (i : ℕ) (buffer : List ℕ) (r : Result ℕ TableFault) (n : ℕ) → i < length (view t).entries → length buffer ≡ 74 → told (λ n. n) table_fault r ≡ line_outcome (view t) i buffer → r ≡ Ok n → (n ≡ length (line_in (view t) i)) × (n ≤ 74)
entry_measured t i buffer r n here long is e =
    line_measured t.next (view t).entries (view t).room t.listed i here buffer long n (subst (λ x. told (λ n. n) table_fault x ≡ line_outcome (view t) i buffer) e is)

-- no table has many
pub few_entries : (t : Table) → length (view t).entries ≤ 1496
few_entries t = few_of t.next (view t).entries t.listed
