-- The law of tables.
use Rattle.std.proofs.Common.{◌≡◌, ℕ, ◌^◌, ◌<◌, ◌≤◌, List, [], length, take, Some, None, Option, MatchOption, get_or, refl, sym, ap, ◌∙◌, subst, inl, inr, arith}
use Rattle.std.proofs.lemmas.Bool.{cases_lt, lt-leb, le-ltb, ne_eqb, eq-eqb}
use Rattle.std.proofs.ByRecursion.{All-get_or}
use Rattle.std.proofs.lemmas.Bool.Decides.{nat_tests}
use Rattle.std.proofs.lemmas.List.{length-take-le, take_all, get_or-map, length-map}
use Rattle.std.proofs.lemmas.Option.{slice_get-get_or}
use Rattle.faults.specs.declared.Layer.TheVariants as layer
use Rattle.faults.specs.Faults.{found}
use Rattle.faults.specs.Outcome.{Outcome, checked}
use Rattle.faults.specs.Outcome.Outcome.{answered}
use Rattle.faults.proofs.Checks.{passed, answered_by}
use Rattle.ring_laws.specs.Rings.{Operations, Laws}
use Rattle.lyndon.specs.declared.entry.Entry.{Entry}
use Rattle.lyndon.specs.Listing.{OfShape, In, CompleteTo}
use Rattle.lyndon.specs.Entries.{listing, word, words, no_entry, Parted}
use Rattle.lyndon.proofs.Codes.{length-spelled}
use Rattle.polynomial.specs.Polynomials.{P}
use Rattle.sheet_laws.specs.Sheets.{sheet_of}
use Rattle.sheet_laws.proofs.PartSheets.{parts_joined}
use Rattle.lyndon.specs.Theorems.{FirstEntries}
use Rattle.lyndon.proofs.Entries.{first_entries, words_listed, word_in}
use Rattle.polynomial.proofs.Theorems.{bracket_polynomials}
use Rattle.bracket_table.specs.Calls.{when_open, lacks, CompleteUpTo, Completed}
use Rattle.bracket_table.specs.Runs.{Call, after, shape_after, grows_after}
use Rattle.bracket_table.specs.Views.{Dimensions, View, fresh}
use Rattle.bracket_table.proofs.Lacking.{all_there, none_lacks}
use Rattle.sheet_laws.specs.Coordinates.{Coordinates}
use Rattle.sheet_laws.proofs.Coordinates.{one_set}
use Rattle.sheet_laws.proofs.BracketSums.{lie_sums}
use Rattle.sheet.specs.Calls.{joined_in, length_checked, size_checked, entries_checked, conversion_outcome}
use Rattle.table_audit.specs.Outcome.{count_outcome}
use Rattle.table_audit.specs.Law.{letters, bracket_of, SheetLaw, OpenLaw, EveryList}
use Rattle.table_audit.proofs.Runs.{Stands, of_entries, grow_told, every}

-- a length that words have
is_length : (n m : ℕ) → length_checked n m ≡ answered tt → (1 ≤ m) × (m ≤ n)
is_length n m e = (grind (arith, nat_tests), grind (arith, nat_tests))

-- a table with these entries, the first of the listing of its shape
module _ {A : Type 0} (ring : Operations A) (laws : Laws ring) (k n : ℕ) (some : 1 ≤ k) (depth : n ≤ 12) (es : List Entry) (first : FirstEntries k n es) (room : ℕ) where
  abbrev table : View
  table = record { shape = Some (record { k = k; n = n }); entries = es; room = room }

  module _ (m : ℕ) (letters : 1 ≤ m) (short : m ≤ n) (complete : CompleteTo k n m (words k es)) (sheet : List A) (size : length sheet ≡ k ^ m) where
    taken : conversion_outcome table m (k ^ m) ≡ answered tt
    taken = rw (ne_eqb m 0 (λ e. omega (arith, e, letters)), le-ltb n m short, eq-eqb (k ^ m) (k ^ m) refl, none_lacks k n m some es complete) refl

    sheet_law : SheetLaw ring k m table sheet
    sheet_law =
        let one = one_set ring laws k m some sheet size in
        let c : List A = one.exists.0 in
        let are : Coordinates ring k m sheet c = one.exists.1 in
        record {
          taken = taken;
          coordinates = c;
          has = are;
          only = λ d h. one.only d c h are;
          into = λ left. (λ h. one.only left c h are, λ e. subst (Coordinates ring k m sheet) (sym e) are);
          back = are.1;
          lie = lie_sums ring laws k n m some short es first complete sheet c are;
        }

  -- while a word is missing, not all entries of the listing are there
  more : (w : List ℕ) → OfShape k n w → (In w (words k es) → ⊥) → length es < length (listing k n)
  more w W missing =
      elim (cases_lt (length es) (length (listing k n))) [
        | inl l ↦ l
        | inr l ↦
            let all : es ≡ listing k n = first.listed ∙ take_all (length es) (listing k n) l in
            let there : In w (words k (listing k n)) = subst (In w) (sym (words_listed k n some)) (word_in k n some w W) in
            absurd (missing (rw all there))
      ]

  -- a sheet is taken only of a length up to which no word is missing
  others : (m size : ℕ) → conversion_outcome table m size ≡ answered tt → (1 ≤ m) × (m ≤ n) × CompleteTo k n m (words k es)
  others m size e =
      let sized : Outcome (Unit {0}) = checked (size_checked k m size) (entries_checked k n m es) in
      let p = passed (length_checked n m) sized tt (sym e) in
      let q = passed (size_checked k m size) (entries_checked k n m es) tt p.1 in
      let all = answered_by (lacks k n m es) (found 11 layer.Sheet 0 0) tt tt q.1 in
      let bounds = is_length n m (sym p.0) in
      (bounds.0, bounds.1, all_there k n m some es all.0)

  -- a bracket is that of the two parts
  brackets : (i : ℕ) → i < length es → let e = get_or es i no_entry in 1 < e.length → joined_in ring (table.shape) (letters table e.left) (bracket_of ring table e.left) (letters table e.right) (bracket_of ring table e.right) ≡ bracket_of ring table i
  brackets i here more =
      let e : Entry = get_or es i no_entry in
      let part : Parted k es i e = first.parts i here in
      let earlier = part.earlier more in
      let of_shape : OfShape k n (word k e) = subst (OfShape k n) (get_or-map (word k) es i no_entry [] here) (All-get_or (OfShape k n) (words k es) i [] (omega (arith, here, length-map es (word k))) first.first.lyndon) in
      let size : length (word k e) ≡ e.length = length-spelled k e.length e.code in
      let l : Entry = get_or es e.left no_entry in
      let r : Entry = get_or es e.right no_entry in
      rw (slice_get-get_or es i no_entry here, slice_get-get_or es e.left no_entry (omega (arith, earlier.0, here)), slice_get-get_or es e.right no_entry (omega (arith, earlier.1, here)))
      (parts_joined ring laws k some (word k e) (word k l) (word k r) of_shape.lyndon (part.split more) (omega (arith, of_shape.short, depth)) l.length r.length (sym (length-spelled k l.length l.code)) (sym (length-spelled k r.length r.code))
      ∙ ap (λ m. sheet_of k m (λ u. ring.image (P (word k e) u))) size)

  open_law : OpenLaw ring k n (length es) table
  open_law =
      record {
        shape = refl;
        count = refl;
        first = first.first;
        look = λ i h. rw (slice_get-get_or es i no_entry h) refl;
        parts = first.parts;
        brackets = brackets;
        grow = λ w W missing free. rw (lt-leb (length (listing k n)) (length es) (more w W missing), lt-leb room (length es) free) refl;
        sheets = λ m letters short complete sheet size. sheet_law m letters short complete sheet size;
        others = others;
      }

-- what stands after a list of calls
module _ {A : Type 0} (ring : Operations A) (laws : Laws ring) (room : ℕ) (calls : List Call) (v : View) (is : v ≡ after (fresh room) calls) where
  -- the shape, how many entries there are, and what is seen
  abbrev Seen : Option Dimensions → ℕ → Type 0
  Seen shape count = Stands room shape count v

  stands : Seen (shape_after calls) (grows_after room calls)
  stands = subst (Stands room (shape_after calls) (grows_after room calls)) (sym is) (every room calls)

  closed : shape_after calls ≡ None → v ≡ fresh room
  closed none =
      let S : Seen None (grows_after room calls) = subst (λ shape. Seen shape (grows_after room calls)) none stands in
      let nothing : grows_after room calls ≡ 0 = omega (arith, S.within) in
      S.is ∙ ap (λ count. of_entries None room (take count [])) nothing

  opened : (s : Dimensions) → shape_after calls ≡ Some s → OpenLaw ring s.k s.n (grows_after room calls) v
  opened s some =
      let S : Seen (Some s) (grows_after room calls) = subst (λ shape. Seen shape (grows_after room calls)) some stands in
      let es : List Entry = take (grows_after room calls) (listing s.k s.n) in
      let size : length es ≡ grows_after room calls = length-take-le (grows_after room calls) (listing s.k s.n) S.within in
      let first : FirstEntries s.k s.n es = first_entries s.k s.n S.shaped.0 es (ap (λ c. take c (listing s.k s.n)) (sym size)) in
      subst (OpenLaw ring s.k s.n (grows_after room calls)) (sym S.is)
      (subst (λ c. OpenLaw ring s.k s.n c (table ring laws s.k s.n S.shaped.0 S.shaped.1 es first room)) size (open_law ring laws s.k s.n S.shaped.0 S.shaped.1 es first room))

pub every_list : {A : Type 0} (ring : Operations A) → Laws ring → (v : View) → EveryList ring v
unfolding EveryList
every_list ring laws v room calls e = record { closed = closed ring laws room calls v e; opened = opened ring laws room calls v e; told = grow_told room (shape_after calls) (grows_after room calls) v (stands ring laws room calls v e); size = ap (λ w. w.room) ((stands ring laws room calls v e).is); polynomials = bracket_polynomials }

-- ---- audit

-- a table that is grown so far is open
pub counted : (v : View) (m : ℕ) → Completed v m → (es : List Entry) → es ≡ v.entries → answered (length es) ≡ count_outcome v
unfolding Completed
counted v m c es e = go v.shape c
  where
    go : (shape : Option Dimensions) → MatchOption shape ⊥ (λ s. CompleteUpTo s.k s.n v.entries m) → answered (length es) ≡ when_open shape (λ s. answered (length v.entries))
    go (Some s) d = ap (λ l. answered (length l)) e
    go None d = absurd d
