-- What each case says.
use Rattle.std.specs.Prelude.{◌≡◌, ℕ, ◌^◌, true, false, List, map, length, take, drop, Some, slice_index_or}
use Rattle.std.specs.List.{AllByRecursion, range_with_len}
use Rattle.letter_order.specs.Orders.{by_value}
use Rattle.lyndon.specs.Codes.{code, spelled}
use Rattle.lyndon.specs.Entries.{listing, no_entry}
use Rattle.lyndon.specs.Factoring.{factors, is_lyndon, split_place}
use Rattle.polynomial.specs.Polynomials.{only, P}
use Rattle.ring.specs.Modulo.{ring_64}
use Rattle.ring_laws.specs.Rings.{Operations}
use Rattle.sheet_laws.specs.Coordinates.{Coordinates as HasCoordinates}
use Rattle.sheet_laws.specs.Sheets.{sheet_of}
use Rattle.bracket_table.specs.Views.{View}
use Rattle.faults.specs.Faults.{found, passed}
use Rattle.faults.specs.Outcome.Outcome.{refused}
use Rattle.faults.specs.declared.Layer.TheVariants as layer
use Rattle.table_text.specs.Lines.{text_of}
use Rattle.table_text.specs.Reads.{ReadOutcome}
use Rattle.worked_cases.specs.declared.Case.{Case}
use Rattle.worked_cases.specs.declared.Case.TheVariants.{Factors, NotLyndon, Split, Entry, Text, Unread, Polynomial, Coordinates}

-- the sheet of a word: one at its place, and zero elsewhere
abbrev pub word_sheet : {A : Type 0} → Operations A → ℕ → List ℕ → List A
word_sheet ring k w = sheet_of k (length w) (λ u. ring.image (only w u))

-- the table that has all entries of k and n
abbrev pub whole : ℕ → ℕ → View
whole k n = record { shape = Some (record { k = k; n = n }); entries = listing k n; room = length (listing k n) }

abbrev pub Holds : Case → Type 0
Holds (Factors w fs) = factors by_value w.now ≡ map (λ x. x.now) fs.now
Holds (NotLyndon w) = is_lyndon by_value w.now ≡ false
Holds (Split w l r) =
    (is_lyndon by_value w.now ≡ true)
    × (take (split_place by_value w.now) w.now ≡ l.now)
    × (drop (split_place by_value w.now) w.now ≡ r.now)
Holds (Entry k n i w left right) =
    slice_index_or (listing k n) i no_entry ≡ record { length = length w.now; code = code k w.now; left = left; right = right }
Holds (Text w text) = text_of w.now ≡ text.now
Holds (Unread k n text number place) =
    ReadOutcome (whole k n) text.now (refused (passed layer.Table (found number layer.Text place 0)))
Holds (Polynomial k w cs) = map (λ c. P w.now (spelled k (length w.now) c)) (range_with_len 0 (k ^ length w.now)) ≡ cs.now
Holds (Coordinates k w cs) = HasCoordinates ring_64 k (length w.now) (word_sheet ring_64 k w.now) (map ring_64.image cs.now)

abbrev pub AllHold : List Case → Type 0
AllHold cases = AllByRecursion Holds cases
