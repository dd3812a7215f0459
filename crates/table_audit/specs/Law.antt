-- What holds of a table after every list of calls on it.
use Rattle.std.specs.Prelude.{◌≡◌, ℕ, ◌^◌, ◌<◌, ◌≤◌, ◌↔◌, List, length, Some, None, slice_index_or}
use Rattle.std.specs.List.{slice_get}
use Rattle.faults.specs.Outcome.Outcome.{answered}
use Rattle.ring_laws.specs.Rings.{Operations}
use Rattle.lyndon.specs.Listing.{OfShape, In, First, CompleteTo}
use Rattle.lyndon.specs.Entries.{words, no_entry, Parts}
use Rattle.polynomial.specs.Theorems.{BracketPolynomials}
use Rattle.bracket_table.specs.Calls.{look_outcome, grow_in, grow_outcome}
use Rattle.bracket_table.specs.Runs.{Call, after, shape_after, grows_after}
use Rattle.bracket_table.specs.Views.{Dimensions, View, fresh}
use Rattle.sheet_laws.specs.Coordinates.{Coordinates}
use Rattle.sheet_laws.specs.Brackets.{SumOfBrackets}
use Rattle.sheet.specs.Calls.{expanded_in, joined_in, conversion_outcome, IntoLeaves, back_leaves, LieSaysYes}

-- what holds of a sheet of length m over k letters, in a table that is seen as v
pub record SheetLaw {A : Type 0} (ring : Operations A) (k m : ℕ) (v : View) (sheet : List A) : Type 0 where
  -- into takes it, and back and lie take its coordinates, which are as many values
  pub taken : conversion_outcome v m (k ^ m) ≡ answered tt
  -- it has these coordinates, and no others
  pub coordinates : List A
  pub has : Coordinates ring k m sheet coordinates
  pub only : (c : List A) → Coordinates ring k m sheet c → c ≡ coordinates
  -- into leaves them, and nothing else
  pub into : (left : List A) → IntoLeaves ring v.shape m sheet left ↔ (left ≡ coordinates)
  -- back, given them, leaves the sheet
  pub back : back_leaves ring v.shape m coordinates ≡ sheet
  -- lie, given them, says yes exactly when the sheet is a sum of multiples of the brackets of entries
  pub lie : LieSaysYes ring v.shape m coordinates ↔ SumOfBrackets ring k m v.entries sheet

-- how many letters the entry with this number has
abbrev pub letters : View → ℕ → ℕ
letters v i = (slice_index_or v.entries i no_entry).length

-- the sheet that expand writes for it
abbrev pub bracket_of : {A : Type 0} → Operations A → View → ℕ → List A
bracket_of ring v i = expanded_in ring v.shape (slice_get v.entries i)

-- what holds of a table that is seen as v, where its latest accepted open was given k and n, and so many grows were
-- accepted since
pub record OpenLaw {A : Type 0} (ring : Operations A) (k n grows : ℕ) (v : View) : Type 0 where
  -- k and n are its shape
  pub shape : v.shape ≡ Some (record { k = k; n = n })
  -- it has one entry for each of these grows
  pub count : length v.entries ≡ grows
  -- from entry 0 on they are the first Lyndon words of the shape in listing order, each once, none skipped
  pub first : First k n (words k v.entries)
  -- look answers each by its number
  pub look : (i : ℕ) → i < length v.entries → look_outcome v i ≡ answered (slice_index_or v.entries i no_entry)
  -- each of two or more letters names two earlier ones: one after the other they spell it, and the second is its
  -- longest proper suffix that is Lyndon
  pub parts : Parts k v.entries
  -- join makes of the brackets of these two, as expand writes them, the bracket of the entry
  pub brackets : (i : ℕ) → i < length v.entries → let e = slice_index_or v.entries i no_entry in 1 < e.length → joined_in ring v.shape (letters v e.left) (bracket_of ring v e.left) (letters v e.right) (bracket_of ring v e.right) ≡ bracket_of ring v i
  -- while a Lyndon word of the shape is missing and the memory has room, a grow is accepted
  pub grow : (w : List ℕ) → OfShape k n w → (In w (words k v.entries) → ⊥) → length v.entries < v.room → grow_outcome v ≡ answered (length v.entries)
  -- for each m from 1 to n where every Lyndon word of at most m letters is the word of an entry, every sheet of length m
  -- keeps the law of sheets
  pub sheets : (m : ℕ) → 1 ≤ m → m ≤ n → CompleteTo k n m (words k v.entries) → (sheet : List A) → length sheet ≡ k ^ m → SheetLaw ring k m v sheet
  -- for no other m is a sheet taken
  pub others : (m size : ℕ) → conversion_outcome v m size ≡ answered tt → (1 ≤ m) × (m ≤ n) × CompleteTo k n m (words k v.entries)

-- what holds of a table that is seen as v after these calls, the latest first, where it began fresh, with room for so
-- many entries
pub record Law {A : Type 0} (ring : Operations A) (room : ℕ) (calls : List Call) (v : View) : Type 0 where
  -- where no open was accepted, it is as it began
  pub closed : shape_after calls ≡ None → v ≡ fresh room
  -- where one was, it keeps the law of open tables
  pub opened : (s : Dimensions) → shape_after calls ≡ Some s → OpenLaw ring s.k s.n (grows_after room calls) v
  -- what the next grow comes to is told by the calls and the room
  pub told : grow_outcome v ≡ grow_in (shape_after calls) (grows_after room calls) room
  -- the room stays what it was
  pub size : v.room ≡ room
  -- what P of a word is, of which coordinates and brackets are made
  pub polynomials : BracketPolynomials

-- the law, for each list of calls by which a fresh table comes to be seen as v
unfoldable pub EveryList : {A : Type 0} → Operations A → View → Type 0
EveryList ring v = (room : ℕ) (calls : List Call) → v ≡ after (fresh room) calls → Law ring room calls v

-- there is such a list
unfoldable pub Reached : View → Type 0
Reached v = (room : ℕ) × (calls : List Call) × (v ≡ after (fresh room) calls)
