-- What the calls on a table come to.
use Rattle.std.specs.Prelude.{◌≡◌, ◌≢◌, ℕ, suc, ◌<◌, ◌≤◌, Bool, cond, not, ◌&&◌, List, [], ◌∷◌, ◌++◌, length, Some, None, Option, MatchOption, Decides, is_none, nat_le, slice_index_or}
use Rattle.std.specs.Ordering.{is_eq}
use Rattle.std.specs.List.{list_any, slice_get}
use Rattle.faults.specs.declared.Layer.TheVariants as layer
use Rattle.faults.specs.Faults.{found}
use Rattle.faults.specs.Outcome.{Outcome, refuse_if, passed_up, checked}
use Rattle.faults.specs.Outcome.Outcome.{answered, refused}
use Rattle.letter_order.specs.Orders.{by_value}
use Rattle.lyndon.specs.declared.entry.Entry.{Entry}
use Rattle.lyndon.specs.Words.{dictionary}
use Rattle.lyndon.specs.Listing.{CompleteTo}
use Rattle.lyndon.specs.Entries.{listing, word, words, no_entry}
use Rattle.word.specs.Faults.{length_checked, letters_checked}
use Rattle.bracket_table.specs.Views.{Dimensions, View}

-- a closed table is refused
abbrev pub when_open : {X : Type 0} → Option Dimensions → (Dimensions → Outcome X) → Outcome X
when_open None rest = refused (found 8 layer.Table 0 0)
when_open (Some s) rest = rest s

-- ---- open

-- an accepted open makes k and n the shape, and empties the table
abbrev pub opened : ℕ → ℕ → Outcome (Unit {0}) → View → View
opened k n (answered done) v = record { shape = Some (record { k = k; n = n }); entries = []; room = v.room }
opened k n (refused fault) v = v

-- ---- grow

-- what a grow comes to: the number of the entry that is added, for a table of this shape with so many entries and places
abbrev pub grow_in : Option Dimensions → ℕ → ℕ → Outcome ℕ
grow_in shape count room =
    when_open shape (λ s.
    refuse_if (nat_le (length (listing s.k s.n)) count) (found 9 layer.Table 0 0)
    (refuse_if (nat_le room count) (found 4 layer.Table 0 0) (answered count)))

abbrev pub grow_outcome : View → Outcome ℕ
grow_outcome v = grow_in v.shape (length v.entries) v.room

abbrev pub listing_of : Option Dimensions → List Entry
listing_of None = []
listing_of (Some s) = listing s.k s.n

-- an accepted grow adds the entry of its number in the listing
abbrev pub grown : Outcome ℕ → View → View
grown (answered i) v =
    record { shape = v.shape; entries = v.entries ++ slice_index_or (listing_of v.shape) i no_entry ∷ []; room = v.room }
grown (refused fault) v = v

-- ---- look

-- a number that no entry has is refused
abbrev pub with_entry : {X : Type 0} → Option Entry → (Entry → Outcome X) → Outcome X
with_entry None rest = refused (found 10 layer.Table 0 0)
with_entry (Some e) rest = rest e

abbrev pub look_outcome : View → ℕ → Outcome Entry
look_outcome v i = when_open v.shape (λ s. with_entry (slice_get v.entries i) answered)

-- ---- find

-- the number of the first word that is w, counted from i on, or none where none is
abbrev pub found_from : ℕ → List (List ℕ) → List ℕ → Option ℕ
found_from i [] w = None
found_from i (v ∷ vs) w = cond (is_eq (dictionary by_value v w)) (Some i) (found_from (suc i) vs w)

abbrev pub find_outcome : View → List ℕ → Outcome (Option ℕ)
find_outcome v w =
    when_open v.shape (λ s.
    checked (passed_up layer.Table (length_checked s.n (length w)))
    (checked (passed_up layer.Table (letters_checked s.k w)) (answered (found_from 0 (words s.k v.entries) w))))

-- a number that an entry with the word w has, or none where no entry has the word
abbrev pub Names : ℕ → List Entry → List ℕ → Option ℕ → Type 0
Names k es w None = (i : ℕ) → i < length es → word k (slice_index_or es i no_entry) ≢ w
Names k es w (Some i) = (i < length es) × (word k (slice_index_or es i no_entry) ≡ w)

-- the table is open, and the same holds of its entries
unfoldable pub Finds : View → List ℕ → Option ℕ → Type 0
Finds v w number = MatchOption v.shape ⊥ (λ s. Names s.k v.entries w number)

-- ---- is_complete_to

-- has w at most m letters, and is it none of vs?
abbrev pub misses : ℕ → List (List ℕ) → List ℕ → Bool
misses m vs w = nat_le (length w) m && is_none (found_from 0 vs w)

-- is there a Lyndon word of the shape k, n that has at most m letters, and is the word of no entry?
abbrev pub lacks : ℕ → ℕ → ℕ → List Entry → Bool
lacks k n m es = list_any (misses m (words k es)) (words k (listing k n))

abbrev pub complete_outcome : View → ℕ → Outcome Bool
complete_outcome v m = when_open v.shape (λ s. answered (not (lacks s.k s.n m v.entries)))

-- the table is open, and the answer says whether each Lyndon word of its shape with at most m letters is the word of an entry
unfoldable pub TellsComplete : View → ℕ → Bool → Type 0
TellsComplete v m answer = MatchOption v.shape ⊥ (λ s. Decides answer (CompleteTo s.k s.n m (words s.k v.entries)))

-- ---- complete_length

-- m is the greatest length up to which each Lyndon word of the shape k, n is the word of an entry
pub record CompleteUpTo (k n : ℕ) (es : List Entry) (m : ℕ) : Type 0 where
  pub within : m ≤ n
  pub complete : CompleteTo k n m (words k es)
  pub greatest : (l : ℕ) → l ≤ n → CompleteTo k n l (words k es) → l ≤ m

-- the table is open, and the same holds of its entries
unfoldable pub Completed : View → ℕ → Type 0
Completed v m = MatchOption v.shape ⊥ (λ s. CompleteUpTo s.k s.n v.entries m)
