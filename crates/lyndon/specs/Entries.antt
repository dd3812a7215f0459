-- The entries of a listing: each Lyndon word of a shape, with the numbers of the entries of its split.
use Rattle.std.specs.Prelude.{◌≡◌, ℕ, suc, ◌<◌, cond, ◌&&◌, ◌⊎◌, List, [], ◌∷◌, map, length, take, drop, ◌==◌, slice_index_or}
use Rattle.letter_order.specs.Orders.{by_value}
use Rattle.lyndon.specs.declared.entry.Entry.{Entry}
use Rattle.lyndon.specs.Words.{Split}
use Rattle.lyndon.specs.Factoring.{split_place}
use Rattle.lyndon.specs.Codes.{code, spelled}
use Rattle.lyndon.specs.Listing.{keys}

-- the number of the first word with this length and code
abbrev pub place : List (ℕ × ℕ) → ℕ → ℕ → ℕ
place [] m c = 0
place (x ∷ xs) m c = cond (x.0 == m && x.1 == c) 0 (suc (place xs m c))

-- the number of w, where ks are the words of the listing
abbrev pub number : ℕ → List (ℕ × ℕ) → List ℕ → ℕ
number k ks w = place ks (length w) (code k w)

-- how many letters the left part of the split of w has
abbrev pub cut : List ℕ → ℕ
cut w = split_place by_value w

-- the entry of w, where ks are the words of the listing
abbrev pub entry_of : ℕ → List (ℕ × ℕ) → List ℕ → Entry
entry_of k ks w =
    record {
      length = length w;
      code = code k w;
      left = cond (length w == 1) 65535 (number k ks (take (cut w) w));
      right = cond (length w == 1) 65535 (number k ks (drop (cut w) w));
    }

abbrev pub entry : ℕ → List (ℕ × ℕ) → ℕ × ℕ → Entry
entry k ks x = entry_of k ks (spelled k x.0 x.1)

-- all entries of the shape k, n, by their numbers
unfoldable pub listing : ℕ → ℕ → List Entry
listing k n = map (entry k (keys k n)) (keys k n)

-- the word of an entry
abbrev pub word : ℕ → Entry → List ℕ
word k e = spelled k e.length e.code

abbrev pub words : ℕ → List Entry → List (List ℕ)
words k es = map (word k) es

abbrev pub no_entry : Entry
no_entry = record { length = 0; code = 0; left = 0; right = 0 }

-- the entry e, number i of es, is a letter, which has no parts and 65,535 for both; or it names two earlier ones: one
-- after the other they spell it, and the second is its longest proper suffix that is Lyndon
pub record Parted (k : ℕ) (es : List Entry) (i : ℕ) (e : Entry) : Type 0 where
  pub letter : e.length ≡ 1 → (e.left ≡ 65535) × (e.right ≡ 65535)
  pub earlier : 1 < e.length → (e.left < i) × (e.right < i)
  pub split : 1 < e.length → Split by_value (word k e) (word k (slice_index_or es e.left no_entry)) (word k (slice_index_or es e.right no_entry))

abbrev pub Parts : ℕ → List Entry → Type 0
Parts k es = (i : ℕ) → i < length es → Parted k es i (slice_index_or es i no_entry)

-- the entry d stands before e in listing order
abbrev pub Earlier : Entry → Entry → Type 0
Earlier d e = (d.length < e.length) ⊎ ((d.length ≡ e.length) × (d.code < e.code))
