-- What holds of words over letters of which `ranks` is the order.
use Rattle.std.specs.Prelude.{◌≡◌, ℕ, ◌-◌, ◌<◌, ◌≤◌, List, [], ◌∷◌, ◌++◌, length, take, drop, Decides}
use Rattle.std.specs.declared.cmp.Ordering.{Ordering}
use Rattle.lyndon.specs.declared.entry.Entry.{Entry}
use Rattle.lyndon.specs.Words.{Before, Lyndon, Factors, Split}
use Rattle.lyndon.specs.Factoring.{factors, is_lyndon, split_place}
use Rattle.lyndon.specs.Listing.{OfShape, In, First}
use Rattle.lyndon.specs.Entries.{words, listing, Parts}

-- f is a prefix of w that is Lyndon, and no longer prefix is
pub record LongestPrefix {A : Type 0} (ranks : A → A → Ordering) (w f : List A) : Type 0 where
  pub prefix : take (length f) w ≡ f
  pub lyndon : Lyndon ranks f
  pub longest : (n : ℕ) → n ≤ length w → Lyndon ranks (take n w) → n ≤ length f

-- f is a suffix of w, and no non-empty suffix is before it
pub record LeastSuffix {A : Type 0} (ranks : A → A → Ordering) (w f : List A) : Type 0 where
  pub suffix : drop (length w - length f) w ≡ f
  pub least : (i : ℕ) → i < length w → Before ranks (drop i w) f → ⊥

-- w has exactly one factorization; its first factor is the longest prefix that is Lyndon, its last the least suffix
pub record OneFactorization {A : Type 0} (ranks : A → A → Ordering) (w : List A) : Type 0 where
  pub exists : Factors ranks w (factors ranks w)
  pub only : (fs : List (List A)) → Factors ranks w fs → fs ≡ factors ranks w
  pub first : (f : List A) (fs : List (List A)) → factors ranks w ≡ f ∷ fs → LongestPrefix ranks w f
  pub last : (fs : List (List A)) (f : List A) → factors ranks w ≡ fs ++ f ∷ [] → LeastSuffix ranks w f

abbrev pub Factorizations : {A : Type 0} → (A → A → Ordering) → Type 0
Factorizations {A} ranks = (w : List A) → OneFactorization ranks w

-- l and r are the one split of w; both are Lyndon, and no proper non-empty suffix is before r
pub record OneSplit {A : Type 0} (ranks : A → A → Ordering) (w l r : List A) : Type 0 where
  pub exists : Split ranks w l r
  pub only : (p q : List A) → Split ranks w p q → (p ≡ l) × (q ≡ r)
  pub left : Lyndon ranks l
  pub right : Lyndon ranks r
  pub least : (i : ℕ) → 0 < i → i < length w → Before ranks (drop i w) r → ⊥

-- a Lyndon word of two or more letters has exactly one split
abbrev pub Splits : {A : Type 0} → (A → A → Ordering) → Type 0
Splits {A} ranks =
    (w : List A) → Lyndon ranks w → 2 ≤ length w → OneSplit ranks w (take (split_place ranks w) w) (drop (split_place ranks w) w)

-- the test for Lyndon words is right
abbrev pub Tested : {A : Type 0} → (A → A → Ordering) → Type 0
Tested {A} ranks = (w : List A) → Decides (is_lyndon ranks w) (Lyndon ranks w)

-- es are the first entries of the listing of k letters and words of at most n: the first Lyndon words of the shape in
-- listing order, each once and none skipped, and each names its parts
pub record FirstEntries (k n : ℕ) (es : List Entry) : Type 0 where
  pub listed : es ≡ take (length es) (listing k n)
  pub first : First k n (words k es)
  pub parts : Parts k es

-- the listing has every Lyndon word of the shape, and no other
pub record Lists (k n : ℕ) : Type 0 where
  pub entries : FirstEntries k n (listing k n)
  pub all : (w : List ℕ) → OfShape k n w → In w (words k (listing k n))

unfoldable pub Listings : Type 0
Listings = (k n : ℕ) → 1 ≤ k → Lists k n
