-- What the calls on sheets come to.
use Rattle.std.specs.Prelude.{ℕ, ◌+◌, ◌^◌, not, ◌||◌, List, [], Some, None, Option, ◌==◌, nat_lt}
use Rattle.std.specs.List.{slice_get}
use Rattle.faults.specs.declared.Layer.TheVariants as layer
use Rattle.faults.specs.Faults.{found, passed}
use Rattle.faults.specs.Outcome.{Outcome, refuse_if, checked}
use Rattle.faults.specs.Outcome.Outcome.{answered, refused}
use Rattle.ring_laws.specs.Rings.{Operations}
use Rattle.bracket_table.specs.Calls.{when_open, with_entry, lacks}
use Rattle.bracket_table.specs.Views.{Dimensions, View}
use Rattle.lyndon.specs.declared.entry.Entry.{Entry}
use Rattle.lyndon.specs.Entries.{word}
use Rattle.polynomial.specs.Polynomials.{P}
use Rattle.sheet_laws.specs.Sheets.{sheet_of, bracket}
use Rattle.sheet_laws.specs.Coordinates.{combined, Coordinates}
use Rattle.sheet_laws.specs.Brackets.{OnlyLyndon}

-- what a call of the table layer comes to, which this layer makes, and what follows where it answers
abbrev pub followed : {X Y : Type 0} → Outcome X → (X → Outcome Y) → Outcome Y
followed (answered x) rest = rest x
followed (refused fault) rest = refused (passed layer.Sheet fault)

-- a closed table is refused
abbrev pub when_shaped : {Y : Type 0} → View → (Dimensions → Outcome Y) → Outcome Y
when_shaped v rest = followed (when_open v.shape answered) rest

-- a sheet of length m is to have so many values as there are words of m letters
abbrev pub size_checked : ℕ → ℕ → ℕ → Outcome (Unit {0})
size_checked k m size = refuse_if (not (size == k ^ m)) (found 5 layer.Sheet 0 0) (answered tt)

-- ---- expand

-- for the entry with this number, and a sheet with so many values
abbrev pub expand_outcome : View → ℕ → ℕ → Outcome (Unit {0})
expand_outcome v i size = when_shaped v (λ s. followed (with_entry (slice_get v.entries i) answered) (λ e. size_checked s.k e.length size))

-- what the sheet holds then: P of the entry's word, each coefficient by its image
abbrev pub expanded_in : {A : Type 0} → Operations A → Option Dimensions → Option Entry → List A
expanded_in ring None e = []
expanded_in ring (Some s) None = []
expanded_in ring (Some s) (Some e) = sheet_of s.k e.length (λ u. ring.image (P (word s.k e) u))

-- ---- join

-- both lengths are to be above zero, and their sum is to be a length of words
abbrev pub lengths_checked : ℕ → ℕ → ℕ → Outcome (Unit {0})
lengths_checked n a b = refuse_if (a == 0 || (b == 0 || nat_lt n (a + b))) (found 12 layer.Sheet 0 0) (answered tt)

-- for sheets of lengths a and b with so many values, and one of their joint length with `size` values
abbrev pub join_outcome : View → ℕ → ℕ → ℕ → ℕ → ℕ → Outcome (Unit {0})
join_outcome v a x b y size =
    when_shaped v (λ s.
    checked (lengths_checked s.n a b)
    (checked (size_checked s.k a x) (checked (size_checked s.k b y) (size_checked s.k (a + b) size))))

-- what the third sheet holds then, over k letters
abbrev pub joined_in : {A : Type 0} → Operations A → Option Dimensions → ℕ → List A → ℕ → List A → List A
joined_in ring None a x b y = []
joined_in ring (Some s) a x b y = sheet_of s.k (a + b) (bracket ring s.k a b x y)

-- ---- into, back and lie

-- m is to be a length of words
abbrev pub length_checked : ℕ → ℕ → Outcome (Unit {0})
length_checked n m = refuse_if (m == 0 || nat_lt n m) (found 12 layer.Sheet 0 0) (answered tt)

-- each Lyndon word of at most m letters is to be the word of an entry
abbrev pub entries_checked : ℕ → ℕ → ℕ → List Entry → Outcome (Unit {0})
entries_checked k n m es = refuse_if (lacks k n m es) (found 11 layer.Sheet 0 0) (answered tt)

-- for a sheet of length m with so many values
abbrev pub conversion_outcome : View → ℕ → ℕ → Outcome (Unit {0})
conversion_outcome v m size =
    when_shaped v (λ s.
    checked (length_checked s.n m)
    (checked (size_checked s.k m size) (entries_checked s.k s.n m v.entries)))

-- into leaves c: they are coordinates of the sheet of length m
abbrev pub IntoLeaves : {A : Type 0} → Operations A → Option Dimensions → ℕ → List A → List A → Type 0
IntoLeaves ring None m sheet c = ⊥
IntoLeaves ring (Some s) m sheet c = Coordinates ring s.k m sheet c

-- back leaves the sheet of length m with these coordinates
abbrev pub back_leaves : {A : Type 0} → Operations A → Option Dimensions → ℕ → List A → List A
back_leaves ring None m c = []
back_leaves ring (Some s) m c = combined ring s.k m c

-- lie says yes: of the coordinates of a sheet of length m, each at a word that is not Lyndon is zero
abbrev pub LieSaysYes : {A : Type 0} → Operations A → Option Dimensions → ℕ → List A → Type 0
LieSaysYes ring None m c = ⊥
LieSaysYes ring (Some s) m c = OnlyLyndon ring s.k m c
