-- What a grow does, over plain values.
use Rattle.std.proofs.Common.{◌≡◌, ℕ, ◌+◌, ◌<◌, ◌≤◌, List, [], ◌∷◌, ◌++◌, length, get_or, take, drop, set, suc, Some, None, IfSome, Option, sym, refl, ap, ◌∙◌, subst, arith}
use Rattle.std.proofs.lemmas.List.{length-drop, length_push, length-set, length-take, take_more, drop_more, get_or_at, map_push}
use Rattle.std.proofs.lemmas.Bool.{le-leb, lt-leb}
use Rattle.faults.specs.declared.Layer.TheVariants as layer
use Rattle.faults.specs.Faults.{found}
use Rattle.faults.specs.Outcome.{Outcome}
use Rattle.faults.specs.Outcome.Outcome.{answered, refused}
use Rattle.lyndon.specs.declared.entry.Entry.{Entry}
use Rattle.lyndon.specs.Listing.{Rising, First, FirstMissing, keys, rest}
use Rattle.lyndon.specs.Entries.{listing, word, words, no_entry, Earlier}
use Rattle.lyndon.specs.Theorems.{FirstEntries}
use Rattle.lyndon.proofs.Entries.{first_entries, length-listing, listing_first, listing_rising}
use Rattle.lyndon.proofs.Counts.{few_keys}
use Rattle.lyndon.proofs.Keys.{rest_start}
use Rattle.lyndon.proofs.Missing.{first_missing}
use Rattle.coded_word.specs.declared.coded.CodedWord.{CodedWord}
use Rattle.coded_word.specs.declared.coded.Cursor.{Cursor}
use Rattle.coded_word.specs.Scan.{FirstFrom}
use Rattle.bracket_table.specs.Calls.{grow_in, grow_outcome, grown, listing_of}
use Rattle.bracket_table.specs.Held.{entries_in, keys_in, rest_in, IsNext}
use Rattle.bracket_table.specs.declared.Table.{Table}
use Rattle.bracket_table.specs.Search.{made, spot, entry_for}
use Rattle.bracket_table.specs.Seen.{dimensions, view, Adds, Sound}
use Rattle.bracket_table.specs.Views.{Dimensions, View}
use Rattle.bracket_table.proofs.Made.{made_next}
use Rattle.bracket_table.proofs.Searching.{spot_below}
use Rattle.lent_list.specs.declared.LentList.{LentList}
use Rattle.lent_list.specs.Lent.{items, places}

-- what a table holds: the ghost facts of its type
abbrev pub Holds : Option Cursor → List Entry → Type 0
Holds s es = (es ≡ take (length es) (entries_in s)) × ((drop (length es) (keys_in s) ≡ rest_in s) × Unit {0})

pub empty_listed : (x : Cursor) (es : List Entry) → es ≡ [] → es ≡ take (length es) (entries_in (Some x))
empty_listed x es e = rw e refl

pub empty_missing : (x : Cursor) (es : List Entry) → es ≡ [] → x.length ≡ 1 → x.code ≡ 0 → drop (length es) (keys_in (Some x)) ≡ rest_in (Some x)
empty_missing x es e a b = rw (e, a, b) (rest_start x.shape.k x.shape.n x.shape.one)

-- a refused grow leaves what is seen
pub kept : (o : Outcome ℕ) (f : _) (v : View) → refused f ≡ o → v ≡ grown o v
kept o f v e = subst (λ z. v ≡ grown z v) e refl

some_left : (xs ys : List (ℕ × ℕ)) (t : ℕ) (y : ℕ × ℕ) → drop t xs ≡ y ∷ ys → (t < length xs) × (get_or xs t (0, 0) ≡ y) × (drop (t + 1) xs ≡ ys)
some_left xs ys t y e =
    let l : t < length xs = omega (arith, length-drop t xs, ap length e) in
    let d : get_or xs t (0, 0) ∷ drop (t + 1) xs ≡ y ∷ ys = sym (drop_more xs t (0, 0) l) ∙ e in
    (l, (cc), cc)

module _ (s : Option Cursor) (x : Cursor) (is : s ≡ Some x) (es : List Entry) (listed : es ≡ take (length es) (entries_in s)) where
  abbrev k : ℕ
  k = x.shape.k

  abbrev n : ℕ
  n = x.shape.n

  pub known : es ≡ take (length es) (listing k n)
  known = subst (λ y. es ≡ take (length es) (entries_in y)) is listed

  pub in_order : Rising Earlier es
  in_order = subst (Rising Earlier) (sym known) (listing_rising k n x.shape.some (length es))

  few_words : length (keys k n) ≤ 1496
  few_words = few_keys k n x.shape.some x.shape.letters x.shape.depth x.shape.few

  long : length (listing k n) ≡ length (keys k n)
  long = length-listing k n x.shape.some

  pub few : length es ≤ 1496
  few = omega (arith, few_words, long, length-take (length es) (listing k n), ap length known)

  module _ (missing : drop (length es) (keys_in s) ≡ rest_in s) where
    pub left : drop (length es) (keys k n) ≡ rest k n x.length x.code
    left = subst (λ y. drop (length es) (keys_in y) ≡ rest_in y) is missing

    pub complete : (room : ℕ) → rest k n x.length x.code ≡ [] → refused (found 9 layer.Table 0 0) ≡ grow_in (dimensions s) (length es) room
    complete room none =
        let h : length (keys k n) ≤ length es = omega (arith, length-drop (length es) (keys k n), ap length (left ∙ none)) in
        simp (is, le-leb (length (listing k n)) (length es) (omega (arith, long)))

    -- the scan finds w
    module _ (w : CodedWord) (N : (w.shape ≡ x.shape) × (rest k n x.length x.code ≡ (w.length, w.code) ∷ rest k n w.length (w.code + 1))) where
      next : (length es < length (keys k n)) × (get_or (keys k n) (length es) (0, 0) ≡ (w.length, w.code)) × (drop (length es + 1) (keys k n) ≡ rest k n w.length (w.code + 1))
      next = some_left (keys k n) (rest k n w.length (w.code + 1)) (length es) (w.length, w.code) (left ∙ N.1)

      more : length es < length (listing k n)
      more = omega (arith, next.0, long)

      pub number_few : length es < 1496
      number_few = omega (arith, next.0, few_words)

      pub full : (room : ℕ) → room ≤ length es → refused (found 4 layer.Table 0 0) ≡ grow_in (dimensions s) (length es) room
      full room h = simp (is, lt-leb (length (listing k n)) (length es) more, le-leb room (length es) h)

      pub accepted : (room : ℕ) → length es < room → answered (length es) ≡ grow_in (dimensions s) (length es) room
      accepted room h = simp (is, lt-leb (length (listing k n)) (length es) more, lt-leb room (length es) h)

      -- its entry is put behind the others, and the scan goes on behind it
      module _ (e : Entry) (Made-so : e ≡ made w.shape.k es w.length w.code) (es' : List Entry) (put : es' ≡ es ++ e ∷ []) where
        new : e ≡ get_or (listing k n) (length es) no_entry
        new =
            Made-so
            ∙ (ap (λ z. made z.k es w.length w.code) N.0
            ∙ (ap (λ z. made k z w.length w.code) known
            ∙ made_next k n x.shape.some (length es) w.length w.code next.0 next.1))

        one_more : take (length es + 1) (listing k n) ≡ es ++ e ∷ []
        one_more =
            take_more (listing k n) (length es) no_entry more
            ∙ (ap (λ z. z ++ get_or (listing k n) (length es) no_entry ∷ []) (sym known) ∙ ap (λ z. es ++ z ∷ []) (sym new))

        size : length es' ≡ length es + 1
        size = ap length put ∙ length_push es e

        pub last : get_or es' (length es) no_entry ≡ e
        last = ap (λ z. get_or z (length es) no_entry) put ∙ get_or_at es e [] no_entry (length es) refl

        pub grown_adds : (d : Dimensions) → dimensions s ≡ Some d → FirstMissing d.k d.n (words d.k es) (word d.k (get_or es' (length es) no_entry))
        grown_adds d q =
            let g : Some (record { k = k; n = n }) ≡ Some d = sym (ap dimensions is) ∙ q in
            let h : ◌≡◌ {A = Dimensions} (record { k = k; n = n }) d = cc in
            let F : First k n (words k (es ++ e ∷ [])) = subst (λ z. First k n (words k z)) one_more (listing_first k n x.shape.some (length es + 1)) in
            let G : First k n (words k es ++ word k e ∷ []) = subst (First k n) (map_push (word k) es e) F in
            subst (λ y. FirstMissing y.k y.n (words y.k es) (word y.k (get_or es' (length es) no_entry))) h
            (rw last (first_missing k n (words k es) (word k e) G))

        module _ (y : Cursor) (same : y.shape ≡ w.shape) where
          shapes : y.shape ≡ x.shape
          shapes = same ∙ N.0

          pub grown_holds : y.length ≡ w.length → y.code ≡ w.code + 1 → Holds (Some y) es'
          grown_holds a b = rw (a, b, size, shapes) (put ∙ sym one_more, (next.2, tt))

        pub grown_view : (d : Option Dimensions) → d ≡ dimensions s → (room room' : ℕ) → length es < room → room' ≡ room → ◌≡◌ {A = View} (record { shape = d; entries = es'; room = room' }) (grown (grow_in (dimensions s) (length es) room) (record { shape = dimensions s; entries = es; room = room }))
        grown_view d D room room' h q =
            subst (λ o. ◌≡◌ {A = View} (record { shape = d; entries = es'; room = room' }) (grown o (record { shape = dimensions s; entries = es; room = room }))) (accepted room h)
            (λ i. record { shape = D i; entries = p i; room = q i })
          where
            p : es' ≡ es ++ get_or (listing_of (dimensions s)) (length es) no_entry ∷ []
            p = put ∙ ap (λ z. es ++ z ∷ []) (new ∙ sym (ap (λ z. get_or (listing_of (dimensions z)) (length es) no_entry) is))

-- ---- at any time

rising_of : (s : Option Cursor) (es : List Entry) → es ≡ take (length es) (entries_in s) → Rising Earlier es
rising_of (Some x) es listed = in_order (Some x) x refl es listed
rising_of None [] listed = tt
rising_of None (e ∷ es) listed = absurd (omega (arith, ap length listed, length-take (suc (length es)) (entries_in None)))

pub few_of : (s : Option Cursor) (es : List Entry) → es ≡ take (length es) (entries_in s) → length es ≤ 1496
few_of (Some x) es listed = few (Some x) x refl es listed
few_of None es listed = omega (arith, ap length listed, length-take (length es) (entries_in None))

-- the entries of a table stand in listing order
pub rising : (t : Table) → Rising Earlier (items t.entries)
rising t = rising_of t.next (items t.entries) t.listed

pub spot_few : (t : Table) (m c : ℕ) → IfSome (spot (items t.entries) m c) (λ i. i < 1496)
spot_few t m c = spot_below (items t.entries) m c 1496 (few_of t.next (items t.entries) t.listed)

none_some : (d : Dimensions) → ◌≡◌ {A = Option Dimensions} None (Some d) → ◌≡◌ {A = ℕ} 0 1
none_some d e = cc

-- the entries of a table are the first of the listing of its shape
pub sound : (s : Option Cursor) (es : List Entry) (room : ℕ) → es ≡ take (length es) (entries_in s) → Sound (record { shape = dimensions s; entries = es; room = room })
sound None es room listed d q = let z = none_some d q in absurd (omega arith)
sound (Some x) es room listed d q =
    let h : ◌≡◌ {A = Dimensions} (record { k = x.shape.k; n = x.shape.n }) d = cc in
    subst (λ y. FirstEntries y.k y.n es) h (first_entries x.shape.k x.shape.n x.shape.some es listed)

pub table_sound : (t : Table) → Sound (view t)
table_sound t = sound t.next (items t.entries) (length (places t.entries)) t.listed

-- ---- a grow of a table

module _ (t : Table) (x : Cursor) (is : t.next ≡ Some x) (r : Option CodedWord) (first : FirstFrom x r) where
  pub grow_complete : r ≡ None → refused (found 9 layer.Table 0 0) ≡ grow_outcome (view t)
  grow_complete none = complete t.next x is (items t.entries) t.listed t.missing (length (places t.entries)) (subst (FirstFrom x) none first)

  module _ (w : CodedWord) (some : r ≡ Some w) where
    found_w : FirstFrom x (Some w)
    found_w = subst (FirstFrom x) some first

    pub grow_full : length (items t.entries) ≡ length (places t.entries) → refused (found 4 layer.Table 0 0) ≡ grow_outcome (view t)
    grow_full h = full t.next x is (items t.entries) t.listed t.missing w found_w (length (places t.entries)) (omega arith)

    pub grow_few : length (items t.entries) < 1496
    grow_few = number_few t.next x is (items t.entries) t.listed t.missing w found_w

    module _ (e : Entry) (made_so : e ≡ made w.shape.k (items t.entries) w.length w.code) (l : LentList Entry) (put : items l ≡ items t.entries ++ e ∷ []) where
      pub grow_first : (i : ℕ) → i ≡ length (items t.entries) → Adds (view t) (get_or (items l) i no_entry)
      unfolding Adds
      grow_first i at d q = rw at (grown_adds t.next x is (items t.entries) t.listed t.missing w found_w e made_so (items l) put d q)

      pub grow_view : (d : Option Dimensions) → d ≡ dimensions t.next → length (items t.entries) < length (places t.entries) → places l ≡ set (places t.entries) (length (items t.entries)) e → ◌≡◌ {A = View} (record { shape = d; entries = items l; room = length (places l) }) (grown (grow_outcome (view t)) (view t))
      grow_view d D room there =
          grown_view t.next x is (items t.entries) t.listed t.missing w found_w e made_so (items l) put d D (length (places t.entries)) (length (places l)) room
          (ap length there ∙ length-set (places t.entries) (length (items t.entries)) e)

    pub grow_next : IsNext t.next w
    grow_next = subst (λ z. IsNext z w) (sym is) found_w

-- what the promises of a grow follow from
pub ruleset grows = (grow_complete, grow_full, grow_few, grow_first, grow_view, grow_next, kept)

-- ---- the next word is added

-- where the scan goes on, where a word is next
next_of : (s : Option Cursor) (w : CodedWord) → IsNext s w → (x : Cursor) × (s ≡ Some x) × FirstFrom x (Some w)
next_of None w next = absurd next
next_of (Some x) w next = (x, refl, next)

module _ (t : Table) (w : CodedWord) (next : IsNext t.next w) (y : Cursor) (same : y.shape ≡ w.shape) where
  from : (x : Cursor) × (t.next ≡ Some x) × FirstFrom x (Some w)
  from = next_of t.next w next

  pub same_dimensions : dimensions (Some y) ≡ dimensions t.next
  same_dimensions = ap (λ z. Some (record { k = z.k; n = z.n })) (same ∙ from.2.0) ∙ sym (ap dimensions from.1)

  module _ (e : Entry) (made_so : e ≡ entry_for (items t.entries) w) (l : LentList Entry) (put : items l ≡ items t.entries ++ e ∷ []) (m : y.length ≡ w.length) (behind : y.code ≡ w.code + 1) where
    holds : Holds (Some y) (items l)
    holds = grown_holds t.next from.0 from.1 (items t.entries) t.listed t.missing w from.2 e made_so (items l) put y same m behind

    pub added_listed : items l ≡ take (length (items l)) (entries_in (Some y))
    added_listed = holds.0

    pub added_missing : drop (length (items l)) (keys_in (Some y)) ≡ rest_in (Some y)
    added_missing = holds.1.0
