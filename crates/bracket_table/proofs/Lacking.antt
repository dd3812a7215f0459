-- Which Lyndon words of a shape are no entries, over plain lists.
use Rattle.std.proofs.Common.{◌≡◌, ℕ, suc, ◌+◌, ◌-◌, ◌<◌, ◌≤◌, Bool, true, false, not, ◌||◌, ◌⊎◌, List, [], ◌∷◌, ◌++◌, map, length, take, drop, Some, None, is_some, is_none, nat_le, nat_lt, Decides, Ordering, sym, refl, ap, ◌∙◌, subst, inl, inr, arith, take-append-drop}
use Rattle.std.specs.Ordering.{is_eq}
use Rattle.std.specs.List.{AllByRecursion, list_any}
use Rattle.std.proofs.ByRecursion.{All-weaker, All-map}
use Rattle.std.proofs.lemmas.Bool.{cases_Bool, cases_lt, both_ways, false≢true, false_from_ne_true, leb-true, le-leb, lt-ltb, le-ltb}
use Rattle.std.proofs.lemmas.Bool.Decides.{Decides-and, Decides-or, Decides-not, Decides-like, not_from_Decides}
use Rattle.std.proofs.lemmas.List.{take-map, drop-map, take_all, drop_all}
use Rattle.faults.specs.Outcome.Outcome.{answered}
use Rattle.letter_order.specs.Orders.{by_value}
use Rattle.lyndon.specs.declared.entry.Entry.{Entry}
use Rattle.lyndon.specs.Words.{dictionary}
use Rattle.lyndon.specs.Codes.{spelled, Listed}
use Rattle.lyndon.specs.Listing.{OfShape, In, Rising, CompleteTo, keys}
use Rattle.lyndon.specs.Entries.{listing, word, words}
use Rattle.lyndon.proofs.Codes.{by_value_total, length-spelled}
use Rattle.lyndon.proofs.Dictionary.{same_words}
use Rattle.lyndon.proofs.Entries.{length-listing, words_listed, words_rising, word_in, first_entries}
use Rattle.lyndon.proofs.Keys.{rest_each}
use Rattle.lyndon.proofs.Missing.{not_twice}
use Rattle.lyndon.proofs.Rises.{in_all, in_either, in_map, in_right}
use Rattle.coded_word.specs.declared.coded.CodedWord.{CodedWord}
use Rattle.coded_word.specs.declared.coded.Cursor.{Cursor}
use Rattle.coded_word.specs.Scan.{FirstFrom, left_from}
use Rattle.lent_list.specs.Lent.{items}
use Rattle.bracket_table.specs.Calls.{found_from, misses, lacks, complete_outcome, TellsComplete, CompleteUpTo, Completed}
use Rattle.bracket_table.specs.Seen.{view}
use Rattle.bracket_table.specs.declared.Table.{Table}
use Rattle.bracket_table.proofs.Growing.{known, left}

-- a word is found where it is one of them
found_in : (i : ℕ) (vs : List (List ℕ)) (w : List ℕ) → Decides (is_some (found_from i vs w)) (In w vs)
found_in i [] w = (λ e. absurd (false≢true e), λ h. absurd h)
found_in i (v ∷ vs) w = go (cases_Bool (is_eq r)) (found_in (suc i) vs w)
  where
    r : Ordering
    r = dictionary by_value v w

    same : Decides (is_eq r) (v ≡ w)
    same = same_words by_value_total v w

    go : (is_eq r ≡ true) ⊎ (is_eq r ≡ false) → Decides (is_some (found_from (suc i) vs w)) (In w vs) → Decides (is_some (found_from i (v ∷ vs) w)) (In w (v ∷ vs))
    go (inl t) more = rw t (λ e. inl (sym (same.0 t)), λ h. refl)
    go (inr t) more = rw t (λ e. inr (more.0 e), λ h. elim h [ inl q ↦ absurd (both_ways (is_eq r) t (same.1 (sym q))) | inr k ↦ more.1 k ])

-- a test that some element passes
any_in : {A : Type 0} (p : A → Bool) (P : A → Type 0) → ((x : A) → Decides (p x) (P x)) → (xs : List A) → Decides (list_any p xs) ((x : A) × In x xs × P x)
any_in p P each [] = (λ e. absurd (false≢true e), λ h. absurd h.1)
any_in {A} p P each (y ∷ xs) = Decides-like (p y || list_any p xs) to from (Decides-or (p y) (list_any p xs) (each y) (any_in p P each xs))
  where
    to : P y ⊎ ((x : A) × In x xs × P x) → (x : A) × In x (y ∷ xs) × P x
    to (inl a) = (y, inl refl, a)
    to (inr h) = (h.0, inr h.1, h.2)

    from : (x : A) × In x (y ∷ xs) × P x → P y ⊎ ((x : A) × In x xs × P x)
    from (x, inl q, a) = inl (subst P q a)
    from (x, inr i, a) = inr (x, i, a)

-- a word of ws that has at most m letters and is none of vs
abbrev Lacking : ℕ → List (List ℕ) → List (List ℕ) → Type 0
Lacking m vs ws = (w : List ℕ) × In w ws × ((length w ≤ m) × (In w vs → ⊥))

lacking : (m : ℕ) (vs ws : List (List ℕ)) → Decides (list_any (misses m vs) ws) (Lacking m vs ws)
lacking m vs ws =
    any_in (misses m vs) (λ w. (length w ≤ m) × (In w vs → ⊥)) (λ w.
    Decides-and (nat_le (length w) m) (is_none (found_from 0 vs w)) (leb-true (length w) m, le-leb (length w) m) (Decides-not (is_some (found_from 0 vs w)) (found_in 0 vs w))) ws

-- where none is lacking, each Lyndon word of the shape with at most m letters is the word of an entry
pub all_there : (k n m : ℕ) → 1 ≤ k → (es : List Entry) → lacks k n m es ≡ false → CompleteTo k n m (words k es)
all_there k n m some es full w W l =
    elim (cases_Bool (is_some (found_from 0 (words k es) w))) [
      | inl e ↦ (found_in 0 (words k es) w).0 e
      | inr e ↦
          let i = subst (In w) (sym (words_listed k n some)) (word_in k n some w W) in
          absurd (not_from_Decides (lacks k n m es) (lacking m (words k es) (words k (listing k n))) full (w, i, (l, not_from_Decides (is_some (found_from 0 (words k es) w)) (found_in 0 (words k es) w) e)))
    ]

-- and where each is, none is lacking
pub none_lacks : (k n m : ℕ) → 1 ≤ k → (es : List Entry) → CompleteTo k n m (words k es) → lacks k n m es ≡ false
none_lacks k n m some es complete =
    false_from_ne_true (lacks k n m es)
    (λ e.
    let h = (lacking m (words k es) (words k (listing k n))).0 e in
    let W : OfShape k n h.0 = in_all (OfShape k n) h.0 (words k (listing k n)) (first_entries k n some (listing k n) (sym (take_all (length (listing k n)) (listing k n) (omega arith)))).first.lyndon h.1 in
    h.2.1 (complete h.0 W h.2.0))

-- so this is a test for it
complete_test : (k n m : ℕ) → 1 ≤ k → (es : List Entry) → Decides (not (lacks k n m es)) (CompleteTo k n m (words k es))
complete_test k n m some es = go (cases_Bool (lacks k n m es))
  where
    go : (lacks k n m es ≡ true) ⊎ (lacks k n m es ≡ false) → Decides (not (lacks k n m es)) (CompleteTo k n m (words k es))
    go (inl e) = rw e (λ h. absurd (false≢true h), λ c. absurd (both_ways (lacks k n m es) (none_lacks k n m some es c) e))
    go (inr e) = rw e (λ h. all_there k n m some es e, λ c. refl)

module _ (k n : ℕ) (some : 1 ≤ k) (es : List Entry) (listed : es ≡ take (length es) (listing k n)) where
  abbrev spell : ℕ × ℕ → List ℕ
  spell x = spelled k x.0 x.1

  module _ (xs : List (ℕ × ℕ)) (left : drop (length es) (keys k n) ≡ xs) where
    -- the words of the entries, and those that are left
    parted : words k (listing k n) ≡ words k es ++ map spell xs
    parted =
        let front : take (length es) (words k (listing k n)) ≡ words k es = take-map (word k) (length es) (listing k n) ∙ ap (words k) (sym listed) in
        let back : drop (length es) (words k (listing k n)) ≡ map spell xs = ap (drop (length es)) (words_listed k n some) ∙ (drop-map spell (length es) (keys k n) ∙ ap (map spell) left) in
        sym (take-append-drop (length es) (words k (listing k n))) ∙ (λ i. front i ++ back i)

    up : Rising Listed (words k es ++ map spell xs)
    up = subst (Rising Listed) (sym (words_listed k n some) ∙ parted) (words_rising k n some)

    pub all_long : (m : ℕ) → AllByRecursion (λ x. m < x.0) xs → false ≡ lacks k n m es
    all_long m a = sym (false_from_ne_true (lacks k n m es) (λ e. no ((lacking m (words k es) (words k (listing k n))).0 e)))
      where
        long : AllByRecursion (λ w. m < length w) (map spell xs)
        long = All-map (λ w. m < length w) spell xs (All-weaker (λ x. m < x.0) (λ x. m < length (spell x)) (λ x l. rw length-spelled l) xs a)

        no : Lacking m (words k es) (words k (listing k n)) → ⊥
        no h =
            elim (in_either h.0 (words k es) (map spell xs) (subst (In h.0) parted h.1)) [
              | inl i ↦ h.2.1 i
              | inr i ↦ omega (arith, h.2.0, in_all (λ w. m < length w) h.0 (map spell xs) long i)
            ]

    pub first_short : (m : ℕ) (x : ℕ × ℕ) → In x xs → x.0 ≤ m → true ≡ lacks k n m es
    first_short m x i l =
        let w = spell x in
        let j = in_map spell x xs i in
        sym ((lacking m (words k es) (words k (listing k n))).1 (w, subst (In w) (sym parted) (in_right w (words k es) (map spell xs) j), (rw length-spelled l, not_twice (words k es) (map spell xs) up w j)))

-- where all entries of the listing are there, none is
pub none_lacking : (k n m : ℕ) → 1 ≤ k → lacks k n m (listing k n) ≡ false
none_lacking k n m some =
    let es : List Entry = listing k n in
    sym (all_long k n some es (sym (take_all (length es) es (omega arith))) [] (drop_all (length es) (keys k n) (omega (arith, length-listing k n some))) m tt)

-- ---- of a table

module _ (t : Table) (x : Cursor) (is : t.next ≡ Some x) where
  abbrev k : ℕ
  k = x.shape.k

  abbrev n : ℕ
  n = x.shape.n

  abbrev es : List Entry
  es = items t.entries

  listed : es ≡ take (length es) (listing k n)
  listed = known t.next x is es t.listed

  missing : drop (length es) (keys k n) ≡ left_from x
  missing = left t.next x is es t.listed t.missing

  -- none is lacking of at most m letters, where all that are left are longer
  none : (m : ℕ) → AllByRecursion (λ y. m < y.0) (left_from x) → false ≡ lacks k n m es
  none m a = all_long k n x.shape.some es listed (left_from x) missing m a

  -- one is lacking, where the first that is left has at most m letters
  some : (m : ℕ) (w : CodedWord) → FirstFrom x (Some w) → w.length ≤ m → true ≡ lacks k n m es
  some m w N l = first_short k n x.shape.some es listed (left_from x) missing m (w.length, w.code) (rw N.1 (inl refl)) l

  -- the first that is left is longer, and so is all behind it
  longer : (m : ℕ) (w : CodedWord) → FirstFrom x (Some w) → m < w.length → AllByRecursion (λ y. m < y.0) (left_from x)
  longer m w N l = rw N.1 (l, rest_each k n w.length (w.code + 1) (suc m) l)

  module _ (m : ℕ) where
    says : (b : Bool) → b ≡ lacks k n m es → answered (not b) ≡ complete_outcome (view t) m
    says b e = rw (is, e) refl

    -- the scan has come to longer words
    pub complete_far : m < x.length → answered true ≡ complete_outcome (view t) m
    complete_far l = says false (none m (rest_each k n x.length x.code (suc m) l))

    pub complete_none : FirstFrom x None → answered true ≡ complete_outcome (view t) m
    complete_none e = says false (none m (rw e tt))

    pub complete_next : (w : CodedWord) → FirstFrom x (Some w) → answered (nat_lt m w.length) ≡ complete_outcome (view t) m
    complete_next w N =
        elim (cases_lt m w.length) [
          | inl l ↦ rw (lt-ltb m w.length l) (says false (none m (longer m w N l)))
          | inr l ↦ rw (le-ltb m w.length l) (says true (some m w N l))
        ]

    -- what the answer says
    pub complete_told : (answer : Bool) → answered answer ≡ complete_outcome (view t) m → TellsComplete (view t) m answer
    unfolding TellsComplete
    complete_told answer e =
        let full : Bool = not (lacks k n m es) in
        let f : answered answer ≡ answered full = rw is at e in
        let g : answer ≡ full = cc in
        rw (is, g) (complete_test k n m x.shape.some es)

    upto : CompleteUpTo k n es m → Completed (view t) m
    unfolding Completed
    upto c = rw is c

    -- no word is left
    pub upto_end : FirstFrom x None → m ≡ n → Completed (view t) m
    upto_end e end =
        upto (record {
          within = omega (arith, end);
          complete = all_there k n m x.shape.some es (sym (none m (rw e tt)));
          greatest = λ l h c. omega (arith, end, h);
        })

    -- the first that is left is longer by one
    pub upto_next : (w : CodedWord) → FirstFrom x (Some w) → m ≡ w.length - 1 → Completed (view t) m
    upto_next w N before =
        upto (record {
          within = omega (arith, before, w.short, ap (λ s. s.n) N.0);
          complete = all_there k n m x.shape.some es (sym (none m (longer m w N (omega (arith, before, w.some)))));
          greatest = λ l h c.
              elim (cases_lt l w.length) [
                | inl j ↦ omega (arith, before, j)
                | inr j ↦ absurd (both_ways (lacks k n l es) (none_lacks k n l x.shape.some es c) (sym (some l w N j)))
              ];
        })

-- what the answers follow from
pub ruleset completes = (complete_far, complete_none, complete_next, complete_told)

pub ruleset completed = (upto_end, upto_next)
