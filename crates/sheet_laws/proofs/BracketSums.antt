-- A sheet is a sum of multiples of brackets where its coordinates are zero at each word that is not Lyndon, and only there.
use Rattle.std.proofs.Common.{◌≡◌, ℕ, ◌^◌, ◌<◌, ◌≤◌, Bool, true, eqb, ◌↔◌, List, [], ◌∷◌, map, length, refl, sym, ap, ap₂, ◌∙◌, subst, inl, inr, arith}
use Rattle.std.specs.List.{AllByRecursion, filter, range_with_len}
use Rattle.std.proofs.lemmas.Bool.{cases_Bool, eq-eqb, eqb-true}
use Rattle.std.proofs.lemmas.List.{length-map}
use Rattle.std.proofs.lemmas.List.FromFn.{length-map-range_with_len, get_or-map-range_with_len}
use Rattle.std.proofs.ByRecursion.{All-map, All-weaker}
use Rattle.lyndon.specs.declared.entry.Entry.{Entry}
use Rattle.ring_laws.specs.Rings.{Operations, Laws}
use Rattle.letter_order.specs.Orders.{by_value}
use Rattle.lyndon.specs.Words.{Lyndon}
use Rattle.lyndon.specs.Codes.{code, spelled}
use Rattle.lyndon.specs.Listing.{OfShape, In, Rising, CompleteTo}
use Rattle.lyndon.specs.Entries.{word, words, Earlier}
use Rattle.lyndon.specs.Theorems.{FirstEntries}
use Rattle.lyndon.proofs.Codes.{length-spelled, spelled-over, code-spelled, spelled-code, code_below}
use Rattle.lyndon.proofs.Entries.{rising_map, listing_coded, listing_rising}
use Rattle.lyndon.proofs.Rises.{in_all, in_map}
use Rattle.polynomial.specs.Polynomials.{P}
use Rattle.sheet_laws.specs.Coordinates.{sum, combined, Coordinates}
use Rattle.sheet_laws.specs.Brackets.{of_length, multiples, OnlyLyndon, SumOfBrackets}
use Rattle.sheet_laws.specs.Sheets.{sheet_of}
use Rattle.sheet_laws.proofs.Sheets.{length-sheet_of}
use Rattle.sheet_laws.proofs.Coordinates.{one_set}
use Rattle.sheet_laws.proofs.Triangles.{at, sum_same}
use Rattle.sheet_laws.proofs.Scattered.{added, scattered, ZeroElsewhere, scattered_elsewhere, sum_scattered, sum_elsewhere}

-- ---- lists

-- what is an image has something that it is the image of
in_unmap : {A B : Type 0} (f : A → B) (y : B) (xs : List A) → In y (map f xs) → (x : A) × In x xs × (y ≡ f x)
in_unmap f y [] h = absurd h
in_unmap f y (x ∷ xs) (inl e) = (x, inl refl, e)
in_unmap f y (x ∷ xs) (inr h) = let r = in_unmap f y xs h in (r.0, inr r.1, r.2)

-- what holds of all images
all_unmap : {A B : Type 0} (P : B → Type 0) (f : A → B) (xs : List A) → AllByRecursion P (map f xs) → AllByRecursion (λ x. P (f x)) xs
all_unmap P f [] a = tt
all_unmap P f (x ∷ xs) a = (a.0, all_unmap P f xs a.1)

module _ {A : Type 0} (test : A → Bool) where
  -- those that pass a test pass it, and what holds of all holds of them
  all_filter : (P : A → Type 0) (xs : List A) → AllByRecursion P xs → AllByRecursion (λ x. (test x ≡ true) × P x) (filter test xs)
  all_filter P [] a = tt
  all_filter P (x ∷ xs) a = elim (cases_Bool (test x)) [ inl e ↦ rw e ((e, a.0), all_filter P xs a.1) | inr e ↦ rw e (all_filter P xs a.1) ]

  -- they stand in the order of all
  rising_filter : (R : A → A → Type 0) (xs : List A) → Rising R xs → Rising R (filter test xs)
  rising_filter R [] a = tt
  rising_filter R (x ∷ xs) a =
      elim (cases_Bool (test x)) [
        | inl e ↦ rw e (All-weaker (λ y. (test y ≡ true) × R x y) (R x) (λ y h. h.1) (filter test xs) (all_filter (R x) xs a.0), rising_filter R xs a.1)
        | inr e ↦ rw e (rising_filter R xs a.1)
      ]

  -- each that passes is among them
  in_filter : (x : A) (xs : List A) → In x xs → test x ≡ true → In x (filter test xs)
  in_filter x [] h t = absurd h
  in_filter x (y ∷ xs) (inl e) t = let s : test y ≡ true = ap test (sym e) ∙ t in rw s (inl e)
  in_filter x (y ∷ xs) (inr h) t = elim (cases_Bool (test y)) [ inl e ↦ rw e (inr (in_filter x xs h t)) | inr e ↦ rw e (in_filter x xs h t) ]

-- ---- codes

-- the codes of the entries of m letters, in the order of the entries
abbrev codes_of : ℕ → List Entry → List ℕ
codes_of m es = map (λ e. e.code) (of_length m es)

-- the entry's code is one of a word of its length
abbrev IsCoded : ℕ → Entry → Type 0
IsCoded k e = e.code < k ^ e.length

-- what holds of all entries holds of those of m letters
all_of_length : (m : ℕ) (P : Entry → Type 0) (es : List Entry) → AllByRecursion P es → AllByRecursion (λ e. (e.length ≡ m) × P e) (of_length m es)
all_of_length m P es a =
    All-weaker (λ e. (eqb e.length m ≡ true) × P e) (λ e. (e.length ≡ m) × P e) (λ e h. (eqb-true e.length m h.0, h.1)) (of_length m es)
    (all_filter (λ e. eqb e.length m) P es a)

module _ (k n m : ℕ) (some : 1 ≤ k) (es : List Entry) (first : FirstEntries k n es) where
  -- each entry is coded
  coded : AllByRecursion (IsCoded k) es
  coded = subst (AllByRecursion (IsCoded k)) (sym first.listed) (listing_coded k n some (length es))

  -- those of m letters have m letters
  sized : AllByRecursion (λ e. e.length ≡ m) (of_length m es)
  sized = All-weaker (λ e. (e.length ≡ m) × IsCoded k e) (λ e. e.length ≡ m) (λ e h. h.0) (of_length m es) (all_of_length m (IsCoded k) es coded)

  -- their codes are codes of words of m letters
  codes_below : AllByRecursion (λ q. q < k ^ m) (codes_of m es)
  codes_below =
      All-map (λ q. q < k ^ m) (λ e. e.code) (of_length m es)
      (All-weaker (λ e. (e.length ≡ m) × IsCoded k e) (λ e. e.code < k ^ m) (λ e h. rw h.0 at h.1) (of_length m es) (all_of_length m (IsCoded k) es coded))

  -- these words are Lyndon
  codes_lyndon : AllByRecursion (λ q. Lyndon by_value (spelled k m q)) (codes_of m es)
  codes_lyndon =
      All-map (λ q. Lyndon by_value (spelled k m q)) (λ e. e.code) (of_length m es)
      (All-weaker (λ e. (e.length ≡ m) × OfShape k n (word k e)) (λ e. Lyndon by_value (spelled k m e.code))
      (λ e h. subst (λ j. Lyndon by_value (spelled k j e.code)) h.0 h.1.lyndon) (of_length m es)
      (all_of_length m (λ e. OfShape k n (word k e)) es (all_unmap (OfShape k n) (word k) es first.first.lyndon)))

  -- the codes rise, so none is there twice
  codes_rise : Rising ◌<◌ (codes_of m es)
  codes_rise =
      rising_map Earlier ◌<◌ (λ e. e.length ≡ m) (λ e. e.code)
      (λ d e a b h. elim h [ inl l ↦ absurd (omega arith) | inr s ↦ s.1 ])
      (of_length m es) sized
      (rising_filter (λ e. eqb e.length m) Earlier es (subst (Rising Earlier) (sym first.listed) (listing_rising k n some (length es))))

  -- where no Lyndon word of m letters is missing, the code of each is there
  codes_have : m ≤ n → CompleteTo k n m (words k es) → (p : ℕ) → p < k ^ m → Lyndon by_value (spelled k m p) → In p (codes_of m es)
  codes_have shorter complete p h lyn =
      let w : List ℕ = spelled k m p in
      let size : length w ≡ m = length-spelled k m p in
      let shape : OfShape k n w = record { lyndon = lyn; letters = spelled-over k m p some h; short = omega arith } in
      let found = in_unmap (word k) w es (complete w shape (omega arith)) in
      let e : Entry = found.0 in
      let long : e.length ≡ m = sym (length-spelled k e.length e.code) ∙ ap length (sym found.2) ∙ size in
      let same : e.code ≡ p = sym (code-spelled k e.length e.code some (in_all (IsCoded k) e es coded found.1)) ∙ ap (code k) (sym found.2) ∙ code-spelled k m p some h in
      subst (λ q. In q (codes_of m es)) same (in_map (λ e. e.code) e (of_length m es) (in_filter (λ e. eqb e.length m) e es found.1 (eq-eqb e.length m long)))

-- ---- coordinates

module _ {A : Type 0} (ring : Operations A) (k m : ℕ) where
  -- the coefficient of u in P of the word with the code w
  abbrev bracket_at : List ℕ → ℕ → A
  bracket_at u w = ring.image (P (spelled k m w) u)

  -- the coefficient of u in the combination of coordinates c
  abbrev combined_at : (ℕ → A) → List ℕ → A
  combined_at c u = sum ring (k ^ m) (λ w. ring.times (c w) (bracket_at u w))

  -- multiples of brackets of entries of m letters, by the codes of the entries
  multiples_added : (u : List ℕ) (xs : List A) (es : List Entry) → AllByRecursion (λ e. e.length ≡ m) es → multiples ring k m xs es u ≡ added ring xs (map (λ e. e.code) es) (bracket_at u)
  multiples_added u (x ∷ xs) (e ∷ es) a =
      ap₂ (λ j y. ring.plus (ring.times x (ring.image (P (spelled k j e.code) u))) y) a.0 (multiples_added u xs es a.1)
  multiples_added u (x ∷ xs) [] a = refl
  multiples_added u [] es a = refl

module _ {A : Type 0} (ring : Operations A) (laws : Laws ring) (k n m : ℕ) (some : 1 ≤ k) (es : List Entry) (first : FirstEntries k n es) where
  -- coordinates that come to the same as multiples of brackets at each word
  combined_is : (c values : List A) → ((u : List ℕ) → combined_at ring k m (at ring c) u ≡ added ring values (codes_of m es) (bracket_at ring k m u)) → combined ring k m c ≡ sheet_of k m (multiples ring k m values (of_length m es))
  combined_is c values same =
      let each : (u : List ℕ) → combined_at ring k m (at ring c) u ≡ multiples ring k m values (of_length m es) u = λ u. same u ∙ sym (multiples_added ring k m u values (of_length m es) (sized k n m some es first)) in
      ap (sheet_of k m) (λ i u. each u i)

  -- what is zero but at the codes is zero at each word that is not Lyndon
  elsewhere_only_lyndon : (c : List A) → ZeroElsewhere ring (k ^ m) (codes_of m es) (at ring c) → OnlyLyndon ring k m c
  unfolding OnlyLyndon
  elsewhere_only_lyndon c elsewhere w over size other =
      let again : spelled k m (code k w) ≡ w = ap (λ j. spelled k j (code k w)) (sym size) ∙ spelled-code k w some over in
      elsewhere (code k w) (rw size at (code_below k w over))
      (λ here. other (subst (Lyndon by_value) again (in_all (λ q. Lyndon by_value (spelled k m q)) (code k w) (codes_of m es) (codes_lyndon k n m some es first) here)))

  -- and the other way round, where no Lyndon word of m letters is missing
  only_lyndon_elsewhere : m ≤ n → CompleteTo k n m (words k es) → (c : List A) → OnlyLyndon ring k m c → ZeroElsewhere ring (k ^ m) (codes_of m es) (at ring c)
  unfolding OnlyLyndon
  only_lyndon_elsewhere shorter complete c alone p h none =
      ap (at ring c) (sym (code-spelled k m p some h))
      ∙ alone (spelled k m p) (spelled-over k m p some h) (length-spelled k m p) (λ lyn. none (codes_have k n m some es first shorter complete p h lyn))

  -- the multiples are the coordinates at the words of the entries
  elsewhere_brackets : (sheet c : List A) → Coordinates ring k m sheet c → ZeroElsewhere ring (k ^ m) (codes_of m es) (at ring c) → SumOfBrackets ring k m es sheet
  unfolding SumOfBrackets
  elsewhere_brackets sheet c coordinates elsewhere =
      let values : List A = map (at ring c) (codes_of m es) in (
        values,
        length-map (codes_of m es) (at ring c) ∙ length-map (of_length m es) (λ e. e.code),
        sym coordinates.1 ∙ combined_is c values (λ u. sum_elsewhere laws.ring (k ^ m) (at ring c) (codes_of m es) (bracket_at ring k m u) (codes_below k n m some es first) (codes_rise k n m some es first) elsewhere),
      )

  -- multiples at the codes of the entries, and zeros elsewhere, are coordinates, and there are no others
  brackets_elsewhere : (sheet c : List A) → Coordinates ring k m sheet c → SumOfBrackets ring k m es sheet → ZeroElsewhere ring (k ^ m) (codes_of m es) (at ring c)
  unfolding SumOfBrackets
  brackets_elsewhere sheet c coordinates (values, size, e) p h none =
      let places : ℕ → A = scattered ring values (codes_of m es) in
      let d : List A = map places (range_with_len 0 (k ^ m)) in
      let d_at : (p : ℕ) → p < k ^ m → at ring d p ≡ places p = λ p h. get_or-map-range_with_len places 0 (k ^ m) p p ring.zero h (omega arith) in
      let whole : combined ring k m d ≡ sheet_of k m (multiples ring k m values (of_length m es)) =
      combined_is d values
      (λ u.
      sum_same laws.ring (k ^ m) (λ w. ring.times (at ring d w) (bracket_at ring k m u w)) (λ w. ring.times (places w) (bracket_at ring k m u w)) (λ w h. ap (λ x. ring.times x (bracket_at ring k m u w)) (d_at w h))
      ∙ sum_scattered laws.ring (k ^ m) values (codes_of m es) (bracket_at ring k m u) (codes_below k n m some es first)) in
      let long : length sheet ≡ k ^ m = ap length e ∙ length-sheet_of k m (multiples ring k m values (of_length m es)) in
      let one : c ≡ d = (one_set ring laws k m some sheet long).only c d coordinates (length-map-range_with_len places 0 (k ^ m), whole ∙ sym e) in
      ap (λ x. at ring x p) one ∙ d_at p h ∙ scattered_elsewhere laws.ring (k ^ m) values (codes_of m es) p h none

-- where no Lyndon word of m letters is missing: the coordinates of a sheet are zero at each word that is not Lyndon, if and
-- only if the sheet is a sum of multiples of brackets of entries
pub lie_sums : {A : Type 0} (ring : Operations A) → Laws ring → (k n m : ℕ) → 1 ≤ k → m ≤ n → (es : List Entry) → FirstEntries k n es → CompleteTo k n m (words k es) → (sheet c : List A) → Coordinates ring k m sheet c → OnlyLyndon ring k m c ↔ SumOfBrackets ring k m es sheet
lie_sums ring laws k n m some shorter es first complete sheet c coordinates = (
  λ alone. elsewhere_brackets ring laws k n m some es first sheet c coordinates (only_lyndon_elsewhere ring laws k n m some es first shorter complete c alone),
  λ sums. elsewhere_only_lyndon ring laws k n m some es first c (brackets_elsewhere ring laws k n m some es first sheet c coordinates sums),
)
