-- The entries of a shape: the first Lyndon words, and their parts.
use Rattle.std.proofs.Common.{◌≡◌, ℕ, suc, ◌^◌, ◌<◌, Bool, true, false, cond, ◌&&◌, eqb, ◌⊎◌, List, [], ◌∷◌, map, length, get_or, take, drop, sym, refl, ap, ◌∙◌, subst, inl, inr, arith, take-append-drop}
use Rattle.std.specs.List.{AllByRecursion}
use Rattle.std.proofs.lemmas.Bool.{cases_Bool, cases_order, both_ways, and_parts, and_from, eq-eqb, ne_eqb, eqb-true}
use Rattle.std.proofs.ByRecursion.{All-take, All-map, All-weaker, All-get_or}
use Rattle.std.proofs.lemmas.List.{length-take, length-drop, length-map, take_all, take-map, get_or-take, get_or-map}
use Rattle.lyndon.specs.Words.{Split}
use Rattle.letter_order.specs.Orders.{by_value}
use Rattle.lyndon.specs.Codes.{code, spelled, Listed}
use Rattle.lyndon.proofs.Codes.{by_value_total, length-spelled, spelled-over, code-spelled, spelled-code, code_below, code_down, lyndon_says, says_lyndon, cut_within, cut_splits, over-take, over-drop}
use Rattle.lyndon.proofs.Theorems.{splits}
use Rattle.lyndon.specs.declared.entry.Entry.{Entry}
use Rattle.lyndon.specs.Listing.{OfShape, In, Rising, First}
use Rattle.lyndon.specs.Listing.{keys}
use Rattle.lyndon.specs.Entries.{place, cut, number, entry_of, entry, listing, word, words, no_entry, Parts, Earlier}
use Rattle.lyndon.specs.Theorems.{FirstEntries, Lists, Listings}
use Rattle.lyndon.proofs.Rises.{in_either, in_map, rising_take, rising_split, rising_at}
use Rattle.lyndon.proofs.Keys.{Sooner, Keyed, keys_each, keys_rising, keys_has}

pub rising_map : {A B : Type 0} (R : A → A → Type 0) (S : B → B → Type 0) (K : A → Type 0) (f : A → B) → ((x y : A) → K x → K y → R x y → S (f x) (f y)) → (xs : List A) → AllByRecursion K xs → Rising R xs → Rising S (map f xs)
rising_map R S K f up [] a r = tt
rising_map {A} R S K f up (x ∷ xs) a r = (go xs a.1 r.0, rising_map R S K f up xs a.1 r.1)
  where
    go : (ys : List A) → AllByRecursion K ys → AllByRecursion (R x) ys → AllByRecursion (S (f x)) (map f ys)
    go [] b q = tt
    go (y ∷ ys) b q = (up x y a.0 b.0 q.0, go ys b.1 q.1)

-- the place of a key that is there
pub place_in : (ks : List (ℕ × ℕ)) (m c : ℕ) (d : ℕ × ℕ) → In (m, c) ks → (place ks m c < length ks) × (get_or ks (place ks m c) d ≡ (m, c))
place_in [] m c d h = absurd h
place_in (x ∷ xs) m c d h = go (cases_Bool (eqb x.0 m && eqb x.1 c)) h (place_in xs m c d)
  where
    P : Bool → Type 0
    P b = (cond b 0 (suc (place xs m c)) < length (x ∷ xs)) × (get_or (x ∷ xs) (cond b 0 (suc (place xs m c))) d ≡ (m, c))

    go : (eqb x.0 m && eqb x.1 c ≡ true) ⊎ (eqb x.0 m && eqb x.1 c ≡ false) → In (m, c) (x ∷ xs) → (In (m, c) xs → (place xs m c < length xs) × (get_or xs (place xs m c) d ≡ (m, c))) → P (eqb x.0 m && eqb x.1 c)
    go (inl e) h more =
        let p = and_parts (eqb x.0 m) (eqb x.1 c) e in
        let a = eqb-true x.0 m p.0 in
        let b = eqb-true x.1 c p.1 in
        subst P (sym e) (omega arith, λ i. (a i, b i))
    go (inr e) (inl q) more = absurd (both_ways (eqb x.0 m && eqb x.1 c) e (and_from (eqb x.0 m) (eqb x.1 c) (eq-eqb x.0 m (sym (ap (λ z. z.0) q))) (eq-eqb x.1 c (sym (ap (λ z. z.1) q)))))
    go (inr e) (inr q) more = let r = more q in subst P (sym e) (omega (arith, r.0), r.1)

module _ (k n : ℕ) (some : 0 < k) where
  pub is_of : (x : ℕ × ℕ) → Keyed k 1 n x → OfShape k n (spelled k x.0 x.1)
  is_of x h = record {
    lyndon = lyndon_says (spelled k x.0 x.1) h.lyn;
    letters = spelled-over k x.0 x.1 some h.high;
    short = rw (length-spelled k x.0 x.1) h.most;
  }

  word_entry : (ks : List (ℕ × ℕ)) (x : ℕ × ℕ) → Keyed k 1 n x → word k (entry k ks x) ≡ spelled k x.0 x.1
  word_entry ks x h = spelled-code k (spelled k x.0 x.1) some (spelled-over k x.0 x.1 some h.high)

  key_in : (w : List ℕ) → OfShape k n w → In (length w, code k w) (keys k n)
  key_in w h = keys_has k n (length w) (code k w) (rw (spelled-code k w some h.letters) (says_lyndon w h.lyndon)) h.lyndon.some h.short (code_below k w h.letters)

  pub words_listed : map (word k) (listing k n) ≡ map (λ x. spelled k x.0 x.1) (keys k n)
  unfolding listing
  words_listed = go (keys k n) (keys_each k n)
    where
      go : (xs : List (ℕ × ℕ)) → AllByRecursion (Keyed k 1 n) xs → map (word k) (map (entry k (keys k n)) xs) ≡ map (λ x. spelled k x.0 x.1) xs
      go [] a = refl
      go (x ∷ xs) a = rw (word_entry (keys k n) x a.0, go xs a.1)

  rises : (x y : ℕ × ℕ) → Keyed k 1 n x → Keyed k 1 n y → Sooner x y → Listed (spelled k x.0 x.1) (spelled k y.0 y.1)
  rises x y hx hy (inl l) = inl (rw (length-spelled k x.0 x.1, length-spelled k y.0 y.1) l)
  rises x y hx hy (inr (e, l)) =
      let s : length (spelled k x.0 x.1) ≡ length (spelled k y.0 y.1) = rw (length-spelled k x.0 x.1, length-spelled k y.0 y.1) e in
      inr (s, code_down k (spelled k x.0 x.1) (spelled k y.0 y.1) s (spelled-over k x.0 x.1 some hx.high) (spelled-over k y.0 y.1 some hy.high) (rw (code-spelled k x.0 x.1 some hx.high, code-spelled k y.0 y.1 some hy.high) l))

  -- all Lyndon words of the shape, in listing order
  pub words_rising : Rising Listed (map (λ x. spelled k x.0 x.1) (keys k n))
  words_rising = rising_map Sooner Listed (Keyed k 1 n) (λ x. spelled k x.0 x.1) rises (keys k n) (keys_each k n) (keys_rising k n)

  pub word_in : (v : List ℕ) → OfShape k n v → In v (map (λ x. spelled k x.0 x.1) (keys k n))
  word_in v h = subst (λ z. In z (map (λ x. spelled k x.0 x.1) (keys k n))) (spelled-code k v some h.letters) (in_map (λ x. spelled k x.0 x.1) (length v, code k v) (keys k n) (key_in v h))

  all_first : (t : ℕ) → First k n (take t (map (λ x. spelled k x.0 x.1) (keys k n)))
  all_first t = record {
    lyndon = All-take (OfShape k n) t ws (All-map (OfShape k n) (λ x. spelled k x.0 x.1) (keys k n) (All-weaker (Keyed k 1 n) (λ x. OfShape k n (spelled k x.0 x.1)) is_of (keys k n) (keys_each k n)));
    rising = rising_take Listed t ws words_rising;
    unskipped = λ v h. go v (in_either v (take t ws) (drop t ws) (rw (take-append-drop t ws) (word_in v h)));
  }
    where
      ws : List (List ℕ)
      ws = map (λ x. spelled k x.0 x.1) (keys k n)

      go : (v : List ℕ) → In v (take t ws) ⊎ In v (drop t ws) → In v (take t ws) ⊎ AllByRecursion (λ w. Listed w v) (take t ws)
      go v (inl h) = inl h
      go v (inr h) = inr (rising_split Listed (take t ws) (drop t ws) (rw (take-append-drop t ws) words_rising) v h)

  -- however many entries are there, they are the first
  pub listing_first : (t : ℕ) → First k n (map (word k) (take t (listing k n)))
  listing_first t = subst (First k n) (ap (take t) (sym words_listed) ∙ take-map (word k) t (listing k n)) (all_first t)

  pub length-listing : length (listing k n) ≡ length (keys k n)
  unfolding listing
  length-listing = length-map (keys k n) (entry k (keys k n))

  pub listing_at : (i : ℕ) (d : ℕ × ℕ) (e : Entry) → i < length (keys k n) → get_or (listing k n) i e ≡ entry k (keys k n) (get_or (keys k n) i d)
  unfolding listing
  listing_at i d e h = get_or-map (entry k (keys k n)) (keys k n) i d e h

  -- the number that names a Lyndon word
  pub number_in : (w : List ℕ) → OfShape k n w → (number k (keys k n) w < length (keys k n)) × (word k (get_or (listing k n) (number k (keys k n) w) no_entry) ≡ w)
  number_in w h =
      let p = place_in (keys k n) (length w) (code k w) (0, 0) (key_in w h) in (
        p.0,
        ap (word k) (listing_at (number k (keys k n) w) (0, 0) no_entry p.0) ∙ (ap (λ z. word k (entry k (keys k n) z)) p.1 ∙ (word_entry (keys k n) (length w, code k w) (rw p.1 at (All-get_or (Keyed k 1 n) (keys k n) (number k (keys k n) w) (0, 0) p.0 (keys_each k n))) ∙ spelled-code k w some h.letters)),
      )

  -- and it stands before each longer word
  pub number_before : (w : List ℕ) → OfShape k n w → (i : ℕ) → i < length (keys k n) → length w < (get_or (keys k n) i (0, 0)).0 → number k (keys k n) w < i
  number_before w h i hi less = go (cases_order (number k (keys k n) w) i)
    where
      p : (place (keys k n) (length w) (code k w) < length (keys k n)) × (get_or (keys k n) (place (keys k n) (length w) (code k w)) (0, 0) ≡ (length w, code k w))
      p = place_in (keys k n) (length w) (code k w) (0, 0) (key_in w h)

      size : (get_or (keys k n) (number k (keys k n) w) (0, 0)).0 ≡ length w
      size = ap (λ z. z.0) p.1

      no : Sooner (get_or (keys k n) i (0, 0)) (get_or (keys k n) (number k (keys k n) w) (0, 0)) → ⊥
      no (inl l) = omega (arith, size)
      no (inr q) = omega (arith, size, q.0)

      go : (number k (keys k n) w ≡ i) ⊎ ((number k (keys k n) w < i) ⊎ (i < number k (keys k n) w)) → number k (keys k n) w < i
      go (inl e) = absurd (omega (arith, size, ap (λ j. (get_or (keys k n) j (0, 0)).0) e))
      go (inr (inl l)) = l
      go (inr (inr l)) = absurd (no (rising_at Sooner (keys k n) i (number k (keys k n) w) (0, 0) (keys_rising k n) l p.0))

  -- the two parts of a Lyndon word of the shape are Lyndon words of it
  pub part_left : (w : List ℕ) → OfShape k n w → 1 < length w → OfShape k n (take (cut w) w)
  part_left w h l = record {
    lyndon = (splits by_value_total w h.lyndon l).left;
    letters = over-take k (cut w) w h.letters;
    short = rw length-take (omega (arith, h.short, (cut_within w l).1));
  }

  pub part_right : (w : List ℕ) → OfShape k n w → 1 < length w → OfShape k n (drop (cut w) w)
  part_right w h l = record {
    lyndon = (cut_splits w l).lyndon;
    letters = over-drop k (cut w) w h.letters;
    short = rw length-drop (omega (arith, h.short));
  }

  pub listing_parts : (t : ℕ) → Parts k (take t (listing k n))
  listing_parts t i h = rw e (record { letter = λ l. letter l; earlier = λ l. earlier l; split = λ l. split l })
    where
      ks : List (ℕ × ℕ)
      ks = keys k n

      hi : (i < t) × (i < length (keys k n))
      hi = (omega (arith, length-take t (listing k n)), omega (arith, length-take t (listing k n), length-listing))

      x : ℕ × ℕ
      x = get_or (keys k n) i (0, 0)

      w : List ℕ
      w = spelled k x.0 x.1

      e : get_or (take t (listing k n)) i no_entry ≡ entry k (keys k n) x
      e = get_or-take t (listing k n) i no_entry hi.0 ∙ listing_at i (0, 0) no_entry hi.1

      K : Keyed k 1 n x
      K = All-get_or (Keyed k 1 n) (keys k n) i (0, 0) hi.1 (keys_each k n)

      size : length w ≡ x.0
      size = length-spelled k x.0 x.1

      letter : length w ≡ 1 → ((entry_of k (keys k n) w).left ≡ 65535) × ((entry_of k (keys k n) w).right ≡ 65535)
      letter l = rw (eq-eqb (length w) 1 l) (refl, refl)

      ne : 1 < length w → eqb (length w) 1 ≡ false
      ne l = ne_eqb (length w) 1 (λ q. omega arith)

      c : 1 < length w → (0 < cut w) × (cut w < length w)
      c l = cut_within w l

      L : 1 < length w → OfShape k n (take (cut w) w)
      L l = part_left w (is_of x K) l

      R : 1 < length w → OfShape k n (drop (cut w) w)
      R l = part_right w (is_of x K) l

      a : 1 < length w → number k (keys k n) (take (cut w) w) < i
      a l = number_before (take (cut w) w) (L l) i hi.1 (rw length-take (omega (arith, size, (c l).1)))

      b : 1 < length w → number k (keys k n) (drop (cut w) w) < i
      b l = number_before (drop (cut w) w) (R l) i hi.1 (rw length-drop (omega (arith, size, (c l).0, (c l).1)))

      earlier : 1 < length w → ((entry_of k (keys k n) w).left < i) × ((entry_of k (keys k n) w).right < i)
      earlier l = rw (ne l) (a l, b l)

      split : 1 < length w → Split by_value (word k (entry k (keys k n) x)) (word k (get_or (take t (listing k n)) (entry_of k (keys k n) w).left no_entry)) (word k (get_or (take t (listing k n)) (entry_of k (keys k n) w).right no_entry))
      split l = rw (ne l, word_entry (keys k n) x K, get_or-take t (listing k n) (number k (keys k n) (take (cut w) w)) no_entry (omega (arith, a l, hi.0)), get_or-take t (listing k n) (number k (keys k n) (drop (cut w) w)) no_entry (omega (arith, b l, hi.0)), (number_in (take (cut w) w) (L l)).1, (number_in (drop (cut w) w) (R l)).1) (cut_splits w l)

  sooner_earlier : (x y : ℕ × ℕ) → Keyed k 1 n x → Keyed k 1 n y → Sooner x y → Earlier (entry k (keys k n) x) (entry k (keys k n) y)
  sooner_earlier x y hx hy s = rw (length-spelled k x.0 x.1, length-spelled k y.0 y.1, code-spelled k x.0 x.1 some hx.high, code-spelled k y.0 y.1 some hy.high) s

  -- the entries stand in listing order
  pub listing_rising : (t : ℕ) → Rising Earlier (take t (listing k n))
  unfolding listing
  listing_rising t = rising_take Earlier t (listing k n) (rising_map Sooner Earlier (Keyed k 1 n) (entry k (keys k n)) sooner_earlier (keys k n) (keys_each k n) (keys_rising k n))

  -- each code is one of a word of its length
  pub listing_coded : (t : ℕ) → AllByRecursion (λ e. e.code < k ^ e.length) (take t (listing k n))
  unfolding listing
  listing_coded t =
      All-take (λ e. e.code < k ^ e.length) t (listing k n)
      (All-map (λ e. e.code < k ^ e.length) (entry k (keys k n)) (keys k n)
      (All-weaker (Keyed k 1 n) (λ x. (entry k (keys k n) x).code < k ^ (entry k (keys k n) x).length)
      (λ x h. rw (length-spelled k x.0 x.1, code-spelled k x.0 x.1 some h.high) h.high)
      (keys k n) (keys_each k n)))

  pub first_entries : (es : List Entry) → es ≡ take (length es) (listing k n) → FirstEntries k n es
  first_entries es e = record {
    listed = e;
    first = subst (λ z. First k n (words k z)) (sym e) (listing_first (length es));
    parts = subst (Parts k) (sym e) (listing_parts (length es));
  }

  -- the whole listing
  lists : Lists k n
  lists = record {
    entries = first_entries (listing k n) (sym (take_all (length (listing k n)) (listing k n) (omega arith)));
    all = λ w h. subst (In w) (sym words_listed) (word_in w h);
  }

pub listings : Listings
unfolding Listings
listings = lists
