-- The search for an entry among entries in listing order.
use Rattle.std.proofs.Common.{◌≡◌, ℕ, zero, suc, ◌+◌, ◌<◌, ◌≤◌, Bool, true, false, ◌⊎◌, List, [], ◌∷◌, length, get_or, Some, None, IfSome, Ordering, Less, Equal, Greater, sym, refl, ap, ◌∙◌, inl, inr, add-zero, zero-add, arith}
use Rattle.std.specs.List.{position_from}
use Rattle.std.specs.Ordering.{nat_cmp, ordering_then}
use Rattle.std.proofs.lemmas.Bool.{cases_lt, cases_Bool}
use Rattle.std.proofs.lemmas.Bool.Decides.{nat_tests}
use Rattle.lyndon.specs.declared.entry.Entry.{Entry}
use Rattle.lyndon.specs.Listing.{Rising}
use Rattle.lyndon.specs.Entries.{no_entry, Earlier}
use Rattle.lyndon.proofs.Rises.{rising_at}
use Rattle.bracket_table.specs.Search.{has, spot}

-- ---- the first that passes

module _ (p : Entry → Bool) where
  position_at : (es : List Entry) (n i : ℕ) → i < length es → p (get_or es i no_entry) ≡ true → ((j : ℕ) → j < i → p (get_or es j no_entry) ≡ false) → Some (n + i) ≡ position_from p n es
  position_at [] n i lt here none = absurd (omega arith)
  position_at (e ∷ es) n zero lt here none = rw here (ap Some (add-zero n))
  position_at (e ∷ es) n (suc i) lt here none =
      let next : n + suc i ≡ n + 1 + i = omega arith in
      rw (none 0 (omega arith), next) (position_at es (n + 1) i (omega arith) here (λ j l. none (suc j) (omega arith)))

  position_none : (es : List Entry) (n : ℕ) → ((j : ℕ) → j < length es → p (get_or es j no_entry) ≡ false) → None ≡ position_from p n es
  position_none [] n none = refl
  position_none (e ∷ es) n none = rw (none 0 (omega arith)) (position_none es (n + 1) (λ j l. none (suc j) (omega arith)))

  position_below : (es : List Entry) (n top : ℕ) → n + length es ≤ top → IfSome (position_from p n es) (λ i. i < top)
  position_below [] n top h = tt
  position_below (e ∷ es) n top h = go (cases_Bool (p e)) (position_below es (n + 1) top (omega arith))
    where
      go : (p e ≡ true) ⊎ (p e ≡ false) → IfSome (position_from p (n + 1) es) (λ i. i < top) → IfSome (position_from p n (e ∷ es)) (λ i. i < top)
      go (inl t) h' = rw t (omega arith)
      go (inr t) h' = rw t h'

pub spot_below : (es : List Entry) (m c top : ℕ) → length es ≤ top → IfSome (spot es m c) (λ i. i < top)
spot_below es m c top h = position_below (has m c) es 0 top (omega arith)

-- ---- a binary search

-- an entry beside the word of m letters with the code c
abbrev pub stands : ℕ → ℕ → Entry → Ordering
stands m c e = ordering_then (nat_cmp e.length m) (nat_cmp e.code c)

hit : (e : Entry) (m c : ℕ) → stands m c e ≡ Equal → has m c e ≡ true
hit e m c h = grind (arith, nat_tests)

miss_before : (e : Entry) (m c : ℕ) → stands m c e ≡ Less → has m c e ≡ false
miss_before e m c h = grind (arith, nat_tests)

miss_behind : (e : Entry) (m c : ℕ) → stands m c e ≡ Greater → has m c e ≡ false
miss_behind e m c h = grind (arith, nat_tests)

miss_earlier : (d e : Entry) (m c : ℕ) → Earlier d e → stands m c e ≡ Equal → has m c d ≡ false
miss_earlier d e m c l h = grind (arith, nat_tests)

lower : (d e : Entry) (m c : ℕ) → Earlier d e → stands m c e ≡ Less → stands m c d ≡ Less
lower d e m c l h = grind (arith, nat_tests)

higher : (d e : Entry) (m c : ℕ) → Earlier d e → stands m c d ≡ Greater → stands m c e ≡ Greater
higher d e m c l h = grind (arith, nat_tests)

-- all below low are before the word, and all from high on are behind it
pub record Between (es : List Entry) (m c low high : ℕ) : Type 0 where
  pub below : (j : ℕ) → j < low → stands m c (get_or es j no_entry) ≡ Less
  pub above : (j : ℕ) → high ≤ j → j < length es → stands m c (get_or es j no_entry) ≡ Greater

pub search_start : (es : List Entry) (m c high : ℕ) → high ≡ length es → Between es m c 0 high
search_start es m c high all = record { below = λ j h. absurd (omega arith); above = λ j h l. absurd (omega arith) }

module _ (es : List Entry) (up : Rising Earlier es) (m c low high i : ℕ) (B : Between es m c low high) (here : i < length es) where
  pub search_up : stands m c (get_or es i no_entry) ≡ Less → Between es m c (i + 1) high
  search_up h = record { below = λ j l. go j l (cases_lt j i); above = B.above }
    where
      go : (j : ℕ) → j < i + 1 → (j < i) ⊎ (i ≤ j) → stands m c (get_or es j no_entry) ≡ Less
      go j l (inl b) = lower (get_or es j no_entry) (get_or es i no_entry) m c (rising_at Earlier es j i no_entry up b here) h
      go j l (inr b) = let e : j ≡ i = omega arith in rw e h

  pub search_down : stands m c (get_or es i no_entry) ≡ Greater → Between es m c low i
  search_down h = record { below = B.below; above = λ j b l. go j l (cases_lt i j) b }
    where
      go : (j : ℕ) → j < length es → (i < j) ⊎ (j ≤ i) → i ≤ j → stands m c (get_or es j no_entry) ≡ Greater
      go j l (inl a) b = higher (get_or es i no_entry) (get_or es j no_entry) m c (rising_at Earlier es i j no_entry up a l) h
      go j l (inr a) b = let e : j ≡ i = omega arith in rw e h

module _ (es : List Entry) (up : Rising Earlier es) (m c i : ℕ) (here : i < length es) where
  pub search_hit : stands m c (get_or es i no_entry) ≡ Equal → Some i ≡ spot es m c
  search_hit h =
      ap Some (sym (zero-add i))
      ∙ position_at (has m c) es 0 i here (hit (get_or es i no_entry) m c h) (λ j l.
      miss_earlier (get_or es j no_entry) (get_or es i no_entry) m c (rising_at Earlier es j i no_entry up l here) h)

pub search_miss : (es : List Entry) (m c low high : ℕ) → Between es m c low high → high ≤ low → None ≡ spot es m c
search_miss es m c low high B over = position_none (has m c) es 0 (λ j l. go j l (cases_lt j low))
  where
    go : (j : ℕ) → j < length es → (j < low) ⊎ (low ≤ j) → has m c (get_or es j no_entry) ≡ false
    go j l (inl b) = miss_before (get_or es j no_entry) m c (B.below j b)
    go j l (inr b) = miss_behind (get_or es j no_entry) m c (B.above j (omega arith) l)

-- what a step of the search follows from
pub ruleset searches = (search_start, search_up, search_down, search_hit, search_miss)
