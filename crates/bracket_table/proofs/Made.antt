-- The entry that a table makes is the next one of the listing.
use Rattle.std.proofs.Common.{◌≡◌, ℕ, zero, suc, ◌+◌, ◌<◌, ◌≤◌, true, false, cond, ◌&&◌, eqb, ◌⊎◌, List, [], ◌∷◌, map, length, get_or, take, drop, Some, unwrap_or, sym, ap, ◌∙◌, subst, inl, inr, add-zero, zero-add, arith}
use Rattle.std.specs.List.{AllByRecursion, position_from}
use Rattle.std.proofs.lemmas.Bool.{cases_Bool, cases_eq, eq-eqb, ne_eqb}
use Rattle.std.proofs.ByRecursion.{All-get_or}
use Rattle.std.proofs.lemmas.List.{length-drop, length-take}
use Rattle.lyndon.specs.Codes.{code, spelled}
use Rattle.lyndon.proofs.Codes.{length-spelled, code-spelled, cut_within}
use Rattle.lyndon.specs.Listing.{OfShape}
use Rattle.lyndon.specs.Listing.{keys}
use Rattle.lyndon.specs.Entries.{place, cut, number, entry, listing, no_entry}
use Rattle.bracket_table.specs.Search.{has, made, spot, spotted}
use Rattle.lyndon.proofs.Keys.{Keyed, keys_each}
use Rattle.lyndon.proofs.Entries.{is_of, number_before, part_left, part_right, listing_at}

module _ (k n : ℕ) (some : 0 < k) where
  -- an entry that stands among the first t is found there
  spot_taken : (ks xs : List (ℕ × ℕ)) (t i m c : ℕ) → AllByRecursion (Keyed k 1 n) xs → t ≤ length xs → place xs m c < t → position_from (has m c) i (take t (map (entry k ks) xs)) ≡ Some (i + place xs m c)
  spot_taken ks xs zero i m c a l h = absurd (omega arith)
  spot_taken ks [] (suc t) i m c a l h = absurd (omega arith)
  spot_taken ks (x ∷ xs) (suc t) i m c a l h = go (cases_Bool (eqb x.0 m && eqb x.1 c)) (spot_taken ks xs t (i + 1) m c a.1 (omega arith))
    where
      go : (eqb x.0 m && eqb x.1 c ≡ true) ⊎ (eqb x.0 m && eqb x.1 c ≡ false) → (place xs m c < t → position_from (has m c) (i + 1) (take t (map (entry k ks) xs)) ≡ Some (i + 1 + place xs m c)) → position_from (has m c) i (take (suc t) (map (entry k ks) (x ∷ xs))) ≡ Some (i + place (x ∷ xs) m c)
      go (inl e) more = rw (length-spelled k x.0 x.1, code-spelled k x.0 x.1 some a.0.high, e) (ap Some (sym (add-zero i)))
      go (inr e) more =
          let l : suc (place xs m c) < suc t = simp e at h in
          let q : i + 1 + place xs m c ≡ i + suc (place xs m c) = omega arith in
          rw (length-spelled k x.0 x.1, code-spelled k x.0 x.1 some a.0.high, e) (more (omega arith) ∙ ap Some q)

  spot_listing : (t m c : ℕ) → t ≤ length (keys k n) → place (keys k n) m c < t → spot (take t (listing k n)) m c ≡ Some (place (keys k n) m c)
  unfolding listing
  spot_listing t m c l h = spot_taken (keys k n) (keys k n) t 0 m c (keys_each k n) l h ∙ ap Some (zero-add (place (keys k n) m c))

  module _ (t m c : ℕ) (here : t < length (keys k n)) (key : get_or (keys k n) t (0, 0) ≡ (m, c)) where
    K : Keyed k 1 n (m, c)
    K = subst (Keyed k 1 n) key (All-get_or (Keyed k 1 n) (keys k n) t (0, 0) here (keys_each k n))

    size : length (spelled k m c) ≡ m
    size = length-spelled k m c

    is_code : code k (spelled k m c) ≡ c
    is_code = code-spelled k m c some K.high

    -- a shorter Lyndon word has its number already
    numbered : (u : List ℕ) → OfShape k n u → length u < m → spotted k (take t (listing k n)) u ≡ number k (keys k n) u
    numbered u U l = ap (λ z. unwrap_or z 65535) (spot_listing t (length u) (code k u) (omega arith) (number_before k n some u U t here (omega (arith, ap (λ z. z.0) key))))

    parts : 1 < m → (spotted k (take t (listing k n)) (take (cut (spelled k m c)) (spelled k m c)) ≡ number k (keys k n) (take (cut (spelled k m c)) (spelled k m c))) × (spotted k (take t (listing k n)) (drop (cut (spelled k m c)) (spelled k m c)) ≡ number k (keys k n) (drop (cut (spelled k m c)) (spelled k m c)))
    parts l =
        let two : 1 < length (spelled k m c) = omega (arith, size) in
        let at = cut_within (spelled k m c) two in
        let W = is_of k n some (m, c) K in (
          numbered (take (cut (spelled k m c)) (spelled k m c)) (part_left k n some (spelled k m c) W two) (rw length-take (omega (arith, size, at.1))),
          numbered (drop (cut (spelled k m c)) (spelled k m c)) (part_right k n some (spelled k m c) W two) (rw length-drop (omega (arith, size, at.0))),
        )

    -- a letter has no parts
    unless_letter : (a b : ℕ) → (1 < m → a ≡ b) → cond (eqb m 1) 65535 a ≡ cond (eqb (length (spelled k m c)) 1) 65535 b
    unless_letter a b h =
        elim (cases_eq m 1) [
          | inl e ↦ rw (size, eq-eqb m 1 e)
          | inr e ↦ rw (size, ne_eqb m 1 e) (h (omega (arith, K.least)))
        ]

    made_entry : made k (take t (listing k n)) m c ≡ entry k (keys k n) (m, c)
    made_entry =
        let left = unless_letter _ _ (λ l. (parts l).0) in
        let right = unless_letter _ _ (λ l. (parts l).1) in
        λ i. record { length = sym size i; code = sym is_code i; left = left i; right = right i }

    pub made_next : made k (take t (listing k n)) m c ≡ get_or (listing k n) t no_entry
    made_next = made_entry ∙ sym (listing_at k n some t (0, 0) no_entry here ∙ ap (entry k (keys k n)) key)
