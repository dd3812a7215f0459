-- What a find answers, over plain values.
use Rattle.std.proofs.Common.{◌≡◌, ℕ, suc, ◌^◌, ◌<◌, ◌≤◌, Bool, true, false, cond, ◌&&◌, eqb, ◌⊎◌, List, [], ◌∷◌, length, take, Some, Option, sym, refl, ap, ◌∙◌, subst, inl, inr, add-one}
use Rattle.std.specs.Ordering.{is_eq}
use Rattle.std.specs.List.{AllByRecursion, position_from}
use Rattle.std.proofs.lemmas.Bool.{cases_Bool, and_from, and_parts, eq-eqb, eqb-true, both_ways}
use Rattle.faults.specs.Outcome.{Outcome, checked}
use Rattle.faults.specs.Outcome.Outcome.{answered}
use Rattle.faults.proofs.Checks.{passed}
use Rattle.coded_word.specs.declared.coded.Cursor.{Cursor}
use Rattle.coded_word.specs.Codes.{read_outcome}
use Rattle.coded_word.proofs.Passed.{letters_below}
use Rattle.letter_order.specs.Orders.{by_value}
use Rattle.lyndon.specs.declared.entry.Entry.{Entry}
use Rattle.lyndon.specs.Words.{dictionary}
use Rattle.lyndon.specs.Codes.{Over, code, spelled}
use Rattle.lyndon.specs.Entries.{word, words}
use Rattle.lyndon.proofs.Codes.{by_value_total, code-spelled, length-spelled, spelled-code}
use Rattle.lyndon.proofs.Dictionary.{same_words}
use Rattle.lyndon.proofs.Entries.{listing_coded}
use Rattle.word.specs.Faults.{letters_checked, length_checked}
use Rattle.bracket_table.specs.Calls.{found_from, find_outcome}
use Rattle.bracket_table.specs.Held.{entries_in}
use Rattle.bracket_table.specs.Search.{has, spot}
use Rattle.bracket_table.specs.Seen.{dimensions, view}
use Rattle.bracket_table.specs.declared.Table.{Table}
use Rattle.lent_list.specs.Lent.{items, places}
use Rattle.bracket_table.specs.Views.{View}
use Rattle.bracket_table.proofs.Growing.{known}

module _ (k : ℕ) (some : 1 ≤ k) (w : List ℕ) (over : Over k w) where
  -- an entry has the word where it has its length and its code
  same_word : (e : Entry) → e.code < k ^ e.length → is_eq (dictionary by_value (word k e) w) ≡ (eqb e.length (length w) && eqb e.code (code k w))
  same_word e h = go (cases_Bool (eqb e.length (length w) && eqb e.code (code k w)))
    where
      test : Bool
      test = eqb e.length (length w) && eqb e.code (code k w)

      hit : is_eq (dictionary by_value (word k e) w) ≡ true → test ≡ true
      hit q =
          let u : word k e ≡ w = (same_words by_value_total (word k e) w).0 q in
          let m : e.length ≡ length w = sym (length-spelled k e.length e.code) ∙ ap length u in
          let c : e.code ≡ code k w = sym (code-spelled k e.length e.code some h) ∙ ap (code k) u in
          and_from (eqb e.length (length w)) (eqb e.code (code k w)) (eq-eqb e.length (length w) m) (eq-eqb e.code (code k w) c)

      go : (test ≡ true) ⊎ (test ≡ false) → is_eq (dictionary by_value (word k e) w) ≡ test
      go (inl t) =
          let p = and_parts (eqb e.length (length w)) (eqb e.code (code k w)) t in
          let m : e.length ≡ length w = eqb-true e.length (length w) p.0 in
          let c : e.code ≡ code k w = eqb-true e.code (code k w) p.1 in
          let u : word k e ≡ w = ap (λ z. spelled k z e.code) m ∙ ap (spelled k (length w)) c ∙ spelled-code k w some over in
          (same_words by_value_total (word k e) w).1 u ∙ sym t
      go (inr t) = miss (cases_Bool (is_eq (dictionary by_value (word k e) w)))
        where
          miss : (is_eq (dictionary by_value (word k e) w) ≡ true) ⊎ (is_eq (dictionary by_value (word k e) w) ≡ false) → is_eq (dictionary by_value (word k e) w) ≡ test
          miss (inl q) = absurd (both_ways test t (hit q))
          miss (inr q) = q ∙ sym t

  found_spot : (es : List Entry) → AllByRecursion (λ e. e.code < k ^ e.length) es → (i : ℕ) → position_from (has (length w) (code k w)) i es ≡ found_from i (words k es) w
  found_spot [] a i = refl
  found_spot (e ∷ es) a i = rw (same_word e a.0, add-one) (ap (cond (has (length w) (code k w) e) (Some i)) (found_spot es a.1 (suc i)))

module _ (s : Option Cursor) (x : Cursor) (is : s ≡ Some x) (es : List Entry) (room : ℕ) (w : List ℕ) where
  abbrev seen : View
  seen = record { shape = dimensions s; entries = es; room = room }

  -- a search for the word of m letters with the code c
  pub find_answers : es ≡ take (length es) (entries_in s) → (m c : ℕ) → answered (m, c) ≡ read_outcome x.shape.k x.shape.n w → answered (spot es m c) ≡ find_outcome seen w
  find_answers listed m c told =
      let word : Outcome (ℕ × ℕ) = answered (length w, code x.shape.k w) in
      let p = passed (length_checked x.shape.n (length w)) (checked (letters_checked x.shape.k w) word) (m, c) told in
      let q = passed (letters_checked x.shape.k w) word (m, c) p.1 in
      let same : ◌≡◌ {A = ℕ × ℕ} (m, c) (length w, code x.shape.k w) = cc in
      let coded = subst (AllByRecursion (λ e. e.code < x.shape.k ^ e.length)) (sym (known s x is es listed)) (listing_coded x.shape.k x.shape.n x.shape.some (length es)) in
      let at = found_spot x.shape.k x.shape.some w (letters_below x.shape.k w q.0) es coded 0 in
      rw (is, ← p.0, ← q.0, ap (λ z. z.0) same, ap (λ z. z.1) same) (ap answered at)

pub table_finds : (t : Table) (x : Cursor) → t.next ≡ Some x → (w : List ℕ) (m c : ℕ) → answered (m, c) ≡ read_outcome x.shape.k x.shape.n w → answered (spot (items t.entries) m c) ≡ find_outcome (view t) w
table_finds t x is w m c told = find_answers t.next x is (items t.entries) (length (places t.entries)) w t.listed m c told
