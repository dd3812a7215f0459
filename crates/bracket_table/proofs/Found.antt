-- What a search for a word finds, among other words and in a table.
use Rattle.std.proofs.Common.{◌≡◌, ℕ, zero, suc, ◌+◌, ◌-◌, ◌<◌, ◌≤◌, true, false, ◌⊎◌, List, [], ◌∷◌, length, get_or, Some, None, Option, MatchOption, Decides, Ordering, sym, refl, ◌∙◌, inl, inr, arith}
use Rattle.std.specs.Prelude.{◌≢◌}
use Rattle.std.specs.Ordering.{is_eq}
use Rattle.std.proofs.lemmas.Bool.{cases_Bool, both_ways}
use Rattle.letter_order.specs.Orders.{by_value}
use Rattle.lyndon.specs.Words.{dictionary}
use Rattle.lyndon.proofs.Codes.{by_value_total}
use Rattle.lyndon.proofs.Dictionary.{same_words}
use Rattle.bracket_table.specs.Calls.{found_from, find_outcome, Names, Finds}
use Rattle.bracket_table.specs.Search.{spot}
use Rattle.bracket_table.specs.Seen.{view}
use Rattle.bracket_table.specs.Views.{Dimensions, View}
use Rattle.bracket_table.specs.declared.Table.{Table}
use Rattle.bracket_table.proofs.Finding.{table_finds}
use Rattle.coded_word.specs.declared.coded.Cursor.{Cursor}
use Rattle.coded_word.specs.Codes.{read_outcome}
use Rattle.faults.specs.declared.Layer.TheVariants as layer
use Rattle.faults.specs.Faults.{found}
use Rattle.faults.specs.Outcome.{Outcome, passed_up, checked}
use Rattle.faults.specs.Outcome.Outcome.{answered, refused}
use Rattle.faults.proofs.Checks.{passed}
use Rattle.lent_list.specs.Lent.{items}
use Rattle.lyndon.specs.declared.entry.Entry.{Entry}
use Rattle.lyndon.specs.Entries.{word, words, no_entry}
use Rattle.word.specs.Faults.{letters_checked, length_checked}
use Rattle.std.proofs.lemmas.List.{get_or-map, length-map}
use native.Mathlib.Nat.{sub-zero}

-- the number that a search for a word finds
abbrev FoundFrom : ℕ → List (List ℕ) → List ℕ → Option ℕ → Type 0
FoundFrom j vs w None = (i : ℕ) → i < length vs → get_or vs i [] ≢ w
FoundFrom j vs w (Some i) = (j ≤ i) × (i < j + length vs) × (get_or vs (i - j) [] ≡ w)

finds : (j : ℕ) (vs : List (List ℕ)) (w : List ℕ) → FoundFrom j vs w (found_from j vs w)
finds j [] w = λ i h e. omega arith
finds j (v ∷ vs) w = go (cases_Bool (is_eq r)) (found_from (suc j) vs w) refl (finds (suc j) vs w)
  where
    r : Ordering
    r = dictionary by_value v w

    same : Decides (is_eq r) (v ≡ w)
    same = same_words by_value_total v w

    go : (is_eq r ≡ true) ⊎ (is_eq r ≡ false) → (o : Option ℕ) → found_from (suc j) vs w ≡ o → FoundFrom (suc j) vs w o → FoundFrom j (v ∷ vs) w (found_from j (v ∷ vs) w)
    go (inl t) o e more = rw t (omega arith, omega arith, let n : j - j ≡ 0 = omega arith in rw n (same.0 t))
    go (inr t) None e more = rw (t, e) (next more)
      where
        next : ((i : ℕ) → i < length vs → get_or vs i [] ≢ w) → (i : ℕ) → i < length (v ∷ vs) → get_or (v ∷ vs) i [] ≢ w
        next f zero h = λ e. both_ways (is_eq r) t (same.1 e)
        next f (suc i) h = f i (omega arith)
    go (inr t) (Some i) e more =
        let n : i - j ≡ suc (i - suc j) = omega (arith, more.0) in
        rw (t, e) (omega (arith, more.0), omega (arith, more.1), rw n more.2)

-- so it names an entry
pub names : (k : ℕ) (es : List Entry) (w : List ℕ) (o : Option ℕ) → o ≡ found_from 0 (words k es) w → Names k es w o
names k es w o e = go o (rw (← e) at (finds 0 (words k es) w))
  where
    go : (o : Option ℕ) → FoundFrom 0 (words k es) w o → Names k es w o
    go None none = λ i here q. none i (omega (arith, here, length-map es (word k))) (get_or-map (word k) es i no_entry [] here ∙ q)
    go (Some i) has =
        let here : i < length es = omega (arith, has.1, length-map es (word k)) in
        (here, sym (get_or-map (word k) es i no_entry [] here) ∙ (rw sub-zero at has.2))

-- the search of a table, where it comes to an answer
abbrev pub searched : ℕ → ℕ → List Entry → List ℕ → Outcome (Option ℕ)
searched k n es w = checked (passed_up layer.Table (length_checked n (length w))) (checked (passed_up layer.Table (letters_checked k w)) (answered (found_from 0 (words k es) w)))

pub searched_answers : (k n : ℕ) (es : List Entry) (w : List ℕ) (o : Option ℕ) → answered o ≡ searched k n es w → o ≡ found_from 0 (words k es) w
searched_answers k n es w o e =
    let found : Outcome (Option ℕ) = answered (found_from 0 (words k es) w) in
    let p = passed (passed_up layer.Table (length_checked n (length w))) (checked (passed_up layer.Table (letters_checked k w)) found) o e in
    let q = passed (passed_up layer.Table (letters_checked k w)) found o p.1 in
    let r : answered o ≡ answered (found_from 0 (words k es) w) = q.1 in
    cc

-- what a find answers
outcome_finds : (v : View) (w : List ℕ) (o : Option ℕ) → answered o ≡ find_outcome v w → Finds v w o
unfolding Finds
outcome_finds v w o e = go v.shape refl
  where
    go : (shape : Option Dimensions) → v.shape ≡ shape → MatchOption v.shape ⊥ (λ s. Names s.k v.entries w o)
    go None is = let q : answered o ≡ refused (found 8 layer.Table 0 0) = rw is at e in absurd (cc)
    go (Some s) is = rw is (names s.k v.entries w o (searched_answers s.k s.n v.entries w o (rw is at e)))

-- the answer of a search by length and code
pub table_found : (t : Table) (x : Cursor) → t.next ≡ Some x → (w : List ℕ) (m c : ℕ) → answered (m, c) ≡ read_outcome x.shape.k x.shape.n w → Finds (view t) w (spot (items t.entries) m c)
table_found t x is w m c told = outcome_finds (view t) w (spot (items t.entries) m c) (table_finds t x is w m c told)
