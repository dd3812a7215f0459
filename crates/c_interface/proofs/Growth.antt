-- Tables that are opened and grown so many times.
use Rattle.std.proofs.Common.{◌≡◌, ℕ, zero, suc, ◌+◌, ◌-◌, ◌<◌, ◌≤◌, Bool, true, false, cond, ltb, List, length, Some, Option, refl, sym, ap, ◌∙◌, subst, inl, inr, arith}
use Rattle.std.proofs.lemmas.Bool.{cases_lt, le-leb, lt-leb, lt-ltb, le-ltb}
use Rattle.std.proofs.lemmas.Bool.Decides.{nat_tests}
use Rattle.std.proofs.lemmas.List.{take_all}
use Rattle.faults.specs.declared.Fault.{Fault}
use Rattle.faults.specs.declared.Layer.TheVariants as layer
use Rattle.faults.specs.Faults.{found}
use Rattle.faults.specs.Outcome.{Outcome, checked, refuse_if}
use Rattle.faults.specs.Outcome.Outcome.{answered, refused}
use Rattle.lyndon.specs.declared.entry.Entry.{Entry}
use Rattle.lyndon.specs.Entries.{listing}
use Rattle.lyndon.proofs.Counts.{few_keys}
use Rattle.lyndon.proofs.Entries.{length-listing}
use Rattle.bracket_table.specs.Calls.{grow_in, grow_outcome, grown, opened}
use Rattle.bracket_table.specs.Runs.{accepted}
use Rattle.bracket_table.specs.Views.{Dimensions, View, fresh, shape_checked}
use Rattle.bracket_table.proofs.Shapes.{taken}
use Rattle.grown_table.specs.Filled.{filled}
use Rattle.table_audit.proofs.Runs.{Stands, grow_told, grows}
use Rattle.c_interface.specs.Tables.{grown_by, next_grow, table_checked, table_of, whole_of}

-- the table of k, n with so many entries, where no more are in its listing than memory has places
module _ (k n : ℕ) (some : 1 ≤ k) (deep : n ≤ 12) (few : length (listing k n) ≤ 1496) where
  abbrev shape : Option Dimensions
  shape = Some (record { k = k; n = n })

  abbrev reached : ℕ → Outcome View
  reached count = refuse_if (ltb (length (listing k n)) count) (found 9 layer.Table 0 0) (answered (table_of k n count))

  reached_now : (count : ℕ) → count ≤ length (listing k n) → answered (table_of k n count) ≡ reached count
  reached_now count within = rw (le-ltb (length (listing k n)) count within) refl

  grown_on : (left count : ℕ) (v : View) → Stands 1496 shape count v → grown_by left v ≡ reached (count + left)
  grown_on zero count v S =
      let e : count ≡ count + 0 = omega arith in
      ap answered S.is ∙ reached_now count S.within ∙ ap reached e
  grown_on (suc left) count v S =
      elim (cases_lt count (length (listing k n))) [
        | inl h ↦
            let one : grow_in shape count 1496 ≡ answered count =
            rw (lt-leb (length (listing k n)) count h, lt-leb 1496 count (omega (arith, h, few))) refl in
            let told : grow_outcome v ≡ answered count = grow_told 1496 shape count v S ∙ one in
            let more : Stands 1496 shape (count + 1) (grown (answered count) v) =
            subst (λ o. Stands 1496 shape (count + 1) (grown o v)) told
            (subst (λ o. Stands 1496 shape (cond (accepted o) (count + 1) count) (grown (grow_outcome v) v)) one (grows 1496 shape count v S)) in
            let next : (count + 1) + left ≡ count + suc left = omega arith in
            ap (λ o. next_grow o (grown_by left) v) told ∙ grown_on left (count + 1) (grown (answered count) v) more ∙ ap reached next
        | inr h ↦
            let none : grow_outcome v ≡ refused (found 9 layer.Table 0 0) =
            grow_told 1496 shape count v S ∙ rw (le-leb (length (listing k n)) count h) refl in
            ap (λ o. next_grow o (grown_by left) v) none ∙ rw (lt-ltb (length (listing k n)) (count + suc left) (omega (arith, h))) refl
      ]

  all_grown : (count : ℕ) → grown_by count (opened k n (answered tt) (fresh 1496)) ≡ reached count
  all_grown count =
      let all : 0 + count ≡ count = omega arith in
      grown_on count 0 (opened k n (answered tt) (fresh 1496)) (record { is = refl; within = omega arith; shaped = (some, deep) }) ∙ ap reached all

-- ---- the table of k and n that was grown so many times

module _ (k n : ℕ) (opens : answered tt ≡ shape_checked k n) where
  some : 1 ≤ k
  some = (taken k n (sym opens)).0

  deep : n ≤ 12
  deep = (taken k n (sym opens)).2

  few : length (listing k n) ≤ 1496
  few = omega (arith, few_keys k n some (grind (arith, nat_tests, opens)) deep (grind (arith, nat_tests, opens)), length-listing k n some)

  abbrev begun : View
  begun = opened k n (answered tt) (fresh 1496)

  begun_is : (v : View) → v ≡ opened k n (shape_checked k n) (fresh 1496) → v ≡ begun
  begun_is v is = is ∙ ap (λ o. opened k n o (fresh 1496)) (sym opens)

  by_test : (more : Bool) (count : ℕ) → refuse_if more (found 9 layer.Table 0 0) (answered (table_of k n count)) ≡ checked (checked (answered (tt {0})) (refuse_if more (found 9 layer.Table 0 0) (answered (tt {0})))) (answered (table_of k n count))
  by_test true count = refl
  by_test false count = refl

  abbrev made : ℕ → Outcome (Unit {0}) → Outcome View
  made count opening = checked (checked opening (refuse_if (ltb (length (listing k n)) count) (found 9 layer.Table 0 0) (answered (tt {0})))) (answered (table_of k n count))

  told : (count : ℕ) → reached k n some deep few count ≡ checked (table_checked k n count) (answered (table_of k n count))
  told count = by_test (ltb (length (listing k n)) count) count ∙ ap (made count) opens

  pub grown_told : (count : ℕ) (before : View) (o : Outcome View) → before ≡ opened k n (shape_checked k n) (fresh 1496) → o ≡ grown_by count before → o ≡ checked (table_checked k n count) (answered (table_of k n count))
  grown_told count before o is e = e ∙ ap (grown_by count) (begun_is before is) ∙ all_grown k n some deep few count ∙ told count

  pub whole_told : (before v : View) → before ≡ opened k n (shape_checked k n) (fresh 1496) → v ≡ filled before → answered v ≡ checked (shape_checked k n) (answered (whole_of k n))
  whole_told before v is e =
      ap answered (e ∙ ap filled (begun_is before is) ∙ ap with_entries (take_all 1496 (listing k n) few))
      ∙ ap (λ o. checked o (answered (whole_of k n))) opens
    where
      with_entries : List Entry → View
      with_entries es = record { shape = Some (record { k = k; n = n }); entries = es; room = 1496 }

pub open_told : (k n count : ℕ) (o : Outcome View) (f : Fault) → refused f ≡ shape_checked k n → refused f ≡ checked (table_checked k n count) o
open_told k n count o f e = rw (sym e) refl

-- ---- one grow more

pub grow_more : (grows done i : ℕ) (before after : View) (all : Outcome View) → grown_by (grows - done) before ≡ all → done < grows → answered i ≡ grow_outcome before → after ≡ grown (grow_outcome before) before → grown_by (grows - (done + 1)) after ≡ all
grow_more grows done i before after all is h told put =
    let left : ℕ = grows - (done + 1) in
    let e : suc left ≡ grows - done = omega (arith, h) in
    ap (grown_by left) (put ∙ ap (λ o. grown o before) (sym told))
    ∙ ap (λ o. next_grow o (grown_by left) before) told
    ∙ ap (λ g. grown_by g before) e
    ∙ is

pub ruleset counted = (grown_told, open_told)

pub ruleset whole = (whole_told)
