-- Tables with the same entries and the same cursor are the same.
use Rattle.std.proofs.Common.{◌≡◌, Option}
use Rattle.std.proofs.Props.{props}
use mathlib.Core.HLevel.{is_prop→PathP}
use Rattle.coded_word.specs.declared.coded.Cursor.{Cursor}
use Rattle.lent_list.specs.declared.LentList.{LentList}
use Rattle.lyndon.specs.declared.entry.Entry.{Entry}
use Rattle.bracket_table.specs.declared.Table.{Table, listed-type, missing-type}

listed_prop : (es : LentList Entry) (s : Option Cursor) → IsProp (listed-type es s)
listed_prop es s = hlevel props

missing_prop : (es : LentList Entry) (s : Option Cursor) (l : listed-type es s) → IsProp (missing-type es s l)
missing_prop es s l = hlevel props

module _ (t u : Table) (e : t.entries ≡ u.entries) (n : t.next ≡ u.next) where
  pub same_table : t ≡ u
  same_table =
      λ i. record {
        entries = e i;
        next = n i;
        listed = is_prop→PathP (λ j. listed-type (e j) (n j)) (λ j. listed_prop (e j) (n j)) t.listed u.listed i;
        missing =
            is_prop→PathP
            (λ j. missing-type (e j) (n j) (is_prop→PathP (λ k. listed-type (e k) (n k)) (λ j. listed_prop (e j) (n j)) t.listed u.listed j))
            (λ j. missing_prop (e j) (n j) (is_prop→PathP (λ k. listed-type (e k) (n k)) (λ k. listed_prop (e k) (n k)) t.listed u.listed j)) t.missing u.missing i;
      }
