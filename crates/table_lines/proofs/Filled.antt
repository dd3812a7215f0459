-- Lists that are filled step by step.
use Rattle.std.proofs.Common.{◌≡◌, ℕ, ◌+◌, ◌<◌, ◌≤◌, List, ◌++◌, drop, length, refl, sym, ap, ◌∙◌, append_assoc, arith, length-append}
use Rattle.std.proofs.lemmas.List.{drop_more}
use Rattle.lent_list.specs.declared.LentList.{LentList}
use Rattle.lent_list.specs.Lent.{items, places, over, Refilled}
use Rattle.lyndon.specs.Entries.{no_entry}
use Rattle.bracket_table.specs.Views.{View}
use Rattle.table_lines.specs.Lines.{entry_lines, letters_in, line_in}
use Rattle.lent_list.proofs.Filling.{over-over}

-- what is put behind the others stands behind them in the memory too
pub filled_more : {X : Type 0} (old mid new : LentList X) (more : List X) → Refilled old mid (items mid) → Refilled mid new (items mid ++ more) → Refilled old new (items new)
filled_more old mid new more a b =
    let longer : length (items mid) ≤ length (items mid ++ more) = omega (arith, length-append (items mid) more) in (
      refl,
      b.1 ∙ ap (over (items mid ++ more)) a.1 ∙ over-over (places old) (items mid) (items mid ++ more) longer ∙ ap (λ l. over l (places old)) (sym b.0),
      b.2 ∙ a.2,
    )

-- the line of the next entry stands in front of those of the entries behind it
pub lines_more : (v : View) (i : ℕ) (so_far : List ℕ) → i < length v.entries → (so_far ++ line_in v i) ++ entry_lines (letters_in v.shape) (i + 1) (drop (i + 1) v.entries) ≡ so_far ++ entry_lines (letters_in v.shape) i (drop i v.entries)
lines_more v i so_far here =
    append_assoc so_far (line_in v i) (entry_lines (letters_in v.shape) (i + 1) (drop (i + 1) v.entries))
    ∙ ap (λ es. so_far ++ entry_lines (letters_in v.shape) i es) (sym (drop_more v.entries i no_entry here))
