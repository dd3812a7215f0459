-- How many entries an audit counts in a table that was opened and grown.
use Rattle.std.proofs.Common.{◌≡◌, ℕ, length, Ok, Result, IsOk, refl, sym, ap, ◌∙◌}
use Rattle.faults.specs.Outcome.{Outcome, told}
use Rattle.faults.specs.Outcome.Outcome.{answered}
use Rattle.faults.proofs.Checks.{answers}
use Rattle.bracket_table.specs.Calls.{opened}
use Rattle.bracket_table.specs.Faults.{table_fault}
use Rattle.bracket_table.specs.Views.{View, fresh}
use Rattle.bracket_table.specs.declared.fault.TableFault.{TableFault}
use Rattle.grown_table.specs.Filled.{filled}
use Rattle.table_audit.specs.Outcome.{count_outcome}
use Rattle.table_audit.specs.declared.Growth.{Growth}

module _ (k n room : ℕ) (before v : View) (open_there : before ≡ opened k n (answered tt) (fresh room)) (after : v ≡ filled before) (r : Result Growth TableFault) (counted : told (λ g. g.entries) table_fault r ≡ count_outcome v) where
  all : count_outcome v ≡ answered (length v.entries)
  all = rw (after, open_there) refl

  -- it is not refused
  pub audit_answers : IsOk r
  audit_answers = answers (λ g. g.entries) table_fault r (length v.entries) (counted ∙ all)

  pub audit_counts : (g : Growth) → r ≡ Ok g → g.entries ≡ length v.entries
  audit_counts g e = let h : ◌≡◌ {A = Outcome ℕ} (answered g.entries) (answered (length v.entries)) = sym (ap (told (λ g. g.entries) table_fault) e) ∙ counted ∙ all in cc
