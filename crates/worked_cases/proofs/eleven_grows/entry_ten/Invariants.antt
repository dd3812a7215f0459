use Rattle.std.proofs.Common.{◌≡◌}
use Rattle.bracket_table.specs.Seen.{view}
use Rattle.worked_cases.proofs.Grows.{after}
use Rattle.worked_cases.proofs.eleven_grows.entry_ten.Given as goal

abbrev pub invariant-loop : goal.invariant-loop
invariant-loop l = view l.table ≡ after (view l.initial.table).room l.counter
