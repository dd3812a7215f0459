use Rattle.console.proofs.Reports.{determined}
use Rattle.console.proofs.Program.report.Goals as goal

pub returns-clause-determined : goal.returns-clause-determined
returns-clause-determined g c = determined _ g.met.Self.Program.once
