use Rattle.std.proofs.Common.{refl}
use Rattle.worked_runs.proofs.failover_with_a_missing_report.Goals as goal

pub returns : goal.returns
returns c = refl
