use Rattle.std.proofs.Common.{refl}
use Rattle.worked_runs.proofs.begin_and_a_late_report.Goals as goal

pub returns : goal.returns
returns c = refl
