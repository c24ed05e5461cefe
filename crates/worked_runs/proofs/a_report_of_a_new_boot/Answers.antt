use Rattle.std.proofs.Common.{refl}
use Rattle.worked_runs.proofs.a_report_of_a_new_boot.Goals as goal

pub returns : goal.returns
returns c = refl
