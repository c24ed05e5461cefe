use Rattle.std.proofs.Common.{refl}
use Rattle.worked_runs.proofs.the_greater_job_loses_first.Goals as goal

pub returns : goal.returns
returns c = refl
