use Rattle.std.proofs.Common.{refl}
use Rattle.worked_runs.proofs.a_job_marks_with_all_that_it_wants.Goals as goal

pub returns : goal.returns
returns c = refl
