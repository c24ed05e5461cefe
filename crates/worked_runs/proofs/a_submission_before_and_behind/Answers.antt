use Rattle.std.proofs.Common.{refl}
use Rattle.worked_runs.proofs.a_submission_before_and_behind.Goals as goal

pub returns : goal.returns
returns c = refl
