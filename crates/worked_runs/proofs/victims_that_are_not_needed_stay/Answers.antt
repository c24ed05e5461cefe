use Rattle.std.proofs.Common.{refl}
use Rattle.worked_runs.proofs.victims_that_are_not_needed_stay.Goals as goal

pub returns : goal.returns
returns c = refl
