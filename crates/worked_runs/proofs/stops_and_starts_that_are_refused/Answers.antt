use Rattle.std.proofs.Common.{refl}
use Rattle.worked_runs.proofs.stops_and_starts_that_are_refused.Goals as goal

pub returns : goal.returns
returns c = refl
