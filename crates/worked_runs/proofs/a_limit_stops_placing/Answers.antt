use Rattle.std.proofs.Common.{refl}
use Rattle.worked_runs.proofs.a_limit_stops_placing.Goals as goal

pub returns : goal.returns
returns c = refl
