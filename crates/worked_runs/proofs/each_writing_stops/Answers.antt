use Rattle.std.proofs.Common.{refl}
use Rattle.worked_runs.proofs.each_writing_stops.Goals as goal

pub returns : goal.returns
returns c = refl
