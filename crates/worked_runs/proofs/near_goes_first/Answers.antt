use Rattle.std.proofs.Common.{refl}
use Rattle.worked_runs.proofs.near_goes_first.Goals as goal

pub returns : goal.returns
returns c = refl
