use Rattle.std.proofs.Common.{refl}
use Rattle.worked_runs.proofs.one_resource_is_too_small.Goals as goal

pub returns : goal.returns
returns c = refl
