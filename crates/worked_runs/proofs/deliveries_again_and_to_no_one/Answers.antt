use Rattle.std.proofs.Common.{refl}
use Rattle.worked_runs.proofs.deliveries_again_and_to_no_one.Goals as goal

pub returns : goal.returns
returns c = refl
