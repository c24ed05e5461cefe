use Rattle.std.proofs.Common.{refl}
use Rattle.worked_runs.proofs.four_fit_and_one_waits.Goals as goal

pub returns : goal.returns
returns c = refl
