use Rattle.std.proofs.Common.{refl}
use Rattle.worked_runs.proofs.two_masters_at_once.Goals as goal

pub returns : goal.returns
returns c = refl
