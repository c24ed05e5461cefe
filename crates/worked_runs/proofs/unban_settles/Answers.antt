use Rattle.std.proofs.Common.{refl}
use Rattle.worked_runs.proofs.unban_settles.Goals as goal

pub returns : goal.returns
returns c = refl
