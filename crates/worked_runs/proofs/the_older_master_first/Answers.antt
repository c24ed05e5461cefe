use Rattle.std.proofs.Common.{refl}
use Rattle.worked_runs.proofs.the_older_master_first.Goals as goal

pub returns : goal.returns
returns c = refl
