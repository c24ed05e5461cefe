use Rattle.std.proofs.Common.{refl}
use Rattle.worked_runs.proofs.failover_after_a_give_back.Goals as goal

pub returns : goal.returns
returns c = refl
