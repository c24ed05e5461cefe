use Rattle.std.proofs.Common.{refl}
use Rattle.worked_runs.proofs.a_cluster_alone.Goals as goal

pub returns : goal.returns
returns c = refl
