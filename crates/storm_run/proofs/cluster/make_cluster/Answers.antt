use Rattle.std.proofs.Common.{sym}
use Rattle.storm_run.proofs.ClustersLemmas.{described, same_ok}
use Rattle.storm_run.proofs.cluster.make_cluster.Goals as goal

pub returns-in-Ok : goal.returns-in-Ok
returns-in-Ok c = same_ok _ _ _ (sym c.in-Ok.ensures.ok) described
