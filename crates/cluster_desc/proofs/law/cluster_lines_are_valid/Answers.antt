use Rattle.cluster_desc.specs.ClusterLine.{cluster_at, value_of}
use Rattle.cluster_desc.specs.Faults.{given}
use Rattle.cluster_desc.specs.declared.fault.ClusterFault.TheVariants.{NotJson}
use Rattle.cluster_desc.proofs.ReadClusters.{bind_ok, cluster_valid}
use Rattle.cluster_desc.proofs.law.cluster_lines_are_valid.Goals as goal

pub returns : goal.returns
unfolding Rattle.cluster_desc.specs.ClusterLine.cluster_of
returns g line c is = let read = bind_ok (given (value_of line) NotJson) cluster_at c is in cluster_valid read.0 c read.2
