use Rattle.std.proofs.Common.{◌≡◌, Ok, arith}
use Rattle.std.proofs.lemmas.Grind.{common_steps}
use Rattle.serde_json.specs.View.{view}
use Rattle.cluster_desc.specs.ClusterLine.{cluster_at}
use Rattle.cluster_desc.specs.Records.{cluster_record}
use Rattle.cluster_desc.proofs.ReadClusters.{cluster_valid}
use Rattle.cluster_desc.proofs.read.cluster_at.Goals as goal

pub from_parts-requires : goal.from_parts-requires
unfolding cluster_at
from_parts-requires c =
    let e : cluster_at (view c.args.value.now) ≡ Ok (cluster_record c.in_ok-resources-2.field-0 c.in_ok-machines-3.machines.items c.in_ok-groups-3.groups.items) = grind (arith, common_steps) in
    record {
      valid = cluster_valid (view c.args.value.now) _ e;
      machines_back = c.in_ok-machines-3.ensures.back;
      groups_back = c.in_ok-groups-3.ensures.back;
    }
