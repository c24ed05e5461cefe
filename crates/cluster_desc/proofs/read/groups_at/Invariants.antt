use Rattle.std.proofs.Common.{◌≡◌, map, drop, vec_len}
use Rattle.serde_json.specs.View.{items_view}
use Rattle.cluster_desc.specs.ClusterLine.{each, group_at}
use Rattle.cluster_desc.specs.Records.{group_of, group_record}
use Rattle.cluster_desc.proofs.Steps.{behind}
use Rattle.cluster_desc.proofs.read.groups_at.Given as goal

abbrev pub invariant-loop-value : goal.invariant-loop-value
invariant-loop-value l = record {
  count : vec_len l.groups ≡ l.value-index;
  so_far : each (group_at l.resources) 0 (items_view l.values)
      ≡ behind (map (group_record l.resources) l.groups.items) (each (group_at l.resources) l.value-index (items_view (drop l.value-index l.values)));
  back : map group_of (map (group_record l.resources) l.groups.items) ≡ l.groups.items;
}
