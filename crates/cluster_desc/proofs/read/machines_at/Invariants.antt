use Rattle.std.proofs.Common.{◌≡◌, map, drop}
use Rattle.serde_json.specs.View.{items_view}
use Rattle.cluster_desc.specs.ClusterLine.{each, machine_at}
use Rattle.cluster_desc.specs.Records.{machine_of, machine_record}
use Rattle.cluster_desc.proofs.Steps.{behind}
use Rattle.cluster_desc.proofs.read.machines_at.Given as goal

abbrev pub invariant-loop-value : goal.invariant-loop-value
invariant-loop-value l = record {
  so_far : each (λ i. machine_at l.resources) 0 (items_view l.values)
      ≡ behind (map (machine_record l.resources) l.machines.items) (each (λ i. machine_at l.resources) l.value-index (items_view (drop l.value-index l.values)));
  back : map machine_of (map (machine_record l.resources) l.machines.items) ≡ l.machines.items;
}
