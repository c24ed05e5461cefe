use Rattle.std.proofs.Common.{◌≡◌, drop}
use Rattle.serde_json.specs.View.{items_view}
use Rattle.cluster_desc.specs.ClusterLine.{each, whole_number}
use Rattle.cluster_desc.proofs.Steps.{behind}
use Rattle.cluster_desc.proofs.read.whole_numbers.Given as goal

abbrev pub invariant-loop-value : goal.invariant-loop-value
invariant-loop-value l =
    each (λ i. whole_number l.key) 0 (items_view l.values)
    ≡ behind l.numbers.items (each (λ i. whole_number l.key) l.value-index (items_view (drop l.value-index l.values)))
