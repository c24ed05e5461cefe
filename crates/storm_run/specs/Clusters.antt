-- The cluster of a storm.
use Rattle.std.specs.Prelude.{ℕ, ◌/◌, [], ◌∷◌, map}
use Rattle.fuxi_terms.specs.Cluster.{MachineRecord, ClusterRecord}
use Rattle.fuxi_terms.specs.Lists.{below}

-- two machines stand in a rack
abbrev pub storm_machine : ℕ → MachineRecord
storm_machine m = record { rack = m / 2; has = 1000 ∷ 4000 ∷ [] }

abbrev pub storm_cluster : ClusterRecord
storm_cluster = record {
  resources = 2;
  machines = map storm_machine (below 8);
  groups = (record { quota = 4000 ∷ 16000 ∷ []; limit = 8000 ∷ 32000 ∷ [] }) ∷ (record { quota = 4000 ∷ 16000 ∷ []; limit = 6000 ∷ 24000 ∷ [] }) ∷ [];
}
