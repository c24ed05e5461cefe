-- Machines and groups with their eight places, against the shared records, which have as many as the cluster has resources.
use Rattle.std.specs.Prelude.{◌≡◌, ℕ, IsTrue, List, map, take}
use Rattle.fuxi_terms.specs.Cluster.{MachineRecord, GroupRecord, ClusterRecord, is_valid_cluster}
use Rattle.fuxi_terms.specs.Padded.{padded}
use Rattle.cluster_desc.specs.declared.cluster.Machine.{Machine}
use Rattle.cluster_desc.specs.declared.cluster.Group.{Group}

abbrev pub machine_of : MachineRecord → Machine
machine_of m = record { rack = record { 0 = m.rack }; has = record { q = padded m.has } }

abbrev pub group_of : GroupRecord → Group
group_of g = record { quota = record { q = padded g.quota }; limit = record { q = padded g.limit } }

-- back again, by the number of resources
abbrev pub machine_record : ℕ → Machine → MachineRecord
machine_record resources m = record { rack = m.rack.0; has = take resources m.has.q }

abbrev pub group_record : ℕ → Group → GroupRecord
group_record resources g = record { quota = take resources g.quota.q; limit = take resources g.limit.q }

abbrev pub cluster_record : ℕ → List Machine → List Group → ClusterRecord
cluster_record resources machines groups =
    record { resources = resources; machines = map (machine_record resources) machines; groups = map (group_record resources) groups }

-- the cluster is within the limits, and only zeros stand behind
pub record IsCluster (resources : ℕ) (machines : List Machine) (groups : List Group) : Type 0 where
  pub valid : IsTrue (is_valid_cluster (cluster_record resources machines groups))
  pub machines_back : map machine_of (map (machine_record resources) machines) ≡ machines
  pub groups_back : map group_of (map (group_record resources) groups) ≡ groups
