-- The records of a cluster and of its jobs, when they are valid, and what a cluster says of its machines, racks and groups.
use Rattle.std.specs.Prelude.{ℕ, Bool, not, nat_eq, nat_lt, ◌&&◌, ◌||◌, List, [], length, slice_get}
use Rattle.std.specs.Option.{unwrap_or}
use Rattle.std.specs.List.{list_any, list_all}
use Rattle.fuxi_terms.specs.Lists.{below_each}
use Rattle.fuxi_terms.specs.Limits.{most_resources, most_machines, most_racks, most_groups, most_jobs, most_units, most_priorities, greatest_quantity, greatest_count}
use Rattle.fuxi_terms.specs.Vectors.{at_place, fits, is_zero}

pub record MachineRecord : Type 0 where
  pub rack : ℕ
  pub has : List ℕ

pub record GroupRecord : Type 0 where
  pub quota : List ℕ
  pub limit : List ℕ

-- machines and groups are numbered by their place in the list
pub record ClusterRecord : Type 0 where
  pub resources : ℕ
  pub machines : List MachineRecord
  pub groups : List GroupRecord

-- a unit: its priority, what one grant takes, and the greatest number of its grants that are made on one machine
pub record UnitRecord : Type 0 where
  pub priority : ℕ
  pub size : List ℕ
  pub most : ℕ

-- units are numbered by their place in the list
pub record JobRecord : Type 0 where
  pub number : ℕ
  pub group : ℕ
  pub units : List UnitRecord

abbrev pub is_at_most : ℕ → ℕ → Bool
is_at_most most n = not (nat_lt most n)

abbrev pub are_quantities : List ℕ → Bool
are_quantities qs = list_all (is_at_most greatest_quantity) qs

-- as many quantities as the cluster has resources, each in range
abbrev pub is_vector_of : ℕ → List ℕ → Bool
is_vector_of resources qs = nat_eq (length qs) resources && are_quantities qs

abbrev pub is_valid_machine : ℕ → MachineRecord → Bool
is_valid_machine resources m = nat_lt m.rack most_racks && is_vector_of resources m.has

abbrev pub is_valid_group : ℕ → GroupRecord → Bool
is_valid_group resources g = is_vector_of resources g.quota && (is_vector_of resources g.limit && fits g.quota g.limit)

abbrev pub is_between : ℕ → ℕ → ℕ → Bool
is_between least most n = not (nat_lt n least) && not (nat_lt most n)

abbrev pub is_valid_cluster : ClusterRecord → Bool
is_valid_cluster c =
    is_between 1 most_resources c.resources && (is_between 1 most_machines (length c.machines) && (list_all (is_valid_machine c.resources) c.machines
    && (is_between 1 most_groups (length c.groups) && list_all (is_valid_group c.resources) c.groups)))

abbrev pub is_priority : ℕ → Bool
is_priority p = nat_lt p most_priorities

-- what one grant of a unit takes: something
abbrev pub is_size : ℕ → List ℕ → Bool
is_size resources qs = is_vector_of resources qs && not (is_zero qs)

-- the greatest number that a unit may have on one machine
abbrev pub is_most : ℕ → Bool
is_most n = is_between 1 greatest_count n

abbrev pub is_valid_unit : ℕ → UnitRecord → Bool
is_valid_unit resources u = is_priority u.priority && (is_size resources u.size && is_most u.most)

-- a job for a cluster of so many resources
abbrev pub is_valid_job : ℕ → JobRecord → Bool
is_valid_job resources j =
    nat_lt j.number most_jobs && (nat_lt j.group most_groups && (is_between 1 most_units (length j.units) && list_all (is_valid_unit resources) j.units))

-- a machine stands in the rack
abbrev pub has_rack : ClusterRecord → ℕ → Bool
has_rack c r = list_any (λ (m : MachineRecord). nat_eq m.rack r) c.machines

-- one resource of what a machine has, and of a group's limit and quota. A machine or group that the cluster does not have counts as 0 everywhere
abbrev pub no_machine : MachineRecord
no_machine = record { rack = 0; has = [] }

abbrev pub machine_of : ClusterRecord → ℕ → MachineRecord
machine_of c m = unwrap_or (slice_get c.machines m) no_machine

abbrev pub has_at : ClusterRecord → ℕ → ℕ → ℕ
has_at c m i = at_place (machine_of c m).has i

abbrev pub rack_of : ClusterRecord → ℕ → ℕ
rack_of c m = (machine_of c m).rack

abbrev pub no_group : GroupRecord
no_group = record { quota = []; limit = [] }

abbrev pub limit_at : ClusterRecord → ℕ → ℕ → ℕ
limit_at c g i = at_place (unwrap_or (slice_get c.groups g) no_group).limit i

abbrev pub quota_at : ClusterRecord → ℕ → ℕ → ℕ
quota_at c g i = at_place (unwrap_or (slice_get c.groups g) no_group).quota i

abbrev pub has_machine : ClusterRecord → ℕ → Bool
has_machine c m = nat_lt m (length c.machines)

abbrev pub has_group : ClusterRecord → ℕ → Bool
has_group c g = nat_lt g (length c.groups)

-- a test in each resource of the cluster
abbrev pub in_each : ClusterRecord → (ℕ → Bool) → Bool
in_each c test = below_each c.resources test

-- a size, by its places, is 0 in each place beyond the cluster's resources
abbrev pub is_narrow : ClusterRecord → (ℕ → ℕ) → Bool
is_narrow c size = below_each most_resources (λ i. nat_lt i c.resources || nat_eq (size i) 0)

-- a test in each resource, of a size that is not 0 in those alone fails: it fits nowhere
abbrev pub in_each_place : ClusterRecord → (ℕ → ℕ) → (ℕ → Bool) → Bool
in_each_place c size test = is_narrow c size && in_each c test
