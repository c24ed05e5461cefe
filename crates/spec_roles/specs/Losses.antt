-- What the losers of a preemption are, said without its walk.
use Rattle.std.specs.Prelude.{◌<◌, ◌+◌, ◌≡◌, ◌⊎◌, ℕ, ◌≤◌, true, false, cond, List}
use Rattle.std.specs.List.{AllByRecursion, sum_by}
use Rattle.std.specs.Ordering.{eq_by_cmp}
use Rattle.fuxi_terms.specs.Cluster.{ClusterRecord, has_at, quota_at}
use Rattle.fuxi_terms.specs.Keys.{Spot, spot_cmp}
use Rattle.fuxi_terms.specs.Counts.{count}
use Rattle.spec_roles.specs.Masters.{Master}
use Rattle.spec_roles.specs.Preemption.{is_enough, set_at_place, part_at, without_one}
use Rattle.fuxi_terms.specs.Tables.{total_at, usage_at, Table}
use Rattle.fuxi_terms.specs.Jobs.{size_at, group_of}

-- how often a spot stands in a set of single grants
abbrev pub one_if : Spot → Spot → ℕ
one_if s t = cond (eq_by_cmp spot_cmp s t) 1 0

abbrev pub often : Spot → List Spot → ℕ
often s ss = sum_by (one_if s) ss

-- single grants of a table, all on one machine
pub record AreGrantsOn (table : Table) (m : ℕ) (set : List Spot) : Type 0 where
  pub few : (s : Spot) → often s set ≤ count spot_cmp table s
  pub on : AllByRecursion (λ s. s.machine ≡ m) set

-- grants of the table on the machine that is served, which are enough for what is served
pub record IsLoss (c : ClusterRecord) (M : Master) (t : Spot) (set : List Spot) : Type 0 where
  pub drawn : AreGrantsOn M.table t.machine set
  pub enough : is_enough c M t set ≡ true

-- with what these leave there is room on the machine that is served, in each resource
pub record LeavesRoom (c : ClusterRecord) (M : Master) (t : Spot) (set : List Spot) : Type 0 where
  pub room : (i : ℕ) → i < c.resources → total_at M.jobs t.machine i M.table + size_at M.jobs t.job t.unit i ≤ has_at c t.machine i + set_at_place M.jobs i set

-- each of these is needed: without it the others are not enough for what is served
pub record IsNeeded (c : ClusterRecord) (M : Master) (t : Spot) (set : List Spot) : Type 0 where
  pub each : AllByRecursion (λ s. is_enough c M t (without_one s set) ≡ false) set

-- a group without its part of these keeps its quota, in each resource
pub record KeepsQuota (c : ClusterRecord) (M : Master) (set : List Spot) (g : ℕ) : Type 0 where
  pub keeps : (i : ℕ) → i < c.resources → quota_at c g i + part_at M.jobs g i set ≤ usage_at M.jobs g i M.table

-- each of these is of the group that is served, or of one that keeps its quota
pub record KeepsQuotas (c : ClusterRecord) (M : Master) (t : Spot) (set : List Spot) : Type 0 where
  pub each : AllByRecursion (λ s. (group_of M.jobs s.job ≡ group_of M.jobs t.job) ⊎ KeepsQuota c M set (group_of M.jobs s.job)) set
