-- By what right grants are taken for a unit that waits: quotas, priorities and limits.
use Rattle.std.specs.Prelude.{◌<◌, ◌+◌, ◌≡◌, ℕ, ◌≤◌, List}
use Rattle.std.specs.List.{AllByRecursion}
use Rattle.fuxi_terms.specs.Cluster.{ClusterRecord, quota_at, limit_at}
use Rattle.fuxi_terms.specs.Jobs.{size_at, group_of, priority_of}
use Rattle.fuxi_terms.specs.Keys.{Spot}
use Rattle.fuxi_terms.specs.Tables.{usage_at}
use Rattle.spec_roles.specs.Masters.{Master}
use Rattle.spec_roles.specs.Preemption.{part_at}
use Rattle.spec_roles.specs.Losses.{KeepsQuota}

-- what the group of the unit at t used before, and one more of the unit, are within its quota, in each resource
pub record HasQuotaLeft (c : ClusterRecord) (M : Master) (t : Spot) : Type 0 where
  pub within : (i : ℕ) → i < c.resources → usage_at M.jobs (group_of M.jobs t.job) i M.table + size_at M.jobs t.job t.unit i ≤ quota_at c (group_of M.jobs t.job) i

-- a loser of the group that is served has a lower priority; one of another group leaves that its quota without all that it loses, and is
-- taken only for a group that has quota left
pub record IsTakenByQuota (c : ClusterRecord) (M : Master) (t : Spot) (set : List Spot) (s : Spot) : Type 0 where
  pub own : group_of M.jobs s.job ≡ group_of M.jobs t.job → priority_of M.jobs s.job s.unit < priority_of M.jobs t.job t.unit
  pub other : (group_of M.jobs s.job ≡ group_of M.jobs t.job → ⊥) → KeepsQuota c M set (group_of M.jobs s.job) × HasQuotaLeft c M t

-- Preempts by quota: each loser is taken so; and what the group that is served uses without its losers, and one more of the unit, are within its limit, in each resource
pub record AreTakenByQuota (c : ClusterRecord) (M : Master) (t : Spot) (set : List Spot) : Type 0 where
  pub each : AllByRecursion (IsTakenByQuota c M t set) set
  pub limit : (i : ℕ) → i < c.resources
      → usage_at M.jobs (group_of M.jobs t.job) i M.table + size_at M.jobs t.job t.unit i ≤ limit_at c (group_of M.jobs t.job) i + part_at M.jobs (group_of M.jobs t.job) i set
