-- What one step of a master may change in its table, its bans and its phase.
use Rattle.std.specs.Prelude.{◌≡◌, ℕ, ◌+◌, ◌-◌, ◌<◌, ◌≤◌, Bool, true, false, cond, T}
use Rattle.std.specs.List.{AllByRecursion}
use Rattle.std.specs.FinMap.Entries.{is_sorted}
use Rattle.fuxi_terms.specs.Cluster.{ClusterRecord, has_machine, limit_at}
use Rattle.fuxi_terms.specs.Counts.{count}
use Rattle.fuxi_terms.specs.Jobs.{is_live, unit_count, group_of}
use Rattle.fuxi_terms.specs.Keys.{key_cmp, spot_cmp}
use Rattle.fuxi_terms.specs.Numbers.{has_number}
use Rattle.fuxi_terms.specs.TallyKeys.{want_key, avoid_key, credited_key}
use Rattle.fuxi_terms.specs.Tables.{held, held_on, usage_at}
use Rattle.spec_net.specs.Net.{Id}
use Rattle.spec_net.specs.Channels.{app_id}
use Rattle.spec_roles.specs.Masters.{Master, asked, out, credited_of}
use Rattle.spec_roles.specs.MasterSteps.{MasterChange, Admits, Ends, Bans, Unbans, Begins, Preempts}

-- what every event keeps: a table in order, with grants on reported machines alone; demands of live jobs alone, and of units that they have; and a line in
-- which each pair waits
pub record IsOrderly (M : Master) : Type 0 where
  pub sorted : T (is_sorted spot_cmp M.table)
  pub reported : (a u m : ℕ) → has_number m M.reported ≡ false → held_on M.table a u m ≡ 0
  pub wanted : (a u : ℕ) → 0 < asked M a (want_key u) → (is_live M.jobs a ≡ true) × (u < unit_count M.jobs a)
  pub waits : AllByRecursion (λ p. 0 < out M p.0 p.1) M.line

-- Grows as allowed. A new grant of a unit on a machine: the master serves, the job is live and has the unit, the machine is neither banned nor avoided,
-- what the unit then holds is at most what it wants, and the group's usage is within its limit in each resource
pub record MayBeGranted (c : ClusterRecord) (N : Master) (a u m : ℕ) : Type 0 where
  pub serves : N.serving ≡ true
  pub live : is_live N.jobs a ≡ true
  pub unit : u < unit_count N.jobs a
  pub banned : has_number m N.bans ≡ false
  pub avoided : asked N a (avoid_key u m) ≡ 0
  pub wanted : held N.table a u ≤ asked N a (want_key u)
  pub limit : (i : ℕ) → i < c.resources → usage_at N.jobs (group_of N.jobs a) i N.table ≤ limit_at c (group_of N.jobs a) i

-- from M to N a count on a machine that M has as reported rises only where that is allowed, and on another one only where N has it as reported
pub record GrowsAsAllowed (c : ClusterRecord) (M N : Master) : Type 0 where
  pub reported : (a u m : ℕ) → has_number m M.reported ≡ true → held_on M.table a u m < held_on N.table a u m → MayBeGranted c N a u m
  pub adopted : (a u m : ℕ) → has_number m M.reported ≡ false → held_on M.table a u m < held_on N.table a u m → has_number m N.reported ≡ true

-- Banned machines are bare: the table has nothing on a banned machine
pub record IsBare (M : Master) : Type 0 where
  pub bare : (a u m : ℕ) → has_number m M.bans ≡ true → held_on M.table a u m ≡ 0

-- Serves when told of all: a report of every machine of the cluster is adopted
pub record HasAllReports (c : ClusterRecord) (M : Master) : Type 0 where
  pub reported : (m : ℕ) → has_machine c m ≡ true → has_number m M.reported ≡ true

-- what is credited to a job of a unit on a machine
abbrev pub credited_at : Master → ℕ → ℕ → ℕ → ℕ
credited_at M a u m = count key_cmp (credited_of M a) (credited_key u m)

-- Loses only what is credited: at what it hears of an application, a count of that job falls at most by what is credited more, from 0 for a new boot,
-- and no other count falls
pub record LosesOnlyCredited (fresh : Bool) (from : Id) (M N : Master) : Type 0 where
  pub own : (a u m : ℕ) → from ≡ app_id a → held_on M.table a u m ≤ held_on N.table a u m + (credited_at N a u m - cond fresh 0 (credited_at M a u m))
  pub others : (a u m : ℕ) → (from ≡ app_id a → ⊥) → held_on M.table a u m ≤ held_on N.table a u m

-- by a change of its own a master loses grants only on a machine that is banned, of a job that ends, and where it makes room
abbrev pub MayLose : MasterChange → ℕ → ℕ → ℕ → Type 0
MayLose (Admits j) a u m = ⊥
MayLose (Ends b) a u m = b ≡ a
MayLose (Bans n) a u m = n ≡ m
MayLose (Unbans n) a u m = ⊥
MayLose Begins a u m = ⊥
MayLose Preempts a u m = Unit {0}
