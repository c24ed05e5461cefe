-- What a plan stands for, which boards it is a plan of, and what its maker may count on.
use Rattle.std.specs.Prelude.{◌≡◌, ℕ, ◌+◌, ◌<◌, ◌≤◌, Bool, false, nat_eq, ◌&&◌, List, [], ◌∷◌, ◌++◌, length, map, None, Some}
use Rattle.std.specs.List.{AllByRecursion, IsDistinct}
use Rattle.fuxi_terms.specs.Cluster.{has_at}
use Rattle.fuxi_terms.specs.Keys.{Spot}
use Rattle.fuxi_terms.specs.Jobs.{unit_count, priority_of, size_at, most_of, group_of}
use Rattle.fuxi_terms.specs.Tables.{spot, held_on, total_at, Table}
use Rattle.spec_roles.specs.Placing.{Board}
use Rattle.spec_roles.specs.Preemption.{victims_in}
use Rattle.spec_roles.specs.Preemption.{Plan as WrittenPlan}
use Rattle.grant_table.specs.GrantTables.{TableRecord, as_known, without_count}
use Rattle.grant_table.specs.declared.asking.Pick.{Pick}
use Rattle.preempt.specs.Counted.{singles}
use Rattle.preempt.specs.declared.plan.Plan.{Plan}
use Rattle.preempt.specs.declared.plan.Victim.{Victim}

abbrev pub served_of : Pick → Spot
served_of p = spot p.app.0 p.unit.0 p.machine.0

-- the single grants on a machine that victims stand for: as many of each unit as it loses, in the order of the victims
abbrev pub losers_of : ℕ → List Victim → List Spot
losers_of m vs = singles (map (λ (v : Victim). (spot v.app.0 v.unit.0 m, v.count)) vs)

abbrev pub plan_as : Plan → WrittenPlan
plan_as p = record { served = served_of p.pick; losers = losers_of p.pick.machine.0 p.victims }

-- a board says the same as a table, and as who may be granted where
pub record IsBoardOf (B : Board) (t : TableRecord) (usable : ℕ → ℕ → ℕ → Bool) : Type 0 where
  pub cluster : B.cluster ≡ t.cluster
  pub priorities : (a u : ℕ) → B.priorities a u ≡ priority_of (as_known t.jobs) a u
  pub sizes : (a u i : ℕ) → B.sizes a u i ≡ size_at (as_known t.jobs) a u i
  pub mosts : (a u : ℕ) → B.mosts a u ≡ most_of (as_known t.jobs) a u
  pub groups : (a : ℕ) → B.groups a ≡ group_of (as_known t.jobs) a
  pub may_use : (a u m : ℕ) → u < unit_count (as_known t.jobs) a → m < length t.cluster.machines → B.may_use a u m ≡ usable a u m

abbrev pub is_unit : ℕ → ℕ → Victim → Bool
is_unit a u v = nat_eq v.app.0 a && nat_eq v.unit.0 u

abbrev pub same_unit : Victim → Victim → Bool
same_unit v w = is_unit v.app.0 v.unit.0 w

-- a table's entries after the victims on a machine are taken, one unit after the other
abbrev pub without_victims : Table → ℕ → List Victim → Table
without_victims es m [] = es
without_victims es m (v ∷ vs) = without_victims (without_count es (spot v.app.0 v.unit.0 m) v.count) m vs

-- grants of an admitted unit, at least one of them and no more than it has on the machine
pub record IsTakable (t : TableRecord) (m : ℕ) (v : Victim) : Type 0 where
  pub unit : v.unit.0 < unit_count (as_known t.jobs) v.app.0
  pub some : 0 < v.count
  pub held : v.count ≤ held_on t.entries v.app.0 v.unit.0 m

-- victims on a machine that can be taken, each unit once
pub record AreTakable (t : TableRecord) (m : ℕ) (vs : List Victim) : Type 0 where
  pub each : AllByRecursion (IsTakable t m) vs
  pub once : IsDistinct same_unit vs

-- a plan can be carried out on a table: its victims can be taken, none of them is of the served unit, and after that there is room for the
-- grant
pub record CanBeMade (t : TableRecord) (p : Plan) : Type 0 where
  pub unit : p.pick.unit.0 < unit_count (as_known t.jobs) p.pick.app.0
  pub machine : p.pick.machine.0 < length t.cluster.machines
  pub victims : AreTakable t p.pick.machine.0 p.victims
  pub others : AllByRecursion (λ v. is_unit p.pick.app.0 p.pick.unit.0 v ≡ false) p.victims
  pub room : (i : ℕ) → total_at (as_known t.jobs) p.pick.machine.0 i (without_victims t.entries p.pick.machine.0 p.victims) + size_at (as_known t.jobs) p.pick.app.0 p.pick.unit.0 i ≤ has_at t.cluster p.pick.machine.0 i

-- the first of these pairs that has victims, with them
pub record IsFirstPlan (B : Board) (table : Table) (pairs : List Spot) (p : WrittenPlan) : Type 0 where
  pub before : List Spot
  pub after : List Spot
  pub split : pairs ≡ before ++ p.served ∷ after
  pub none : AllByRecursion (λ s. victims_in B table s ≡ None) before
  pub has : victims_in B table p.served ≡ Some p.losers
