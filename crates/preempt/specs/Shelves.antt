-- What is kept of each machine, and what of a unit that waits.
use Rattle.std.specs.Prelude.{◌≡◌, ℕ, ◌+◌, ◌<◌, ◌≤◌, Bool, true, false, not, cond, nat_eq, nat_lt, ◌&&◌, ◌||◌, IsTrue, List, [], length, map, get_or, slice_index, slice_get, Some, None}
use Rattle.std.specs.Borrow.{Bor}
use Rattle.std.specs.List.{AllByRecursion, flat_map}
use Rattle.fuxi_terms.specs.Cluster.{has_at, limit_at, is_narrow}
use Rattle.fuxi_terms.specs.Jobs.{priority_of, group_of, size_at}
use Rattle.fuxi_terms.specs.Tables.{spot, held_on, total_at, usage_at}
use Rattle.fuxi_terms.specs.Keys.{Pair, Spot}
use Rattle.fuxi_terms.specs.Vectors.{fits, minus}
use Rattle.spec_roles.specs.Preemption.{is_guaranteed_in, may_take_in, victims_in}
use Rattle.grant_table.specs.GrantTables.{TableRecord, as_known}
use Rattle.preempt.specs.Counted.{entries_on}
use Rattle.preempt.specs.declared.entry.Entry.{Entry}
use Rattle.preempt.specs.declared.entry.Need.{Need}
use Rattle.preempt.specs.declared.entry.GroupUse.{GroupUse}
use Rattle.preempt.specs.declared.machine_grants.Loose.{Loose}
use Rattle.preempt.specs.declared.machine_grants.Loose.TheVariants.{Nobody, One, Several}
use Rattle.preempt.specs.declared.machine_grants.MachineGrants.{MachineGrants}
use Rattle.preempt.specs.declared.snapshot.Snapshot.{Snapshot}
use Rattle.preempt.specs.Given.{AreGroups, IsEntry, no_group, written, board_of, pair_of}
use Rattle.preempt.specs.Walks.{entry_on, holds_some}

-- a unit has grants, so that its group uses one of its size
abbrev pub HoldsSome : TableRecord → Entry → Type 0
HoldsSome t e = holds_some t.entries (pair_of e) ≡ true

abbrev pub IsUsed : List GroupUse → Entry → Type 0
IsUsed groups e = IsTrue (fits e.size.now.q (get_or groups e.group no_group).used.q)

-- units with grants, in the order of the walk: the entries of a machine are theirs
pub record AreHolders (t : TableRecord) (units : List Entry) : Type 0 where
  pub each : AllByRecursion (IsEntry t) units
  pub some : AllByRecursion (HoldsSome t) units
  pub few : length units ≤ 1000000
  pub lists : (m : ℕ) → flat_map (entry_on t.entries m) (map pair_of units) ≡ entries_on (board_of t) t.entries m

-- of these units those that have grants on a machine, with their number there
pub record IsListed (t : TableRecord) (units : List Entry) (m : ℕ) (entries : List Entry) : Type 0 where
  pub walk : map (written m) entries ≡ flat_map (entry_on t.entries m) (map pair_of units)
  pub each : AllByRecursion (IsEntry t) entries
  pub some : AllByRecursion (HoldsSome t) entries
  pub few : length entries ≤ length units

-- by machine what a unit has, and that of each unit
pub record IsRow (t : TableRecord) (e : Entry) (row : List ℕ) : Type 0 where
  pub wide : length row ≡ length t.cluster.machines
  pub is : (m : ℕ) → get_or row m 0 ≡ held_on t.entries e.app.0 e.unit.0 m

pub record AreRead (t : TableRecord) (units : List Entry) (counts : List (Bor (List ℕ))) : Type 0 where
  pub long : length counts ≡ length units
  pub each : (k : ℕ) (e : Entry) (d : Bor (List ℕ)) → k < length units → IsRow t (get_or units k e) (get_or counts k d).now

-- the entries of a machine, in the order of the walk
pub record IsWalked (t : TableRecord) (m : ℕ) (entries : List Entry) : Type 0 where
  pub walk : map (written m) entries ≡ entries_on (board_of t) t.entries m
  pub each : AllByRecursion (IsEntry t) entries
  pub some : AllByRecursion (HoldsSome t) entries
  pub few : length entries ≤ 1000000

-- a unit without victims, wherever it is tried
pub record HasNoVictims (t : TableRecord) (p : Pair) : Type 0 where
  pub none : (m : ℕ) → victims_in (board_of t) t.entries (spot p.0 p.1 m) ≡ None

-- whether a group spares one grant of a size
abbrev pub spares : GroupUse → List ℕ → Bool
spares g size = fits g.bounds.now.quota.q (minus g.used.q size)

-- whether a group is among those that can lose grants, and whether another one is
abbrev pub is_loose : Loose → ℕ → Bool
is_loose Nobody g = false
is_loose (One h) g = nat_eq h g
is_loose Several g = true

abbrev pub is_other_loose : Loose → ℕ → Bool
is_other_loose Nobody g = false
is_other_loose (One h) g = not (nat_eq h g)
is_other_loose Several g = true

-- no entry is below the least priority of its group, and the group of each that it spares is loose
pub record IsLow (lowest : List ℕ) (e : Entry) : Type 0 where
  pub least : get_or lowest e.group 0 ≤ e.priority

pub record IsLoose (groups : List GroupUse) (loose : Loose) (e : Entry) : Type 0 where
  pub loosened : spares (get_or groups e.group no_group) e.size.now.q ≡ true → is_loose loose e.group ≡ true

pub record AreMachineGrants (t : TableRecord) (m : ℕ) (s : MachineGrants) : Type 0 where
  pub walk : map (written m) s.entries.now ≡ entries_on (board_of t) t.entries m
  pub each : AllByRecursion (IsEntry t) s.entries.now
  pub few : length s.entries.now ≤ 1000000
  pub has : (i : ℕ) → i < t.cluster.resources → slice_index s.has i ≡ has_at t.cluster m i
  pub free : (i : ℕ) → i < t.cluster.resources → slice_index s.free i + total_at (as_known t.jobs) m i t.entries ≡ has_at t.cluster m i

-- whether a unit may take any grant of which these are the bounds: of its own group, or of another
abbrev pub may_take_some : Need → List ℕ → Loose → Bool
may_take_some n lowest loose = nat_lt (get_or lowest n.group 0) n.priority || (n.guaranteed && is_other_loose loose n.group)

-- what one more grant of a unit needs, wherever it is
pub record IsWanted (t : TableRecord) (a u : ℕ) (n : Need) : Type 0 where
  pub resources : n.resources ≡ t.cluster.resources
  pub narrow : is_narrow t.cluster (size_at (as_known t.jobs) a u) ≡ true
  pub group : n.group ≡ group_of (as_known t.jobs) a
  pub small : n.group < 32
  pub priority : n.priority ≡ priority_of (as_known t.jobs) a u
  pub guaranteed : n.guaranteed ≡ is_guaranteed_in (board_of t) t.entries (spot a u 0)
  pub limit : (i : ℕ) → i < t.cluster.resources → slice_index n.limit i ≡ limit_at t.cluster (group_of (as_known t.jobs) a) i
  pub allowed : (i : ℕ) → i < t.cluster.resources → slice_index n.allowed i ≡ usage_at (as_known t.jobs) (group_of (as_known t.jobs) a) i t.entries + size_at (as_known t.jobs) a u i

-- a need of the kind of a unit: all that tells what may be taken for it
pub record IsLike (t : TableRecord) (s : Spot) (n : Need) : Type 0 where
  pub group : n.group ≡ group_of (as_known t.jobs) s.job
  pub priority : n.priority ≡ priority_of (as_known t.jobs) s.job s.unit
  pub guaranteed : n.guaranteed ≡ is_guaranteed_in (board_of t) t.entries s

-- whether any grant of a unit may be taken: of the own group by priority, of another where it spares one
abbrev pub may_take : Need → List GroupUse → Entry → Bool
may_take n groups e = cond (nat_eq e.group n.group) (nat_lt e.priority n.priority) (n.guaranteed && spares (get_or groups e.group no_group) e.size.now.q)

-- a unit of which nothing may be taken on a machine
pub record IsShut (t : TableRecord) (s : Spot) (e : Entry) : Type 0 where
  pub none : 0 < held_on t.entries e.app.0 e.unit.0 s.machine → may_take_in (board_of t) t.entries s [] (spot e.app.0 e.unit.0 s.machine) ≡ false

-- nothing on a machine, by what each of some units has
abbrev pub HasNothingOn : ℕ → Bor (List ℕ) → Type 0
HasNothingOn m row = get_or row.now m 0 ≡ 0

-- by machine what those units have of which any grant may be taken: where these have nothing, nothing may be taken
pub record AreOpen (t : TableRecord) (n : Need) (units : List Entry) (rows : List (Bor (List ℕ))) : Type 0 where
  pub wide : AllByRecursion (λ (row : Bor (List ℕ)). length row.now ≡ length t.cluster.machines) rows
  pub shut : (s : Spot) → IsLike t s n → AllByRecursion (HasNothingOn s.machine) rows → AllByRecursion (IsShut t s) units

-- by machine what is free
pub record IsFree (t : TableRecord) (m : ℕ) (q : List ℕ) : Type 0 where
  pub is : (i : ℕ) → i < t.cluster.resources → slice_index q i + total_at (as_known t.jobs) m i t.entries ≡ has_at t.cluster m i

pub record AreFree (t : TableRecord) (free : List (List ℕ)) : Type 0 where
  pub long : length free ≡ length t.cluster.machines
  pub each : (m : ℕ) (q : List ℕ) → slice_get free m ≡ Some q → IsFree t m q

-- what a search reads
pub record IsSnapshot (t : TableRecord) (s : Snapshot) : Type 0 where
  pub groups : AreGroups t s.groups.now
  pub holders : AreHolders t s.holders.now
  pub read : AreRead t s.holders.now s.counts.now
  pub free : AreFree t s.free.now
