-- What the program's entries, needs, groups and shelves stand for.
use Rattle.std.specs.Prelude.{◌≡◌, ℕ, ◌+◌, ◌<◌, ◌≤◌, Bool, true, false, List, [], length, map, filter, get_or, slice_index}
use Rattle.std.specs.List.{AllByRecursion}
use Rattle.fuxi_terms.specs.Cluster.{has_at, limit_at, quota_at, is_narrow}
use Rattle.fuxi_terms.specs.Keys.{Spot, Pair}
use Rattle.fuxi_terms.specs.Jobs.{priority_of, group_of, size_at, most_of, unit_of, unit_count}
use Rattle.fuxi_terms.specs.Tables.{spot, total_at, usage_at}
use Rattle.spec_roles.specs.Placing.{Board}
use Rattle.spec_roles.specs.Preemption.{is_guaranteed_in}
use Rattle.grant_table.specs.GrantTables.{TableRecord, as_known}
use Rattle.preempt.specs.Counted.{entries_on, counted_taken, counted_kept, all_spared, counts_some}
use Rattle.preempt.specs.declared.plan.Victim.{Victim}
use Rattle.preempt.specs.declared.entry.Entry.{Entry}
use Rattle.preempt.specs.declared.entry.Need.{Need}
use Rattle.preempt.specs.declared.entry.GroupUse.{GroupUse}

-- the board of a table, for those who may use what is said
abbrev pub board_at : TableRecord → (ℕ → ℕ → ℕ → Bool) → Board
board_at t usable = record {
  cluster = t.cluster;
  priorities = priority_of (as_known t.jobs);
  sizes = size_at (as_known t.jobs);
  mosts = most_of (as_known t.jobs);
  groups = group_of (as_known t.jobs);
  asks = λ a k. 0;
  may_use = usable;
  serving = true;
}

-- and where nothing asks for that
abbrev pub board_of : TableRecord → Board
board_of t = board_at t (λ a u m. false)

abbrev pub no_group : GroupUse
no_group = record { bounds = record { ref_ptr = (0, 0); now = record { quota = record { q = [] }; limit = record { q = [] } } }; used = record { q = [] } }

abbrev pub written : ℕ → Entry → Spot × ℕ
written m e = (spot e.app.0 e.unit.0 m, e.count)

abbrev pub pair_of : Entry → Pair
pair_of e = (e.app.0, e.unit.0)

-- an entry names an admitted unit, and has its group, priority and size
pub record IsEntry (t : TableRecord) (e : Entry) : Type 0 where
  pub unit : e.unit.0 < unit_count (as_known t.jobs) e.app.0
  pub group : e.group ≡ group_of (as_known t.jobs) e.app.0
  pub small : e.group < 32
  pub priority : e.priority ≡ priority_of (as_known t.jobs) e.app.0 e.unit.0
  pub size : e.size.now.q ≡ (unit_of (as_known t.jobs) e.app.0 e.unit.0).size

-- what one more grant at s needs
pub record IsNeed (t : TableRecord) (s : Spot) (n : Need) : Type 0 where
  pub resources : n.resources ≡ t.cluster.resources
  pub narrow : is_narrow t.cluster (size_at (as_known t.jobs) s.job s.unit) ≡ true
  pub group : n.group ≡ group_of (as_known t.jobs) s.job
  pub priority : n.priority ≡ priority_of (as_known t.jobs) s.job s.unit
  pub guaranteed : n.guaranteed ≡ is_guaranteed_in (board_of t) t.entries s
  pub has : (i : ℕ) → i < t.cluster.resources → slice_index n.has i ≡ has_at t.cluster s.machine i
  pub fits : (i : ℕ) → i < t.cluster.resources → slice_index n.fits i ≡ total_at (as_known t.jobs) s.machine i t.entries + size_at (as_known t.jobs) s.job s.unit i
  pub limit : (i : ℕ) → i < t.cluster.resources → slice_index n.limit i ≡ limit_at t.cluster (group_of (as_known t.jobs) s.job) i
  pub allowed : (i : ℕ) → i < t.cluster.resources → slice_index n.allowed i ≡ usage_at (as_known t.jobs) (group_of (as_known t.jobs) s.job) i t.entries + size_at (as_known t.jobs) s.job s.unit i

-- what a group is promised, may use and uses: nothing of a resource that the cluster does not have
pub record IsGroup (t : TableRecord) (g : ℕ) (x : GroupUse) : Type 0 where
  pub quota : (i : ℕ) → slice_index x.bounds.now.quota.q i ≡ quota_at t.cluster g i
  pub limit : (i : ℕ) → slice_index x.bounds.now.limit.q i ≡ limit_at t.cluster g i
  pub used : (i : ℕ) → slice_index x.used.q i ≡ usage_at (as_known t.jobs) g i t.entries
  pub beyond : (i : ℕ) → t.cluster.resources ≤ i → (quota_at t.cluster g i ≡ 0) × (usage_at (as_known t.jobs) g i t.entries ≡ 0)

pub record AreGroups (t : TableRecord) (groups : List GroupUse) : Type 0 where
  pub long : length groups ≡ 32
  pub each : (g : ℕ) → g < 32 → IsGroup t g (get_or groups g no_group)

abbrev pub recounted : Entry → ℕ → Entry
recounted e n = record e { count = n }

-- entries in the order of the walk, for one more at s
pub record AreGiven (t : TableRecord) (s : Spot) (entries : List Entry) (n : Need) (groups : List GroupUse) : Type 0 where
  pub walk : map (written s.machine) entries ≡ entries_on (board_of t) t.entries s.machine
  pub each : AllByRecursion (IsEntry t) entries
  pub need : IsNeed t s n
  pub groups_are : AreGroups t groups

-- the victim that an entry stands for
abbrev pub victim_of : Entry → Victim
victim_of e = record { app = e.app; unit = e.unit; count = e.count }

-- of entries on a machine what their groups spare, whoever it is for, where they spare any
pub record AreSpared (t : TableRecord) (m : ℕ) (entries spared : List Entry) : Type 0 where
  pub each : AllByRecursion (IsEntry t) spared
  pub counted : map (written m) spared ≡ filter counts_some (all_spared (map (written m) entries) (board_of t) t.entries [])

-- what is taken of entries, and what is kept of that
pub record IsTaken (t : TableRecord) (s : Spot) (entries set : List Entry) : Type 0 where
  pub each : AllByRecursion (IsEntry t) set
  pub counted : map (written s.machine) set ≡ counted_taken (map (written s.machine) entries) (board_of t) t.entries s []

pub record IsKept (t : TableRecord) (s : Spot) (set kept : List Entry) : Type 0 where
  pub each : AllByRecursion (IsEntry t) kept
  pub counted : map (written s.machine) kept ≡ counted_kept (map (written s.machine) set) (board_of t) t.entries s []
