-- What a placer stands for, and when it is level with a table.
use Rattle.std.specs.Prelude.{◌≡◌, ℕ, ℤ, ◌+◌, ◌≤◌, ◌<◌, Bool, true, false, cond, not, nat_eq, nat_lt, ◌&&◌, List, [], ◌*◌, length, filter, Option, None}
use Rattle.std.specs.Option.{option_map}
use Rattle.std.proofs.Common.{get_or}
use Rattle.fuxi_terms.specs.Cluster.{ClusterRecord, JobRecord, has_rack, has_at}
use Rattle.fuxi_terms.specs.Limits.{greatest_count, most_jobs}
use Rattle.fuxi_terms.specs.Tables.{held, held_on, total_at}
use Rattle.fuxi_terms.specs.declared.Key.{Key}
use Rattle.fuxi_terms.specs.Keys.{Spot, key_cmp, spot_cmp, Pair}
use Rattle.fuxi_terms.specs.Counts.{count, set_count}
use Rattle.fuxi_terms.specs.TallyKeys.{want_key, avoid_key}
use Rattle.fuxi_terms.specs.Jobs.{KnownJob, job_of, job_numbers, unit_count, priority_of, size_at, most_of, group_of}
use Rattle.spec_roles.specs.Masters.{out_of}
use Rattle.spec_roles.specs.Placing.{Board, waiting_in, has_pair, is_allowed_in, placeable_in}
use Rattle.std.specs.List.{AllByRecursion, list_any}
use Rattle.std.specs.Ordering.{eq_by_cmp}
use Rattle.grant_table.specs.GrantTables.{TableRecord, IsSound, as_known}
use Rattle.place_pass.specs.WaitingLines.{LineRecord, AllMayWait}
use Rattle.place_pass.specs.Bounds.{MarkRecord, mark_at, key_of, turn_at, IsRising, IsBounded, AreBoundedLater}
use Rattle.place_pass.specs.Cells.{Cell, WishesRecord, asks_in, job_at, unit_places}
use Rattle.place_pass.specs.PlacerTrees.{HoldsLine, AllStand}
use Rattle.locality_tree.specs.Trees.{TreeRecord}

-- what a placer was told: the cluster, the admitted units with what is asked of each, by job number and unit, whether each machine is
-- open, the line of waiting pairs, and the number that the next pair of the line gets
pub record SeenRecord : Type 0 where
  pub cluster : ClusterRecord
  pub cells : List (List Cell)
  pub opened : List Bool
  pub line : List Pair
  pub turns : ℕ

-- what it keeps beside: a mark for each machine, and with 8 places for each job the turn of each pair of the line, and what each unit held when a change of it was told last
pub record KeptRecord : Type 0 where
  pub marks : List MarkRecord
  pub turn_of : List ℕ
  pub held : List ℕ

-- and with that, the tree of the waiting pairs, whether it knows that nothing is placeable, whether then its marks note no group for nothing, and by job number
-- whether nothing was told of the job since the line was brought up to date
pub record PlacerRecord : Type 0 where
  pub seen : SeenRecord
  pub idle : Bool
  pub kept : KeptRecord
  pub tree : TreeRecord
  pub forgotten : Bool
  pub calm : List Bool

-- a placer without what it keeps beside
pub record ToldRecord : Type 0 where
  pub seen : SeenRecord
  pub idle : Bool

abbrev pub told_of : PlacerRecord → ToldRecord
told_of p = record { seen = p.seen; idle = p.idle }

-- of what was told: the admitted job of a number, where there is one, what is asked at each key of a job, and whether a machine is open
abbrev pub job_seen : SeenRecord → ℕ → Option JobRecord
job_seen s a = job_at s.cells a

abbrev pub asks_seen : SeenRecord → ℕ → Key → ℕ
asks_seen s a k = asks_in s.cells a k

abbrev pub is_open : SeenRecord → ℕ → Bool
is_open s m = get_or s.opened m false

-- how many units of a job are admitted
abbrev pub units_seen : SeenRecord → ℕ → ℕ
units_seen s a = length (get_or s.cells a [])

-- a placer and a table have the same cluster and jobs
pub record AreLevel (cluster : ClusterRecord) (job : ℕ → Option JobRecord) (t : TableRecord) : Type 0 where
  pub cluster_is : cluster ≡ t.cluster
  pub jobs_are : (a : ℕ) → job a ≡ option_map (λ (k : KnownJob). k.job) (job_of (as_known t.jobs) a)

-- a machine takes new grants of a unit: it is open, and the unit does not avoid it
abbrev pub is_open_to : List (List Cell) → List Bool → ℕ → ℕ → ℕ → Bool
is_open_to cells machines a u m = get_or machines m false && not (nat_lt 0 (asks_in cells a (avoid_key u m)))

-- and there is such a unit
abbrev pub usable_in : SeenRecord → ℕ → ℕ → ℕ → Bool
usable_in s a u m = nat_lt u (units_seen s a) && is_open_to s.cells s.opened a u m

-- a size needs nothing of a resource that the cluster does not have
abbrev pub IsNarrow : TableRecord → ℕ → ℕ → Type 0
IsNarrow t a u = (i : ℕ) → t.cluster.resources ≤ i → size_at (as_known t.jobs) a u i ≡ 0

-- what placing reads beside the table and the line, taken as serving
abbrev pub board_over : List (List Cell) → List Bool → TableRecord → Board
board_over cells machines t = record {
  cluster = t.cluster;
  priorities = priority_of (as_known t.jobs);
  sizes = size_at (as_known t.jobs);
  mosts = most_of (as_known t.jobs);
  groups = group_of (as_known t.jobs);
  asks = asks_in cells;
  may_use = is_open_to cells machines;
  serving = true;
}

abbrev pub board_with : SeenRecord → TableRecord → Board
board_with s t = board_over s.cells s.opened t

-- no unit of a known job may be granted on any machine
pub record IsIdle (cells : List (List Cell)) (machines : List Bool) (t : TableRecord) : Type 0 where
  pub none : (a u m : ℕ) → u < unit_count (as_known t.jobs) a → m < length t.cluster.machines → placeable_in (board_over cells machines t) t.entries a u m ≡ false

-- What the marks say of the pairs of the line, that turns rise along it, and that what was told of what units hold is so
pub record IsKept (cells : List (List Cell)) (machines : List Bool) (line : List Pair) (turns : ℕ) (k : KeptRecord) (t : TableRecord) : Type 0 where
  pub bounds : (m a u : ℕ) → get_or machines m false ≡ true → has_pair (a, u) line ≡ true → turn_at k.turn_of a u < (mark_at k.marks m).until
      → IsBounded (board_over cells machines t) t.entries (mark_at k.marks m).bound (mark_at k.marks m).groups (turn_at k.turn_of a u) (a, u) m
  pub later : (m : ℕ) → get_or machines m false ≡ true → AreBoundedLater (board_over cells machines t) t.entries cells turns (mark_at k.marks m) m
  pub rises : IsRising (λ (p : Pair). turn_at k.turn_of p.0 p.1) line
  pub below : (a u : ℕ) → has_pair (a, u) line ≡ true → turn_at k.turn_of a u < turns
  pub held : (a u : ℕ) → a < most_jobs → u < 8 → get_or k.held (a * 8 + u) 0 ≡ held t.entries a u

-- no pair may be placeable on an open machine, and each unit with something out stands in the line
pub record IsQuiet (cells : List (List Cell)) (machines : List Bool) (line : List Pair) (turns : ℕ) (marks : List MarkRecord) (t : TableRecord) : Type 0 where
  pub settled : (m : ℕ) → get_or machines m false ≡ true → key_of (mark_at marks m) turns ≡ None
  pub waiting : (a u : ℕ) → u < unit_count (as_known t.jobs) a → 0 < out_of (asks_in cells) t.entries a u → has_pair (a, u) line ≡ true

-- the limit of its group allows each pair of a line one grant more
abbrev pub AreAllowed : TableRecord → List Pair → Type 0
AreAllowed t line = (a u : ℕ) → has_pair (a, u) line ≡ true → is_allowed_in t.cluster (group_of (as_known t.jobs)) (size_at (as_known t.jobs)) t.entries a u ≡ true

-- where they are, no mark of an open machine notes a group
pub record IsClear (machines : List Bool) (line : List Pair) (marks : List MarkRecord) (t : TableRecord) : Type 0 where
  pub clear : AreAllowed t line → (m g : ℕ) → get_or machines m false ≡ true → get_or (mark_at marks m).groups g false ≡ false

-- Of a job of which nothing was told since, exactly the units with something out stand in the line
pub record IsStill (cells : List (List Cell)) (line : List Pair) (calm : List Bool) (t : TableRecord) : Type 0 where
  pub still : (a u : ℕ) → get_or calm a false ≡ true → has_pair (a, u) line ≡ (nat_lt u (unit_count (as_known t.jobs) a) && nat_lt 0 (out_of (asks_in cells) t.entries a u))

-- A placer and a table are of one cluster and have the same jobs, and where the placer is idle nothing is placeable. What a placer keeps beside
-- may grow, and callers need not look into this
pub record IsLevel (p : PlacerRecord) (t : TableRecord) : Type 0 where
  pub level : AreLevel p.seen.cluster (job_seen p.seen) t
  pub idle : p.idle ≡ true → IsIdle p.seen.cells p.seen.opened t
  pub kept : IsKept p.seen.cells p.seen.opened p.seen.line p.seen.turns p.kept t
  pub quiet : p.idle ≡ true → IsQuiet p.seen.cells p.seen.opened p.seen.line p.seen.turns p.kept.marks t
  pub clear : p.idle ≡ true → p.forgotten ≡ true → IsClear p.seen.opened p.seen.line p.kept.marks t
  pub stands : AllStand p.seen.cluster p.seen.cells t.entries p.seen.line p.tree
  pub still : IsStill p.seen.cells p.seen.line p.calm t

unfoldable pub IsLevelWith : PlacerRecord → TableRecord → Type 0
IsLevelWith p t = IsLevel p t

-- the pairs with something out, in the order of job and unit
abbrev pub waiting_with : SeenRecord → TableRecord → List Pair
waiting_with s t = waiting_in (job_numbers (as_known t.jobs)) (unit_count (as_known t.jobs)) (asks_seen s) t.entries

-- the line has exactly the units with something out
abbrev pub IsUpToDate : SeenRecord → TableRecord → Type 0
IsUpToDate s t = (a u : ℕ) → has_pair (a, u) s.line ≡ (nat_lt u (unit_count (as_known t.jobs) a) && nat_lt 0 (out_of (asks_seen s) t.entries a u))

-- a demand counts at keys of units, machines and racks that are there
abbrev pub is_there : ClusterRecord → ℕ → Key → Bool
is_there c units k =
    nat_lt k.unit units
    && (cond (nat_eq k.what 1) (nat_eq k.number 0)
    (cond (nat_eq k.what 2) (nat_lt k.number (length c.machines))
    (cond (nat_eq k.what 3) (has_rack c k.number)
    (nat_eq k.what 4 && nat_lt k.number (length c.machines)))))

abbrev pub asks_after : SeenRecord → ℕ → List (Key × ℕ) → ℕ → Key → ℕ
asks_after s a es b k = cond (nat_eq a b) (cond (is_there s.cluster (units_seen s a) k) (count key_cmp es k) 0) (asks_seen s b k)

-- a demand asks of a job the same as before at each key that these changes do not name
abbrev pub is_named : Key → List (Key × ℤ) → Bool
is_named k cs = list_any (λ (c : Key × ℤ). eq_by_cmp key_cmp k c.0) cs

abbrev pub AsksOtherwiseAt : List (Key × ℤ) → SeenRecord → ℕ → List (Key × ℕ) → Type 0
AsksOtherwiseAt cs s a es = (k : Key) → is_named k cs ≡ false → asks_seen s a k ≡ asks_after s a es a k

-- no want of a job rises, and each unit of it still avoids the machines that it avoided
pub record AsksNoMore (before after : ℕ → Key → ℕ) (a : ℕ) : Type 0 where
  pub wants : (u : ℕ) → after a (want_key u) ≤ before a (want_key u)
  pub avoids : (u m : ℕ) → 0 < before a (avoid_key u m) → 0 < after a (avoid_key u m)

-- what stays of the line when a unit with nothing out leaves it
abbrev pub line_told : SeenRecord → TableRecord → ℕ → ℕ → List Pair
line_told s t a u = cond (nat_lt 0 (out_of (asks_seen s) t.entries a u)) s.line (filter (λ p. not (nat_eq p.0 a && nat_eq p.1 u)) s.line)

-- a table after the number at one spot was set
pub record IsSetFrom (before after : TableRecord) (s : Spot) : Type 0 where
  pub sound : IsSound before
  pub number : ℕ
  pub is : after ≡ record before { entries = set_count spot_cmp before.entries s number }

-- what the fields of a placer show, and what they keep: the line has admitted units alone and all of them may join it, and exactly the pairs of the line wait in the tree
abbrev pub placer_record : WishesRecord → LineRecord → ℕ → Bool → List MarkRecord → List ℕ → List ℕ → TreeRecord → Bool → List Bool → PlacerRecord
placer_record w line turns idle marks turn_of held tree forgotten calm = record { seen = record { cluster = w.cluster; cells = w.cells; opened = w.opened; line = line.pairs; turns = turns }; idle = idle; kept = record { marks = marks; turn_of = turn_of; held = held }; tree = tree; forgotten = forgotten; calm = calm }

pub record IsPlacer (w : WishesRecord) (line : LineRecord) (marks : ℕ) (turn_of : List ℕ) (held : ℕ) (tree : TreeRecord) : Type 0 where
  pub admitted : AllByRecursion (λ (p : Pair). p.1 < length (get_or w.cells p.0 [])) line.pairs
  pub places : length w.cells ≡ most_jobs
  pub units : AllMayWait w.cells line.units
  pub marked : marks ≡ length w.cluster.machines
  pub turn_places : length turn_of ≡ unit_places
  pub held_places : held ≡ unit_places
  pub rises : IsRising (λ (p : Pair). turn_at turn_of p.0 p.1) line.pairs
  pub holds : HoldsLine w.cluster w.cells line.pairs turn_of tree

-- one more grant may be made at a spot: the unit is admitted, the machine is there, has room for it, and has fewer than the greatest count
pub record IsGrantable (t : TableRecord) (s : Spot) : Type 0 where
  pub unit : s.unit < unit_count (as_known t.jobs) s.job
  pub machine : s.machine < length t.cluster.machines
  pub few : held_on t.entries s.job s.unit s.machine < greatest_count
  pub room : (i : ℕ) → total_at (as_known t.jobs) s.machine i t.entries + size_at (as_known t.jobs) s.job s.unit i ≤ has_at t.cluster s.machine i
