-- What there is room for on a machine, once all that may be taken there is gone.
use Rattle.std.specs.Prelude.{◌≡◌, ℕ, ◌<◌, ◌≤◌, Bool, true, not, nat_lt, List, None, Some, length, slice_get, slice_index}
use Rattle.fuxi_terms.specs.Cluster.{is_narrow}
use Rattle.fuxi_terms.specs.Jobs.{priority_of, group_of, size_at}
use Rattle.fuxi_terms.specs.Tables.{spot}
use Rattle.spec_roles.specs.Preemption.{is_guaranteed_in, victims_in}
use Rattle.grant_table.specs.GrantTables.{TableRecord, as_known}
use Rattle.preempt.specs.declared.entry.Entry.{Entry}
use Rattle.preempt.specs.declared.entry.Need.{Need}
use Rattle.preempt.specs.declared.entry.Sums.{Sums}
use Rattle.preempt.specs.declared.room.Rooms.{Rooms}
use Rattle.preempt.specs.Given.{board_of}

-- in one resource: a size needs no more than there is room for
abbrev pub within_at : List ℕ → List ℕ → ℕ → Bool
within_at size room i = not (nat_lt (slice_index room i) (slice_index size i))

-- no unit of a group and a priority, with quota left for one more or not, has victims on a machine where it needs more than this
pub record IsRoom (t : TableRecord) (g p : ℕ) (guaranteed : Bool) (m : ℕ) (room : List ℕ) : Type 0 where
  pub beyond : (a u i : ℕ) → g ≡ group_of (as_known t.jobs) a → p ≡ priority_of (as_known t.jobs) a u → guaranteed ≡ is_guaranteed_in (board_of t) t.entries (spot a u m)
      → i < t.cluster.resources → slice_index room i < size_at (as_known t.jobs) a u i → victims_in (board_of t) t.entries (spot a u m) ≡ None

-- in each of so many resources a room is not above another list
pub record IsNarrower (resources : ℕ) (wide room : List ℕ) : Type 0 where
  pub each : (i : ℕ) → i < resources → slice_index room i ≤ slice_index wide i

-- for each machine the room, and what none of them goes beyond
pub record AreRooms (t : TableRecord) (r : Rooms) : Type 0 where
  pub long : length r.each.items ≡ length t.cluster.machines
  pub rooms : (m : ℕ) (x : Sums) → slice_get r.each.items m ≡ Some x → IsRoom t r.group r.priority r.guaranteed m x.q
  pub narrower : (m : ℕ) (x : Sums) → slice_get r.each.items m ≡ Some x → IsNarrower t.cluster.resources r.widest x.q

-- the rooms are for units of the kind of a need
pub record IsFor (n : Need) (r : Rooms) : Type 0 where
  pub group : r.group ≡ n.group
  pub priority : r.priority ≡ n.priority
  pub guaranteed : r.guaranteed ≡ n.guaranteed

-- the rooms are for units of a group and a priority, with quota left for one more or not
pub record IsKind (g p : ℕ) (b : Bool) (r : Rooms) : Type 0 where
  pub group : r.group ≡ g
  pub priority : r.priority ≡ p
  pub guaranteed : r.guaranteed ≡ b

-- the place of such rooms among others
pub record IsPlaceOf (g p : ℕ) (b : Bool) (kinds : List Rooms) (place : ℕ) : Type 0 where
  pub inside : place < length kinds
  pub is : (r : Rooms) → slice_get kinds place ≡ Some r → IsKind g p b r

-- the rooms are for units of the kind of an entry
pub record IsKindOf (t : TableRecord) (e : Entry) (r : Rooms) : Type 0 where
  pub group : r.group ≡ e.group
  pub priority : r.priority ≡ e.priority
  pub guaranteed : is_narrow t.cluster (size_at (as_known t.jobs) e.app.0 e.unit.0) ≡ true → r.guaranteed ≡ is_guaranteed_in (board_of t) t.entries (spot e.app.0 e.unit.0 0)

-- by machine the room for what is needed
pub record AreRoomsFor (t : TableRecord) (n : Need) (rooms : List Sums) : Type 0 where
  pub long : length rooms ≡ length t.cluster.machines
  pub each : (m : ℕ) (x : Sums) → slice_get rooms m ≡ Some x → IsRoom t n.group n.priority n.guaranteed m x.q
