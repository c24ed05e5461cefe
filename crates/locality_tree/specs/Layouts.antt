-- How a tree lays out its units and queues. No public clause cites this module.
use Rattle.std.specs.Prelude.{◌≡◌, ◌≢◌, ℕ, zero, suc, ◌+◌, ◌-◌, ◌<◌, ◌≤◌, Bool, true, false, cond, List, [], ◌∷◌, ◌++◌, length, map, replicate, Option, Some, None, is_some, ◌⊎◌}
use Rattle.std.specs.Global.{Vec}
use Rattle.std.specs.List.{sum_by, count_by}
use Rattle.std.specs.Option.{is_none}
use Rattle.std.proofs.Common.{get_or, set}
use Rattle.fuxi_terms.proofs.Members.{In}
use Rattle.fuxi_terms.specs.Limits.{most_jobs, most_units, most_machines, most_racks}
use Rattle.slot_pool.specs.Pools.{PoolRecord, value_at, slot_at, SameSlots}
use Rattle.slot_pool.specs.declared.pool.Slot.{Slot}
use Rattle.wait_queue.specs.declared.node.Entry.{Entry}
use Rattle.wait_queue.specs.declared.node.Node.{Node}
use Rattle.wait_queue.specs.declared.queue.Queue.{Queue}
use Rattle.wait_queue.specs.Queues.{Item, Stands, entry_at}
use Rattle.locality_tree.specs.declared.layout.Layout.{Layout}
use Rattle.locality_tree.specs.declared.layout.UnitSlots.{UnitSlots}
use Rattle.locality_tree.specs.declared.place_set.PlaceSet.{PlaceSet}
use Rattle.locality_tree.specs.Trees.{UnitState, TreeRecord, unit_number, all_units, place_count, cluster_place}
use Rattle.locality_tree.specs.PlaceSets.{no_set, is_marked}

-- what the units have at their places, by the unit's number and then by place
abbrev pub Places : Type 0 → Type 0
Places A = List (List A)

abbrev pub Slots : Type 0
Slots = Places (Option Slot)

abbrev pub slot_in : Slots → ℕ → ℕ → Option Slot
slot_in slots n place = get_or (get_or slots n []) place None

abbrev pub number_in : Places ℕ → ℕ → ℕ → ℕ
number_in rows n place = get_or (get_or rows n []) place 0

abbrev pub with_slot : {A : Type 0} → Places A → ℕ → ℕ → A → Places A
with_slot rows n place x = set rows n (set (get_or rows n []) place x)

-- so many units from the first on have places, with the same at each
abbrev pub with_places : {A : Type 0} → A → Places A → ℕ → ℕ → ℕ → Places A
with_places x rows first places zero = rows
with_places x rows first places (suc n) = set (with_places x rows first places n) (first + n) (replicate places x)

-- so many units from the first on have places without a slot
abbrev pub with_vacant : Slots → ℕ → ℕ → ℕ → Slots
with_vacant slots first places n = with_places None slots first places n

abbrev pub rows_of : List (Vec ℕ) → Places ℕ
rows_of rows = map (λ v. v.items) rows

-- the numbers that are noted of all units: what is beyond the list has no place
abbrev pub numbers_of : List UnitSlots → Places ℕ
numbers_of units = map (λ u. u.numbers.items) units ++ replicate (all_units - length units) []

-- the sets of the places at which the units stand
abbrev pub sets_of : List UnitSlots → List PlaceSet
sets_of units = map (λ u. u.places) units

-- the slot of a number in its present generation, where there is one
abbrev pub slot_under : PoolRecord Node → Bool → ℕ → Option Slot
slot_under pool false number = None
slot_under pool true number = Some (slot_at pool number)

-- what is seen of each of a list, with its place
abbrev pub by_place : {A B : Type 0} → (ℕ → A → B) → ℕ → List A → List B
by_place see k [] = []
by_place see k (x ∷ xs) = see k x ∷ by_place see (suc k) xs

-- Of a slot its number alone is noted. A unit has one where the place is in its set; that is live, so its generation is the present one.
abbrev pub slots_seen : PoolRecord Node → List PlaceSet → Places ℕ → Slots
slots_seen pool sets rows = by_place (λ n row. by_place (λ k x. slot_under pool (is_marked sets n k) x) 0 row) 0 rows

abbrev pub slots_of : Layout → Slots
slots_of p = slots_seen p.pool (sets_of p.slots.items) (numbers_of p.slots.items)

abbrev pub number_of : Entry → ℕ
number_of e = unit_number e.app.0 e.unit.0

abbrev pub HasNumber : Entry → Type 0
HasNumber e = (e.app.0 < most_jobs) × (e.unit.0 < most_units)

-- a queue by priority with no entry, whatever pool it stands in
abbrev pub IsEmptyQueue : Queue → Type 0
IsEmptyQueue q = ((at : Slot → Option Node) → Stands at q []) × (q.key_first ≡ true)

-- the entry that stands at a slot
abbrev pub entry_in : (Slot → Option Node) → Option Slot → Option Entry
entry_in at None = None
entry_in at (Some s) = entry_at at s

-- how many places of the units have no slot
abbrev pub vacancies : Slots → ℕ
vacancies slots = sum_by (λ places. count_by is_none places) slots

-- two lists share no slot
abbrev pub AreApart : List Item → List Item → Type 0
AreApart items theirs = (s : Slot) (e f : Entry) → In (s, e) items → In (s, f) theirs → ⊥

-- The queue at a place: it stands in the pool as these items, by priority, and these are the slots that the units have there.
pub record IsQueueAt (at : Slot → Option Node) (q : Queue) (slots : Slots) (place : ℕ) (items : List Item) : Type 0 where
  pub stands : Stands at q items
  pub by_priority : q.key_first ≡ true
  pub numbers : (i : Item) → In i items → HasNumber i.1
  pub noted : (i : Item) → In i items → slot_in slots (number_of i.1) place ≡ Some i.0
  pub all : (n : ℕ) (s : Slot) → slot_in slots n place ≡ Some s → (e : Entry) × In (s, e) items × (number_of e ≡ n)

-- What is always so of a pool, the queues that stand in it, the slots that units have there, and the sets of these units.
pub record AreKept (at : Slot → Option Node) (spare : ℕ) (queues : List Queue) (slots : Slots) (sets : List PlaceSet) : Type 0 where
  pub lists : ℕ → List Item
  pub queues_stand : (place : ℕ) (q : Queue) → place < length queues → IsQueueAt at (get_or queues place q) slots place (lists place)
  pub apart : (place other : ℕ) → place < length queues → other < length queues → place ≢ other → AreApart (lists place) (lists other)
  pub room : vacancies slots ≤ spare
  pub full : (n : ℕ) → (length (get_or slots n []) ≡ 0) ⊎ (length (get_or slots n []) ≡ length queues)
  pub few : length queues ≤ 384
  pub marked : (n place : ℕ) → place < length queues → is_marked sets n place ≡ is_some (slot_in slots n place)

abbrev pub AreKeptIn : Layout → Type 0
AreKeptIn p = AreKept (value_at p.pool) p.pool.spare p.queues.items (slots_of p) (sets_of p.slots.items)

-- an entry of which the unit is admitted, which is its unit's wherever that stands, and has no other's turn
pub record EntryFits (at : Slot → Option Node) (count : ℕ) (slots : Slots) (e : Entry) (place : ℕ) : Type 0 where
  pub number : HasNumber e
  pub inside : place < length (get_or slots (number_of e) [])
  pub queued : place < count
  pub same : (k : ℕ) (f : Entry) → entry_in at (slot_in slots (number_of e) k) ≡ Some f → f ≡ e
  pub alone : (n k : ℕ) (f : Entry) → entry_in at (slot_in slots n k) ≡ Some f → f.turn ≡ e.turn → n ≡ number_of e

abbrev pub EntryFitsIn : Layout → Entry → ℕ → Type 0
EntryFitsIn p e place = EntryFits (value_at p.pool) (length p.queues.items) (slots_of p) e place

-- One unit stands at a place or does not, and at every other place stands the entry that stood there.
pub record Turned (before : Slot → Option Node) (olds : Slots) (after : Slot → Option Node) (slots : Slots) (e : Entry) (place : ℕ) (stands : Bool) : Type 0 where
  pub slot : Option Slot
  pub noted : slots ≡ with_slot olds (number_of e) place slot
  pub marked : is_some slot ≡ stands
  pub here : entry_in after slot ≡ cond stands (Some e) None
  pub others : (n k : ℕ) → (n ≡ number_of e → k ≡ place → ⊥) → entry_in after (slot_in slots n k) ≡ entry_in before (slot_in olds n k)

abbrev pub TurnedIn : Layout → Layout → Entry → ℕ → Bool → Type 0
TurnedIn old new e place stands = Turned (value_at old.pool) (slots_of old) (value_at new.pool) (slots_of new) e place stands

-- One unit stands at none of the places below this one, and every other unit stands as before.
pub record Left (before : Slot → Option Node) (olds : Slots) (after : Slot → Option Node) (slots : Slots) (e : Entry) (below : ℕ) : Type 0 where
  pub count : length slots ≡ length olds
  pub width : length (get_or slots (number_of e) []) ≡ length (get_or olds (number_of e) [])
  pub gone : (k : ℕ) → k < below → slot_in slots (number_of e) k ≡ None
  pub own : (k : ℕ) (f : Entry) → entry_in after (slot_in slots (number_of e) k) ≡ Some f → f ≡ e
  pub others : (n : ℕ) → n ≢ number_of e → get_or slots n [] ≡ get_or olds n []
  pub entries : (n k : ℕ) → n ≢ number_of e → entry_in after (slot_in slots n k) ≡ entry_in before (slot_in olds n k)

abbrev pub LeftIn : Layout → Layout → Entry → ℕ → Type 0
LeftIn old new e below = Left (value_at old.pool) (slots_of old) (value_at new.pool) (slots_of new) e below

-- A unit may leave its queues: in some layout it has these numbers and this set, and an entry of it fits.
pub record MayLeave (pool : PoolRecord Node) (queues : List Queue) (unit : UnitSlots) : Type 0 where
  pub rows : Places ℕ
  pub sets : List PlaceSet
  pub entry : Entry
  pub numbers : get_or rows (number_of entry) [] ≡ unit.numbers.items
  pub places : get_or sets (number_of entry) no_set ≡ unit.places
  pub kept : AreKept (value_at pool) pool.spare queues (slots_seen pool sets rows) sets
  pub fits : (place : ℕ) → place < length queues → EntryFits (value_at pool) (length queues) (slots_seen pool sets rows) entry place

-- the unit of this number has an empty set, and every other the set that it had
pub record AreWithout (olds news : List PlaceSet) (n : ℕ) : Type 0 where
  pub none : (k : ℕ) → is_marked news n k ≡ false
  pub others : (m k : ℕ) → m ≢ n → is_marked news m k ≡ is_marked olds m k

-- the unit stands at none of the places below this one, where the sets are these then
pub record HasLeft (old new : PoolRecord Node) (olds news : List Queue) (unit : UnitSlots) (may : MayLeave old olds unit) (sets : List PlaceSet) (below : ℕ) : Type 0 where
  pub kept : AreKept (value_at new) new.spare news (slots_seen new sets may.rows) sets
  pub count : length news ≡ length olds
  pub left : Left (value_at old) (slots_seen old may.sets may.rows) (value_at new) (slots_seen new sets may.rows) may.entry below

-- so many units from the first on have places, at none of which they stand, and nothing else changes
pub record Admits (old new : Layout) (first units : ℕ) : Type 0 where
  pub kept : AreKeptIn new
  pub count : length new.queues.items ≡ length old.queues.items
  pub slots : slots_of new ≡ with_vacant (slots_of old) first (length old.queues.items) units
  pub same : SameSlots old.pool new.pool

-- one place is in the set of a unit or is not, and nothing else changes
pub record IsNoted (olds news : List PlaceSet) (n place : ℕ) (stands : Bool) : Type 0 where
  pub here : is_marked news n place ≡ stands
  pub others : (m k : ℕ) → (m ≡ n → k ≡ place → ⊥) → is_marked news m k ≡ is_marked olds m k

-- there may be more units than before, without a place
pub record IsGrown (olds news : List UnitSlots) : Type 0 where
  pub numbers : numbers_of news ≡ numbers_of olds
  pub sets : (n k : ℕ) → is_marked (sets_of news) n k ≡ is_marked (sets_of olds) n k

abbrev pub state_of : (Slot → Option Node) → ℕ → List (Option Slot) → UnitState
state_of at last places = record { entry = entry_in at (get_or places last None); stands = map is_some places }

abbrev pub states_in : List ℕ → Layout → List UnitState
states_in racks p = map (state_of (value_at p.pool) (cluster_place racks)) (slots_of p)

abbrev pub tree_record : List ℕ → Layout → TreeRecord
tree_record racks p = record { racks = racks; units = states_in racks p }

-- what stands at a unit's place is an entry of the unit, with which it stands in the cluster's queue too
abbrev pub IsOwn : (Slot → Option Node) → Slots → ℕ → ℕ → Entry → Type 0
IsOwn at slots last n e = (n ≡ number_of e) × (entry_in at (slot_in slots n last) ≡ Some e)

-- What is always so of a tree.
pub record IsTree (racks : List ℕ) (p : Layout) : Type 0 where
  pub kept : AreKeptIn p
  pub machines : length racks ≤ most_machines
  pub in_racks : (m : ℕ) → m < length racks → get_or racks m 0 < most_racks
  pub queue_count : length p.queues.items ≡ place_count racks
  pub unit_count : length (slots_of p) ≡ all_units
  pub one_entry : (n k : ℕ) (e : Entry) → entry_in (value_at p.pool) (slot_in (slots_of p) n k) ≡ Some e → IsOwn (value_at p.pool) (slots_of p) (cluster_place racks) n e
  pub turns : (n m : ℕ) (e f : Entry) → entry_in (value_at p.pool) (slot_in (slots_of p) n (cluster_place racks)) ≡ Some e → entry_in (value_at p.pool) (slot_in (slots_of p) m (cluster_place racks)) ≡ Some f → e.turn ≡ f.turn → n ≡ m
