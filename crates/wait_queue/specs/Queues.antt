-- Queues as lists of slots and entries, and how they stand in a pool.
use Rattle.std.specs.Prelude.{◌≡◌, ◌≢◌, ℕ, ◌+◌, ◌*◌, ◌-◌, ◌<◌, ◌^◌, ⊤, Bool, true, cond, nat_eq, nat_lt, min, List, [], ◌∷◌, ◌++◌, get_or, Option, Some, None, option_map}
use Rattle.std.specs.List.{AllByRecursion}
use Rattle.slot_pool.specs.declared.pool.Slot.{Slot}
use Rattle.wait_queue.specs.declared.node.Entry.{Entry}
use Rattle.wait_queue.specs.declared.node.Link.{Link}
use Rattle.wait_queue.specs.declared.node.Node.{Node}
use Rattle.wait_queue.specs.declared.queue.Queue.{Queue}

abbrev pub Item : Type 0
Item = Slot × Entry

-- greater priority first where that counts, then smaller turn
abbrev pub is_before : Bool → Entry → Entry → Bool
is_before key_first one other = cond (cond key_first (nat_eq one.priority other.priority) true) (nat_lt one.turn other.turn) (nat_lt other.priority one.priority)

-- the numbers of an entry are those of their types
abbrev pub IsInRange : Entry → Type 0
IsInRange e = (e.turn < 2 ^ 64) × (e.priority < 2 ^ 8)

-- among entries in range, a number that rises along the order
abbrev pub rank : Bool → Entry → ℕ
rank key_first e = cond key_first ((255 - e.priority) * 2 ^ 64) 0 + e.turn

-- all stand before the entry; all stand behind it
abbrev pub AreBefore : Bool → Entry → List Item → Type 0
AreBefore key_first e items = AllByRecursion (λ (i : Item). is_before key_first i.1 e ≡ true) items

abbrev pub AreBehind : Bool → Entry → List Item → Type 0
AreBehind key_first e items = AllByRecursion (λ (i : Item). is_before key_first e i.1 ≡ true) items

abbrev pub IsInOrder : Bool → List Item → Type 0
IsInOrder key_first [] = ⊤
IsInOrder key_first (i ∷ is) = AreBehind key_first i.1 is × IsInOrder key_first is

-- the slot is none of theirs
abbrev pub IsOutside : Slot → List Item → Type 0
IsOutside slot items = AllByRecursion (λ (i : Item). i.0 ≢ slot) items

-- the two lists share no slot
abbrev pub Apart : List Item → List Item → Type 0
Apart items theirs = AllByRecursion (λ (i : Item). IsOutside i.0 items) theirs

-- the first slot of a list, and where there is none this one; the last slot, and where there is none this one
abbrev pub first_of : List Item → Option Slot → Option Slot
first_of [] next = next
first_of (i ∷ is) next = Some i.0

abbrev pub last_of : Option Slot → List Item → Option Slot
last_of before [] = before
last_of before (i ∷ is) = last_of (Some i.0) is

-- the band of an entry among ten: its priority, and one band for all from 9 on; a single band where only turns count
abbrev pub band : Bool → Entry → ℕ
band key_first e = cond key_first (min e.priority 9) 0

-- the last slot of a band, and where there is none this one
abbrev pub band_end : Bool → ℕ → Option Slot → List Item → Option Slot
band_end key_first b found [] = found
band_end key_first b found (i ∷ is) = band_end key_first b (cond (nat_eq (band key_first i.1) b) (Some i.0) found) is

-- A link has the number of its slot and one more, and 0 where it leads to none. Of the slots of that number one alone is live.
abbrev pub link : Option Slot → Link
link None = record { 0 = 0 }
link (Some s) = record { 0 = s.number + 1 }

-- the entry that stands at a slot, where `at` is the finite map of a pool
abbrev pub entry_at : (Slot → Option Node) → Slot → Option Entry
entry_at at slot = option_map (λ (n : Node). n.entry) (at slot)

-- The nodes of these items are linked in this order, where this slot stands before the first and that one behind the last.
abbrev pub AreLinked : (Slot → Option Node) → Option Slot → List Item → Option Slot → Type 0
AreLinked at before [] next = ⊤
AreLinked at before (i ∷ is) next = (at i.0 ≡ Some (record { entry = i.1; before = link before; behind = link (first_of is next) })) × AreLinked at (Some i.0) is next

-- A queue stands in a pool as a list of slots and entries: the slots are live and their nodes hold these entries and links, and the entries are in order; the queue knows the last slot of each band.
pub record Stands (at : Slot → Option Node) (q : Queue) (items : List Item) : Type 0 where
  pub linked : AreLinked at None items None
  pub starts : q.first ≡ first_of items None
  pub ends : (b : ℕ) → get_or q.ends b (link None) ≡ link (band_end q.key_first b None items)
  pub ordered : IsInOrder q.key_first items
  pub in_range : AllByRecursion (λ (i : Item). IsInRange i.1) items

-- the queue stands as these two lists, and the entry's place is between them
pub record IsPlace (at : Slot → Option Node) (q : Queue) (e : Entry) (front back : List Item) : Type 0 where
  pub stands : Stands at q (front ++ back)
  pub front_before : AreBefore q.key_first e front
  pub back_behind : AreBehind q.key_first e back

-- a queue has a place for an entry
pub record HasPlace (at : Slot → Option Node) (q : Queue) (e : Entry) : Type 0 where
  pub front : List Item
  pub back : List Item
  pub is_place : IsPlace at q e front back

-- a queue stands in the pool, and no entry there has this one's turn
pub record MayEnter (at : Slot → Option Node) (q : Queue) (e : Entry) : Type 0 where
  pub items : List Item
  pub stands : Stands at q items
  pub new : AllByRecursion (λ (i : Item). i.1.turn ≢ e.turn) items

-- a queue stands in the pool, and the slot is in it
pub record IsIn (at : Slot → Option Node) (q : Queue) (slot : Slot) : Type 0 where
  pub front : List Item
  pub entry : Entry
  pub back : List Item
  pub stands : Stands at q (front ++ (slot, entry) ∷ back)
