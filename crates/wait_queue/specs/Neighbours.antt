-- A tie of a node to a neighbour, and a walk from neighbour to neighbour. No public clause cites this module.
use Rattle.std.specs.Prelude.{◌≡◌, ◌≢◌, ℕ, Bool, false, cond, nat_eq, List, [], ◌∷◌, ◌++◌, get_or, set, Option, Some, None}
use Rattle.std.specs.List.{AllByRecursion}
use Rattle.slot_pool.specs.declared.pool.Slot.{Slot}
use Rattle.wait_queue.specs.declared.node.Entry.{Entry}
use Rattle.wait_queue.specs.declared.node.Link.{Link}
use Rattle.wait_queue.specs.declared.node.Node.{Node}
use Rattle.wait_queue.specs.Queues.{Item, IsInRange, AreBefore, AreBehind, IsInOrder, last_of, band, link, entry_at, AreLinked}

-- What a tie changes: the node at one slot, where there is one.
pub record Relinked (before after : Slot → Option Node) (slot : Option Slot) (change : Node → Node) : Type 0 where
  pub changed : (s : Slot) (n : Node) → slot ≡ Some s → before s ≡ Some n → after s ≡ Some (change n)
  pub others : (s : Slot) → slot ≢ Some s → after s ≡ before s

abbrev pub with_behind : Link → Node → Node
with_behind to n = record n { behind = to }

abbrev pub with_before : Link → Node → Node
with_before to n = record n { before = to }

-- what stands behind a slot, and where there is none what stands first
abbrev pub Follows : (Slot → Option Node) → Option Slot → Option Slot → Option Slot → Type 0
Follows at None first next = first ≡ next
Follows at (Some s) first next = (n : Node) → at s ≡ Some n → n.behind ≡ link next

-- whether an entry of the band stands at the slot, where there is one
abbrev pub is_in : Bool → ℕ → Option Entry → Bool
is_in key_first b None = false
is_in key_first b (Some e) = nat_eq (band key_first e) b

abbrev pub has_band : (Slot → Option Node) → Bool → ℕ → Option Slot → Bool
has_band at key_first b None = false
has_band at key_first b (Some s) = is_in key_first b (entry_at at s)

-- the first link that leads to a slot
abbrev pub nearest : List Link → Link
nearest [] = link None
nearest (l ∷ ls) = cond (nat_eq l.0 0) (nearest ls) l

-- the ends of bands where the entry at the end of one is taken, and this one stands before it
abbrev pub ends_without : (Slot → Option Node) → Bool → List Link → ℕ → Link → Option Slot → Link → List Link
ends_without at key_first ends b own before to = cond (nat_eq (get_or ends b (link None)).0 own.0) (set ends b (cond (has_band at key_first b before) to (link None))) ends

-- A walk back from a slot: the nodes up to there are linked and in order, the front ones stand before the entry and the middle ones behind it.
pub record Walks (at : Slot → Option Node) (start : Option Slot) (key_first : Bool) (e : Entry) (front middle : List Item) (next : Option Slot) : Type 0 where
  pub linked : AreLinked at None (front ++ middle) next
  pub starts : start ≡ last_of None (front ++ middle)
  pub ordered : IsInOrder key_first (front ++ middle)
  pub in_range : AllByRecursion (λ (i : Item). IsInRange i.1) (front ++ middle)
  pub front_before : AreBefore key_first e front
  pub middle_behind : AreBehind key_first e middle

-- there is something to walk
pub record CanWalk (at : Slot → Option Node) (start : Option Slot) (key_first : Bool) (e : Entry) : Type 0 where
  pub front : List Item
  pub middle : List Item
  pub next : Option Slot
  pub walks : Walks at start key_first e front middle next
