-- What a walk over three queues has left.
use Rattle.std.specs.Prelude.{◌≡◌, ℕ, ◌&&◌, ◌||◌, ◌<◌, ⊤, Bool, true, false, not, cond, nat_lt, List, [], ◌∷◌, ◌++◌, Option, Some, None}
use Rattle.std.specs.Option.{option_map}
use Rattle.fuxi_terms.proofs.Members.{In}
use Rattle.slot_pool.specs.Pools.{value_at}
use Rattle.slot_pool.specs.declared.pool.Slot.{Slot}
use Rattle.wait_queue.specs.declared.node.Entry.{Entry}
use Rattle.wait_queue.specs.declared.node.Node.{Node}
use Rattle.wait_queue.specs.declared.queue.Queue.{Queue}
use Rattle.wait_queue.specs.Queues.{Item, Stands, first_of}
use Rattle.locality_tree.specs.declared.path.Path.{Path}
use Rattle.locality_tree.specs.declared.place_set.PlaceSet.{PlaceSet}
use Rattle.locality_tree.specs.Trees.{RankedEntry, IsRanked}
use Rattle.locality_tree.specs.Layouts.{HasNumber, number_of, entry_in, sets_of}
use Rattle.locality_tree.specs.PlaceSets.{is_marked}

-- whether the entry's unit stands at one of two places
abbrev pub is_at_either : List PlaceSet → ℕ → ℕ → Entry → Bool
is_at_either sets one other e = is_marked sets (number_of e) one || is_marked sets (number_of e) other

abbrev pub nothing : Entry → Bool
nothing e = false

-- the entries of a list that are not skipped, at a level
abbrev pub unskipped : (Entry → Bool) → ℕ → List Item → List RankedEntry
unskipped skips level [] = []
unskipped skips level (i ∷ is) = cond (skips i.1) (unskipped skips level is) ((i.1, level) ∷ unskipped skips level is)

-- nothing is skipped at the head
abbrev pub Stops : (Entry → Bool) → List Item → Type 0
Stops skips [] = ⊤
Stops skips (i ∷ is) = skips i.1 ≡ false

-- a slot in a queue, and what stands there from it on
pub record IsTail (at : Slot → Option Node) (q : Queue) (o : Option Slot) (tail : List Item) : Type 0 where
  pub done : List Item
  pub stands : Stands at q (done ++ tail)
  pub by_priority : q.key_first ≡ true
  pub here : o ≡ first_of tail None
  pub numbers : (i : Item) → In i tail → HasNumber i.1

pub record HasTail (at : Slot → Option Node) (q : Queue) (o : Option Slot) : Type 0 where
  pub tail : List Item
  pub is_tail : IsTail at q o tail

-- how far a walk came from a tail on, with nothing passed but what is skipped
pub record Passed (at : Slot → Option Node) (q : Queue) (skips : Entry → Bool) (tail : List Item) (o : Option Slot) : Type 0 where
  pub left : List Item
  pub is_tail : IsTail at q o left
  pub same : (level : ℕ) → unskipped skips level tail ≡ unskipped skips level left

-- the same, as far as to the first that is not skipped
pub record SkipsTo (at : Slot → Option Node) (q : Queue) (skips : Entry → Bool) (tail : List Item) (o : Option Slot) : Type 0 where
  pub passed : Passed at q skips tail o
  pub stops : Stops skips passed.left

-- the priority of the entry at a slot
abbrev pub priority_in : (Slot → Option Node) → Option Slot → Option ℕ
priority_in at o = option_map (λ (e : Entry). e.priority) (entry_in at o)

abbrev pub at_most : Option ℕ → ℕ → Bool
at_most None most = true
at_most (Some p) most = not (nat_lt most p)

-- the first priority is there, and none of the others is above it
abbrev pub is_best : Option ℕ → Option ℕ → Option ℕ → Bool
is_best None second third = false
is_best (Some p) second third = at_most second p && at_most third p

-- the pairs of a list, put into the order of ranks
pub record IsRanking (pairs all : List RankedEntry) : Type 0 where
  pub ranked : IsRanked pairs
  pub sound : (p : RankedEntry) → In p pairs → In p all
  pub complete : (p : RankedEntry) → In p all → In p pairs

-- the pairs of three queues: each unit at the first level where it is
abbrev pub pairs_of : List PlaceSet → ℕ → ℕ → List Item → List Item → List Item → List RankedEntry
pairs_of sets near_place rack_place near rack cluster =
    unskipped nothing 0 near ++ (unskipped (is_at_either sets near_place near_place) 1 rack ++ unskipped (is_at_either sets near_place rack_place) 2 cluster)

-- A path has these pairs left.
pub record Leads (p : Path) (pairs : List RankedEntry) : Type 0 where
  pub near : List Item
  pub rack : List Item
  pub cluster : List Item
  pub at_near : IsTail (value_at p.pool.now) p.near.now p.at_near near
  pub at_rack : IsTail (value_at p.pool.now) p.rack.now p.at_rack rack
  pub at_cluster : IsTail (value_at p.pool.now) p.cluster.now p.at_cluster cluster
  pub near_inside : p.near_place < 384
  pub rack_inside : p.rack_place < 384
  pub rack_stops : Stops (is_at_either (sets_of p.units.now) p.near_place p.near_place) rack
  pub cluster_stops : Stops (is_at_either (sets_of p.units.now) p.near_place p.rack_place) cluster
  pub ranking : IsRanking pairs (pairs_of (sets_of p.units.now) p.near_place p.rack_place near rack cluster)

-- a path has some pairs left, be it none
pub record IsWalkable (p : Path) : Type 0 where
  pub pairs : List RankedEntry
  pub leads : Leads p pairs

-- An answer is the first of these pairs, and then the rest is left; it is nothing exactly where there is none.
abbrev pub Gives : List RankedEntry → Option RankedEntry → (List RankedEntry → Type 0) → Type 0
Gives [] answer IsLeft = (answer ≡ None) × IsLeft []
Gives (p ∷ rest) answer IsLeft = (answer ≡ Some p) × IsLeft rest
