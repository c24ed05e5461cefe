-- What the program keeps of one unit, and what is asked at a key.
use Rattle.std.specs.Prelude.{◌≡◌, ℕ, ◌+◌, ◌-◌, ◌*◌, ◌<◌, ◌≤◌, Bool, cond, nat_eq, nat_lt, ◌&&◌, ◌||◌, List, [], ◌∷◌, ◌++◌, length, map, replicate, Option, Some, None, true}
use Rattle.std.specs.Global.{Vec}
use Rattle.std.specs.List.{list_any}
use Rattle.std.proofs.Common.{get_or}
use Rattle.fuxi_terms.specs.Cluster.{ClusterRecord, JobRecord, UnitRecord, has_rack}
use Rattle.fuxi_terms.specs.declared.Key.{Key}
use Rattle.fuxi_terms.specs.Limits.{greatest_count, most_jobs, most_units}
use Rattle.fuxi_terms.specs.Keys.{key_cmp}
use Rattle.fuxi_terms.specs.Counts.{count}
use Rattle.fuxi_terms.specs.TallyKeys.{key, want_key, rack_key, avoid_key}
use Rattle.fuxi_terms.specs.Lists.{below}
use Rattle.fuxi_terms.specs.Jobs.{no_unit}
use Rattle.fuxi_terms.specs.Vectors.{fits}
use Rattle.locality_tree.specs.declared.place_set.PlaceSet.{PlaceSet}
use Rattle.locality_tree.specs.PlaceSets.{in_set}
use Rattle.place_pass.specs.declared.demand.wishes.Wish.{Wish}

-- the unit and its group; how many grants are wanted in all, by machine and by rack; and by machine, 1 where it is avoided
pub record Cell : Type 0 where
  pub unit : UnitRecord
  pub group : ℕ
  pub want : ℕ
  pub near : List ℕ
  pub racks : List ℕ
  pub avoided : List ℕ

-- by number, as far as one, 1 where a set has it
abbrev pub ones_in : ℕ → PlaceSet → List ℕ
ones_in n s = map (λ m. cond (in_set s m) 1 0) (below n)

abbrev pub cell_of : Wish → Cell
cell_of w = record { unit = record { priority = w.priority; size = w.size.q; most = w.most }; group = w.group.0; want = w.want; near = w.near.items; racks = w.racks; avoided = ones_in (length w.near.items) w.avoided }

abbrev pub cells_in : Vec Wish → List Cell
cells_in v = map cell_of v.items

abbrev pub cells_of : List (Vec Wish) → List (List Cell)
cells_of slots = map cells_in slots

-- the same for each job number there may be, with no unit where there is no slot yet
abbrev pub all_cells : List (Vec Wish) → List (List Cell)
all_cells slots = cells_of slots ++ replicate (most_jobs - length slots) []

abbrev pub no_cell : Cell
no_cell = record { unit = no_unit; group = 0; want = 0; near = []; racks = []; avoided = [] }

abbrev pub cell_at : List (List Cell) → ℕ → ℕ → Cell
cell_at cells a u = get_or (get_or cells a []) u no_cell

-- a place for each unit that may be admitted
abbrev pub unit_places : ℕ
unit_places = most_jobs * most_units

-- what is asked at a key of this unit
abbrev pub asks_at : Cell → Key → ℕ
asks_at x k =
    cond (nat_eq k.what 1) (cond (nat_eq k.number 0) x.want 0)
    (cond (nat_eq k.what 2) (get_or x.near k.number 0)
    (cond (nat_eq k.what 3) (get_or x.racks k.number 0)
    (cond (nat_eq k.what 4) (get_or x.avoided k.number 0) 0)))

-- the job that cells stand for: none where there is no unit
abbrev pub job_in : ℕ → List Cell → Option JobRecord
job_in a [] = None
job_in a (x ∷ xs) = Some (record { number = a; group = x.group; units = map (λ (x : Cell). x.unit) (x ∷ xs) })

-- a unit of which nothing is asked
abbrev pub fresh_cell : ℕ → ℕ → UnitRecord → Cell
fresh_cell g machines u = record { unit = u; group = g; want = 0; near = replicate machines 0; racks = replicate 64 0; avoided = replicate machines 0 }

abbrev pub fresh_cells : ℕ → ℕ → List UnitRecord → List Cell
fresh_cells g machines us = map (fresh_cell g machines) us

-- the numbers of a demand at the machines, and at the racks in which a machine stands
abbrev pub numbers_at : List (Key × ℕ) → ℕ → ℕ → ℕ → List ℕ
numbers_at es what u machines = map (λ m. count key_cmp es (key what u m)) (below machines)

abbrev pub racks_at : ClusterRecord → List (Key × ℕ) → ℕ → List ℕ
racks_at c es u = map (λ r. cond (has_rack c r) (count key_cmp es (rack_key u r)) 0) (below 64)

-- a unit that a demand is taken over for
abbrev pub taken : ClusterRecord → List (Key × ℕ) → ℕ → Cell → Cell
taken c es u x = record {
  unit = x.unit;
  group = x.group;
  want = count key_cmp es (want_key u);
  near = numbers_at es 2 u (length c.machines);
  racks = racks_at c es u;
  avoided = numbers_at es 4 u (length c.machines);
}

-- each unit of a job, from a number on
abbrev pub taken_all : ClusterRecord → List (Key × ℕ) → ℕ → List Cell → List Cell
taken_all c es u [] = []
taken_all c es u (x ∷ xs) = taken c es u x ∷ taken_all c es (u + 1) xs

-- of some numbers, by machine, a demand leaves nothing where there was something
abbrev pub is_gone : ℕ → ℕ → Bool
is_gone before now = nat_lt 0 before && nat_eq now 0

abbrev pub any_gone : List (Key × ℕ) → ℕ → ℕ → List ℕ → ℕ → Bool
any_gone es what u numbers machines = list_any (λ m. is_gone (get_or numbers m 0) (count key_cmp es (key what u m))) (below machines)

-- by a demand a unit wants more, or no longer avoids a machine that it avoided
abbrev pub asks_more : ClusterRecord → List (Key × ℕ) → ℕ → Cell → Bool
asks_more c es u x = nat_lt x.want (count key_cmp es (want_key u)) || any_gone es 4 u x.avoided (length c.machines)

-- one of the first units of a job does
abbrev pub any_more : ClusterRecord → List (Key × ℕ) → List Cell → ℕ → Bool
any_more c es xs n = list_any (λ u. asks_more c es u (get_or xs u no_cell)) (below n)

-- by a demand a unit no longer avoids a machine that it avoided, and no unit does so
pub record Lifts (es : List (Key × ℕ)) (xs : List Cell) (m : ℕ) : Type 0 where
  pub unit : ℕ
  pub there : unit < length xs
  pub was : 0 < get_or (get_or xs unit no_cell).avoided m 0
  pub gone : count key_cmp es (avoid_key unit m) ≡ 0

abbrev pub AvoidsStill : List (Key × ℕ) → List Cell → ℕ → Type 0
AvoidsStill es xs m = (u : ℕ) → u < length xs → 0 < get_or (get_or xs u no_cell).avoided m 0 → 0 < count key_cmp es (avoid_key u m)

-- what is asked at each key of each job, and the job of each number, where there is one
abbrev pub asks_in : List (List Cell) → ℕ → Key → ℕ
asks_in cells a k = asks_at (cell_at cells a k.unit) k

abbrev pub job_at : List (List Cell) → ℕ → Option JobRecord
job_at cells a = job_in a (get_or cells a [])

-- what the wishes stand for: the cluster, the units by job number and unit, and whether each machine is open
pub record WishesRecord : Type 0 where
  pub cluster : ClusterRecord
  pub cells : List (List Cell)
  pub opened : List Bool

abbrev pub wishes_record : ClusterRecord → List (Vec Wish) → List Bool → WishesRecord
wishes_record c slots open_machines = record { cluster = c; cells = all_cells slots; opened = open_machines }

-- a unit has a place for each machine and rack, and is of the group of its job
pub record IsWish (c : ClusterRecord) (first : Cell) (x : Cell) : Type 0 where
  pub group : x.group ≡ first.group
  pub size : length x.unit.size ≡ 8
  pub want : x.want ≤ greatest_count
  pub near : length x.near ≡ length c.machines
  pub racks : length x.racks ≡ 64
  pub avoided : length x.avoided ≡ length c.machines

pub record AreWishes (c : ClusterRecord) (cells : List (List Cell)) (open_machines : List Bool) : Type 0 where
  pub places : length cells ≡ most_jobs
  pub few : (a : ℕ) → length (get_or cells a []) ≤ 8
  pub unit : (a u : ℕ) → u < length (get_or cells a []) → IsWish c (cell_at cells a 0) (cell_at cells a u)
  pub opened : length open_machines ≡ length c.machines

-- no admitted unit needs less of a resource
pub record AreAbove (least : List ℕ) (cells : List (List Cell)) : Type 0 where
  pub above : (a u : ℕ) → u < length (get_or cells a []) → fits least (cell_at cells a u).unit.size ≡ true
