-- What the tree of a placer holds: which units wait in it, and where they stand.
use Rattle.std.specs.Prelude.{◌≡◌, ◌≢◌, ℕ, ◌<◌, Bool, true, false, cond, nat_lt, List, [], length, Some, None}
use Rattle.std.proofs.Common.{get_or}
use Rattle.fuxi_terms.specs.Cluster.{ClusterRecord}
use Rattle.fuxi_terms.specs.Keys.{Pair}
use Rattle.fuxi_terms.specs.Tables.{held_on, held_in, Table}
use Rattle.fuxi_terms.specs.TallyKeys.{near_key, rack_key}
use Rattle.spec_roles.specs.Placing.{has_pair}
use Rattle.wait_queue.specs.declared.node.Entry.{Entry}
use Rattle.locality_tree.specs.Trees.{TreeRecord, all_units, no_unit, unit_at, racks_of, rack_place, place_count}
use Rattle.place_pass.specs.Bounds.{IsRising, turn_at}
use Rattle.place_pass.specs.Cells.{Cell, cell_at, asks_in}

-- the entry of a unit: it waits with its priority and its turn
abbrev pub entry_for : List (List Cell) → List ℕ → ℕ → ℕ → Entry
entry_for cells turns a u = record { app = record { 0 = a }; unit = record { 0 = u }; priority = (cell_at cells a u).unit.priority; turn = turn_at turns a u }

-- a unit asks for more on a machine, and in a rack, than it has there
abbrev pub is_unmet_on : List (List Cell) → Table → ℕ → ℕ → ℕ → Bool
is_unmet_on cells es a u m = nat_lt (held_on es a u m) (asks_in cells a (near_key u m))

abbrev pub is_unmet_in : ClusterRecord → List (List Cell) → Table → ℕ → ℕ → ℕ → Bool
is_unmet_in c cells es a u r = nat_lt (held_in c es a u r) (asks_in cells a (rack_key u r))

-- The units that are admitted have all places of the cluster. Of them exactly those that pass a test wait, each with its priority and its
-- turn, and no other stands anywhere
pub record Holds (c : ClusterRecord) (cells : List (List Cell)) (waits : Pair → Bool) (turns : List ℕ) (t : TreeRecord) : Type 0 where
  pub racks : t.racks ≡ racks_of c
  pub all : length t.units ≡ all_units
  pub places : (a u : ℕ) → u < 8 → length (unit_at t a u).stands ≡ cond (nat_lt u (length (get_or cells a []))) (place_count t.racks) 0
  pub few : (a u : ℕ) → waits (a, u) ≡ true → u < 8
  pub entry : (a u : ℕ) → waits (a, u) ≡ true → (unit_at t a u).entry ≡ Some (entry_for cells turns a u)
  pub none : (a u : ℕ) → u < 8 → waits (a, u) ≡ false → (unit_at t a u).entry ≡ None
  pub nowhere : (a u place : ℕ) → u < 8 → waits (a, u) ≡ false → get_or (unit_at t a u).stands place false ≡ false

-- the units of a line wait, and no other
abbrev pub HoldsLine : ClusterRecord → List (List Cell) → List Pair → List ℕ → TreeRecord → Type 0
HoldsLine c cells line turns t = Holds c cells (λ p. has_pair p line) turns t

-- a unit stands on a machine, and in a rack, exactly where it asks for more there than it has
pub record StandsAs (c : ClusterRecord) (cells : List (List Cell)) (es : Table) (a u : ℕ) (t : TreeRecord) : Type 0 where
  pub near : (m : ℕ) → m < length c.machines → get_or (unit_at t a u).stands m false ≡ is_unmet_on cells es a u m
  pub racks : (r : ℕ) → r < 64 → get_or (unit_at t a u).stands (rack_place t.racks r) false ≡ is_unmet_in c cells es a u r

-- each unit of a line stands as it has to
abbrev pub AllStand : ClusterRecord → List (List Cell) → Table → List Pair → TreeRecord → Type 0
AllStand c cells es line t = (a u : ℕ) → has_pair (a, u) line ≡ true → StandsAs c cells es a u t

-- The tree of a line: exactly its pairs wait, with turns that rise along it, and stand where they ask for more than they have
pub record TreeOf (c : ClusterRecord) (cells : List (List Cell)) (line : List Pair) (turns : List ℕ) (es : Table) (t : TreeRecord) : Type 0 where
  pub waits : HoldsLine c cells line turns t
  pub rises : IsRising (λ (p : Pair). turn_at turns p.0 p.1) line
  pub stands : AllStand c cells es line t

-- a unit waits with this entry in the tree of a cluster, where it has all places
pub record WaitsIn (c : ClusterRecord) (e : Entry) (t : TreeRecord) : Type 0 where
  pub racks : t.racks ≡ racks_of c
  pub entry : (unit_at t e.app.0 e.unit.0).entry ≡ Some e
  pub places : length (unit_at t e.app.0 e.unit.0).stands ≡ place_count t.racks

-- nothing changes but where one unit stands
pub record Restood (n : ℕ) (before after : TreeRecord) : Type 0 where
  pub racks : after.racks ≡ before.racks
  pub count : length after.units ≡ length before.units
  pub entries : (k : ℕ) → (get_or after.units k no_unit).entry ≡ (get_or before.units k no_unit).entry
  pub widths : (k : ℕ) → length (get_or after.units k no_unit).stands ≡ length (get_or before.units k no_unit).stands
  pub others : (k : ℕ) → k ≢ n → get_or after.units k no_unit ≡ get_or before.units k no_unit

-- a unit stands at each place as it did, but for a machine and its rack
pub record RestoodAt (c : ClusterRecord) (cells : List (List Cell)) (es : Table) (a u m r : ℕ) (before after : TreeRecord) : Type 0 where
  pub near : get_or (unit_at after a u).stands m false ≡ is_unmet_on cells es a u m
  pub rack : get_or (unit_at after a u).stands (rack_place before.racks r) false ≡ is_unmet_in c cells es a u r
  pub rest : (place : ℕ) → place ≢ m → place ≢ rack_place before.racks r → get_or (unit_at after a u).stands place false ≡ get_or (unit_at before a u).stands place false
