-- Where a demand asks otherwise than before, and what is written of it.
use Rattle.std.specs.Prelude.{◌≡◌, ◌≢◌, ℕ, ℤ, ◌<◌, Bool, true, false, cond, nat_eq, nat_lt, List, length}
use Rattle.std.specs.Ordering.{eq_by_cmp}
use Rattle.std.proofs.Common.{get_or}
use Rattle.fuxi_terms.specs.Cluster.{ClusterRecord}
use Rattle.fuxi_terms.specs.declared.Key.{Key}
use Rattle.fuxi_terms.specs.Keys.{key_cmp}
use Rattle.fuxi_terms.specs.Tables.{Table}
use Rattle.locality_tree.specs.Trees.{TreeRecord, unit_at, unit_number, rack_place}
use Rattle.place_pass.specs.declared.demand.scope.Scope.{Scope}
use Rattle.place_pass.specs.declared.demand.scope.Scope.TheVariants as scope
use Rattle.place_pass.specs.Cells.{Cell, no_cell, asks_at, taken, is_gone}
use Rattle.place_pass.specs.Placers.{is_named}
use Rattle.place_pass.specs.PlacerTrees.{Restood, StandsAs, is_unmet_on, is_unmet_in}

-- what a demand asks at a key of a unit that is there
abbrev pub asked_by : ClusterRecord → List (Key × ℕ) → Key → ℕ
asked_by c es k = asks_at (taken c es k.unit no_cell) k

-- of the units of a job it asks the same as before at each key that these changes do not name
abbrev pub AsksSameBut : List (Key × ℤ) → ClusterRecord → List (Key × ℕ) → List Cell → Type 0
AsksSameBut cs c es xs = (k : Key) → k.unit < length xs → is_named k cs ≡ false → asks_at (get_or xs k.unit no_cell) k ≡ asked_by c es k

-- of the units of a job it asks the same as before outside of a scope
abbrev pub AsksWithin : Scope → ClusterRecord → List (Key × ℕ) → List Cell → Type 0
AsksWithin (scope.Units differing) c es xs = (u : ℕ) → u < length xs → get_or differing u true ≡ false → taken c es u (get_or xs u no_cell) ≡ get_or xs u no_cell
AsksWithin (scope.Keys changes) c es xs = AsksSameBut changes.now c es xs

-- from one number at a key to another a want rises, or an avoidance is gone
abbrev pub is_more_at : Key → ℕ → ℕ → Bool
is_more_at k before now = cond (nat_eq k.what 1) (nat_lt before now) (cond (nat_eq k.what 4) (is_gone before now) false)

-- a unit has the same places
pub record IsAlike (before after : Cell) : Type 0 where
  pub unit : after.unit ≡ before.unit
  pub group : after.group ≡ before.group
  pub near : length after.near ≡ length before.near
  pub racks : length after.racks ≡ length before.racks
  pub avoided : length after.avoided ≡ length before.avoided

-- of a unit a demand's number at one key is written, and of a job
pub record IsWritten (c : ClusterRecord) (es : List (Key × ℕ)) (k : Key) (before after : Cell) : Type 0 where
  pub alike : IsAlike before after
  pub here : asks_at after k ≡ asked_by c es k
  pub others : (j : Key) → j.unit ≡ k.unit → eq_by_cmp key_cmp j k ≡ false → asks_at after j ≡ asks_at before j

pub record IsWrittenIn (c : ClusterRecord) (es : List (Key × ℕ)) (k : Key) (before after : List Cell) : Type 0 where
  pub long : length after ≡ length before
  pub here : k.unit < length before → IsWritten c es k (get_or before k.unit no_cell) (get_or after k.unit no_cell)
  pub others : (u : ℕ) → u ≢ k.unit → get_or after u no_cell ≡ get_or before u no_cell

-- a unit that waits stands at the place of a key as it has to, where the key is of a machine or a rack
pub record StandsAt (c : ClusterRecord) (cells : List (List Cell)) (es : Table) (a : ℕ) (k : Key) (t : TreeRecord) : Type 0 where
  pub near : k.what ≡ 2 → k.number < length c.machines → get_or (unit_at t a k.unit).stands k.number false ≡ is_unmet_on cells es a k.unit k.number
  pub racks : k.what ≡ 3 → k.number < 64 → get_or (unit_at t a k.unit).stands (rack_place t.racks k.number) false ≡ is_unmet_in c cells es a k.unit k.number

-- it stands so now, and at every other place of its own as it stood
pub record StoodAt (c : ClusterRecord) (cells : List (List Cell)) (es : Table) (a : ℕ) (k : Key) (before after : TreeRecord) : Type 0 where
  pub restood : Restood (unit_number a k.unit) before after
  pub here : StandsAt c cells es a k after
  pub others : (j : Key) → j.unit ≡ k.unit → eq_by_cmp key_cmp j k ≡ false → StandsAt c cells es a j before → StandsAt c cells es a j after

-- it stands as it has to outside of a scope
abbrev pub StandsWithin : Scope → ClusterRecord → List (List Cell) → Table → ℕ → ℕ → TreeRecord → Type 0
StandsWithin (scope.Units differing) c cells es a u t = get_or differing u true ≡ false → StandsAs c cells es a u t
StandsWithin (scope.Keys changes) c cells es a u t = (k : Key) → k.unit ≡ u → is_named k changes.now ≡ false → StandsAt c cells es a k t
