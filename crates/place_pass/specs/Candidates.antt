-- What is found on machines: real pairs, that no other comes before.
use Rattle.std.specs.Prelude.{◌≡◌, ℕ, ◌-◌, ◌<◌, ◌≤◌, ◌⊎◌, Bool, true, false, cond, List, [], ◌∷◌, ◌++◌, length, slice_get, Option, Some, None, nat_eq, is_some}
use Rattle.std.specs.Option.{option_map}
use Rattle.fuxi_terms.specs.Cluster.{has_at}
use Rattle.fuxi_terms.specs.Keys.{Pair}
use Rattle.fuxi_terms.specs.Tables.{total_at, Table}
use Rattle.fuxi_terms.specs.Vectors.{at_place}
use Rattle.spec_roles.specs.Placing.{Board, has_pair, placeable_in}
use Rattle.place_pass.specs.declared.search.BestFound.{BestFound}
use Rattle.place_pass.specs.declared.search.Least.{Least}
use Rattle.place_pass.specs.declared.search.Candidate.{Candidate}
use Rattle.fuxi_terms.specs.declared.Key.{Key}
use Rattle.grant_table.specs.GrantTables.{TableRecord, as_known}
use Rattle.place_pass.specs.Cells.{Cell, Lifts, AvoidsStill}
use Rattle.place_pass.specs.Placers.{AreAllowed}
use Rattle.place_pass.specs.SearchCounts.{is_unsettled_by}
use Rattle.place_pass.specs.PackedRanks.{packed, no_rank, IsAbove}
use Rattle.place_pass.specs.Bounds.{MarkRecord, mark_at, key_of, bounded_mark, reset_mark, lowered_mark, cleared_mark, rank_of, comes_before, IsBounded, is_bound, rank_at, rank_on, turn_at}

abbrev pub sight_rank : Option Candidate → Option (List ℕ)
sight_rank s = option_map (λ (x : Candidate). rank_of x.rank) s

-- the rank with the machine
abbrev pub rank_with : BestFound → List ℕ
rank_with x = rank_of x.rank ++ x.pick.machine.0 ∷ []

abbrev pub found_rank : Option BestFound → Option (List ℕ)
found_rank s = option_map rank_with s

-- the turn of a pair
abbrev pub turn_in : List ℕ → Pair → ℕ
turn_in turns p = turn_at turns p.0 p.1

-- this is what the machine has and does not hold
pub record IsFree (t : TableRecord) (m : ℕ) (free : List ℕ) : Type 0 where
  pub is : (i : ℕ) → at_place free i ≡ has_at t.cluster m i - total_at (as_known t.jobs) m i t.entries
  pub within : (i : ℕ) → total_at (as_known t.jobs) m i t.entries ≤ has_at t.cluster m i

-- a placeable pair of the line with its rank on a machine, and the same with the machine
pub record IsSight (b : Board) (es : Table) (f : Pair → ℕ) (line : List Pair) (m : ℕ) (x : Candidate) : Type 0 where
  pub place : ℕ
  pub at : slice_get line place ≡ Some (x.app.0, x.unit.0)
  pub placeable : placeable_in b es x.app.0 x.unit.0 m ≡ true
  pub rank : rank_of x.rank ≡ rank_at b es (f (x.app.0, x.unit.0)) (x.app.0, x.unit.0) m

pub record IsFound (b : Board) (es : Table) (f : Pair → ℕ) (line : List Pair) (x : BestFound) : Type 0 where
  pub place : ℕ
  pub at : slice_get line place ≡ Some (x.pick.app.0, x.pick.unit.0)
  pub there : x.pick.machine.0 < length b.cluster.machines
  pub placeable : placeable_in b es x.pick.app.0 x.pick.unit.0 x.pick.machine.0 ≡ true
  pub rank : rank_of x.rank ≡ rank_at b es (f (x.pick.app.0, x.pick.unit.0)) (x.pick.app.0, x.pick.unit.0) x.pick.machine.0

-- no pair of the line that may be placed on the machine comes before a rank, and with no rank none may be placed there
pub record IsLeast (b : Board) (es : Table) (f : Pair → ℕ) (line : List Pair) (best : Option (List ℕ)) (m : ℕ) : Type 0 where
  pub least : (q : Pair) → has_pair q line ≡ true → placeable_in b es q.0 q.1 m ≡ true → is_bound best (rank_on b es (f q) q m) ≡ true

-- what a mark says of the pairs that were looked at
pub record AreBounded (b : Board) (es : Table) (f : Pair → ℕ) (line : List Pair) (k : MarkRecord) (m : ℕ) : Type 0 where
  pub bounded : (q : Pair) → has_pair q line ≡ true → f q < k.until → IsBounded b es k.bound k.groups (f q) q m

-- a mark after a bound of all pairs was told: it has that bound, or it stays, and its own has a number that is not below a limit
pub record IsRaised (limit : ℕ) (bound : Option (List ℕ)) (turns m : ℕ) (before after : MarkRecord) : Type 0 where
  pub is : (after ≡ bounded_mark bound turns before) ⊎ ((after ≡ before) × (is_some (key_of before turns) ≡ true → IsAbove before turns m limit))

-- a mark after a demand was told: it is reset where a unit no longer avoids the machine, and else lowered
pub record IsAsked (es : List (Key × ℕ)) (xs : List Cell) (m : ℕ) (before after : MarkRecord) : Type 0 where
  pub lifted : Bool
  pub is : after ≡ cond lifted (reset_mark before.until) (lowered_mark before)
  pub some : lifted ≡ true → Lifts es xs m
  pub none : lifted ≡ false → AvoidsStill es xs m

-- a mark that notes no group any more, since each pair of the line is allowed
pub record IsForgotten (t : TableRecord) (line : List Pair) (before after : MarkRecord) : Type 0 where
  pub allowed : AreAllowed t line
  pub is : after ≡ cleared_mark before

-- a pair on a machine with this bound may come before the best
abbrev pub is_first : Option BestFound → List ℕ → ℕ → Bool
is_first None key m = true
is_first (Some f) key m = comes_before (key ++ m ∷ []) (rank_with f)

-- the number of the best, and of the least bound
abbrev pub limit_in : Option BestFound → ℕ
limit_in None = no_rank
limit_in (Some x) = packed x.rank x.pick.machine.0

abbrev pub number_in : Option Least → ℕ
number_in None = no_rank
number_in (Some x) = x.key

-- a machine whose bound does not come before the least one, which there is
pub record IsBehind (k : MarkRecord) (turns m : ℕ) (least : Option Least) : Type 0 where
  pub one : Least
  pub some : least ≡ Some one
  pub above : IsAbove k turns m one.key

-- so is each unsettled machine below a number
abbrev pub AreBehind : List Bool → List MarkRecord → ℕ → ℕ → Option Least → Type 0
AreBehind opened marks turns n least = (m : ℕ) → m < n → is_unsettled_by opened (mark_at marks m) turns m ≡ true → IsBehind (mark_at marks m) turns m least

-- the bound of each machine from one number to another does not come before the best, but for the one that was considered first
abbrev pub ArePassed : List MarkRecord → ℕ → ℕ → ℕ → ℕ → Option BestFound → Type 0
ArePassed marks turns start from to best = (m : ℕ) → from ≤ m → m < to → nat_eq m start ≡ false → is_some (key_of (mark_at marks m) turns) ≡ true → IsAbove (mark_at marks m) turns m (limit_in best)
