-- What settling does, said without its recursion.
use Rattle.std.specs.Prelude.{◌≡◌, ℕ, ◌<◌, ◌≤◌, true, false, T, List, [], ◌∷◌, Some, None, slice_get}
use Rattle.std.specs.Ordering.{nat_cmp, is_lt}
use Rattle.std.specs.Cmp.Lexicographic.{slice_cmp}
use Rattle.std.specs.FinMap.Entries.{is_sorted}
use Rattle.fuxi_terms.specs.Cluster.{ClusterRecord, has_at, has_machine}
use Rattle.fuxi_terms.specs.Keys.{Spot, spot_cmp, Pair}
use Rattle.spec_roles.specs.Masters.{Master}
use Rattle.fuxi_terms.specs.Tables.{total_at}
use Rattle.spec_roles.specs.Placing.{has_pair, placeable, ranked, first_placeable, granted}

-- no pair of the line is placeable on any machine
abbrev pub NothingPlaceable : ClusterRecord → Master → Type 0
NothingPlaceable c M = (a u m : ℕ) → has_pair (a, u) M.line ≡ true → has_machine c m ≡ true → placeable c M a u m ≡ false

-- a run of grants, each of the placeable pair of least rank, that ends where there is none
abbrev pub Picks : ClusterRecord → Master → List Spot → Master → Type 0
Picks c M [] M' = (first_placeable c M ≡ None) × (M' ≡ M)
Picks c M (s ∷ ss) M' = (first_placeable c M ≡ Some s) × Picks c (granted M s) ss M'

-- a table in order whose grants on each machine are within what the machine has
pub record IsWithin (c : ClusterRecord) (M : Master) : Type 0 where
  pub sorted : T (is_sorted spot_cmp M.table)
  pub fits : (m i : ℕ) → i < c.resources → total_at M.jobs m i M.table ≤ has_at c m i

-- a pair of the line that is placeable, and no other placeable pair of the line comes before it
pub record IsFirst (c : ClusterRecord) (M : Master) (s : Spot) : Type 0 where
  pub place : ℕ
  pub there : slice_get M.line place ≡ Some (s.job, s.unit)
  pub may : placeable c M s.job s.unit s.machine ≡ true
  pub first : (n m : ℕ) (p : Pair) → slice_get M.line n ≡ Some p → has_machine c m ≡ true → placeable c M p.0 p.1 m ≡ true
      → is_lt (slice_cmp nat_cmp (ranked c M n p m).rank (ranked c M place (s.job, s.unit) s.machine).rank) ≡ false
