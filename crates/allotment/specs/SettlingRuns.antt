-- A run of grants that settles a master.
use Rattle.std.specs.Prelude.{◌≡◌, ◌<◌, ℕ, true, false, List}
use Rattle.std.specs.List.{sum_by}
use Rattle.fuxi_terms.specs.Cluster.{ClusterRecord}
use Rattle.fuxi_terms.specs.Counts.{count, set_count}
use Rattle.fuxi_terms.specs.Keys.{Spot, spot_cmp, Pair}
use Rattle.fuxi_terms.specs.Tables.{Table}
use Rattle.spec_roles.specs.Masters.{Master, out_of}
use Rattle.spec_roles.specs.Placing.{settled}
use Rattle.spec_roles.specs.Settling.{Picks}
use Rattle.grant_table.specs.GrantTables.{TableRecord}
use Rattle.place_pass.specs.Placers.{SeenRecord, asks_seen, line_told}
use Rattle.allotment.specs.PlacingReads.{IsPlacing, has_spot}

-- on the way: the master to which the grants so far lead, and whoever goes on from it until nothing is placeable settles the first one
pub record IsSettling (t : TableRecord) (s : SeenRecord) (c : ClusterRecord) (M : Master) : Type 0 where
  pub now : Master
  pub placing : IsPlacing t s c now
  pub serves : now.serving ≡ true
  pub ends : (picks : List Spot) (N : Master) → Picks c now picks N → N ≡ settled c M

-- how many grants are out in all, of what waits
abbrev pub all_out : TableRecord → SeenRecord → ℕ
all_out t s = sum_by (λ (p : Pair). out_of (asks_seen s) t.entries p.0 p.1) s.line

-- each spot whose number is another one now is among these
pub record AreTouched (old new : Table) (before after : List Spot) : Type 0 where
  pub kept : (s : Spot) → has_spot s before ≡ true → has_spot s after ≡ true
  pub others : (s : Spot) → has_spot s after ≡ false → count spot_cmp new s ≡ count spot_cmp old s

-- what the placer sees once it is told of grants at a spot
abbrev pub told_grant : SeenRecord → TableRecord → Spot → SeenRecord
told_grant s t x = record s { line = line_told s t x.job x.unit }

-- Grants at one spot, after which the number there is another one: each was of the pair of first rank, so who settles goes on from them.
pub record Repeats (t : TableRecord) (s : SeenRecord) (x : Spot) (new : TableRecord) : Type 0 where
  pub number : ℕ
  pub is : new ≡ record t { entries = set_count spot_cmp t.entries x number }
  pub rises : count spot_cmp t.entries x < number
  pub settles : (c : ClusterRecord) (M : Master) → IsSettling t s c M → IsSettling new (told_grant s new x) c M
  pub fewer : all_out new (told_grant s new x) < all_out t s
