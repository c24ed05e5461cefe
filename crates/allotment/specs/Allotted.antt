-- What a table of grants with its placer stands for, and which spots changed.
use Rattle.std.specs.Prelude.{◌≡◌, ℕ, ◌<◌, ◌≤◌, Bool, true, false, cond, nat_lt, ◌&&◌, List, [], ◌∷◌, ◌++◌, map, filter}
use Rattle.fuxi_terms.specs.Cluster.{ClusterRecord, has_machine}
use Rattle.fuxi_terms.specs.Counts.{count}
use Rattle.fuxi_terms.specs.Keys.{RowKey, Spot, spot_cmp, key_cmp}
use Rattle.fuxi_terms.specs.Tables.{spot, Table}
use Rattle.std.specs.FinMap.Entries.{put}
use Rattle.fuxi_terms.specs.TallyKeys.{credited_key, is_back}
use Rattle.fuxi_terms.specs.declared.Key.{Key}
use Rattle.spec_net.specs.Ledgers.{tally_ledger}
use Rattle.spec_roles.specs.MasterSteps.{counted, credit}
use Rattle.spec_roles.specs.Masters.{Master, asked, out_of}
use Rattle.spec_roles.specs.Placing.{has_pair, line_after}
use Rattle.grant_table.specs.GrantTables.{TableRecord, IsSound, with_count}
use Rattle.grant_table.specs.declared.asking.Pick.{Pick}
use Rattle.place_pass.specs.Best.{spot_of}
use Rattle.place_pass.specs.Placers.{PlacerRecord, SeenRecord, ToldRecord, IsLevelWith, asks_seen, line_told, told_of, usable_in}
use Rattle.preempt.specs.declared.learned.Learned.{Learned}
use Rattle.preempt.specs.declared.plan.Victim.{Victim}
use Rattle.preempt.specs.Learning.{IsTrue}
use Rattle.preempt.specs.Plans.{without_victims}
use Rattle.allotment.specs.PlacingReads.{IsPlacing}
use Rattle.allotment.specs.SettlingRuns.{AreTouched}

-- the table, what the placer was told, and the spots that changed
pub record AllotmentRecord : Type 0 where
  pub table : TableRecord
  pub placer : ToldRecord
  pub touched : List Spot

abbrev pub allotment_record : TableRecord → PlacerRecord → List Pick → AllotmentRecord
allotment_record t p touched = record { table = t; placer = told_of p; touched = map spot_of touched }

-- the placer is level with the table, and what searches for victims found out is true of both
pub record IsAllotment (t : TableRecord) (p : PlacerRecord) (l : Learned) : Type 0 where
  pub level : IsLevelWith p t
  pub sound : IsSound t
  pub learned : IsTrue t (usable_in p.seen) p.seen.line l

-- it stands for what placing reads of a master
pub record Allots (x : AllotmentRecord) (c : ClusterRecord) (M : Master) : Type 0 where
  pub placing : IsPlacing x.table x.placer.seen c M

-- each pair of the line has something out, as in a line that is up to date
pub record AllWait (x : AllotmentRecord) : Type 0 where
  pub each : (a u : ℕ) → has_pair (a, u) x.placer.seen.line ≡ true → 0 < out_of (asks_seen x.placer.seen) x.table.entries a u

-- no spot is forgotten, one that is not among those that changed has its number still, and the next unit that begins to wait gets the number
-- that it would have got
pub record Touches (x y : AllotmentRecord) : Type 0 where
  pub spots : AreTouched x.table.entries y.table.entries x.touched y.touched
  pub turns : y.placer.seen.turns ≡ x.placer.seen.turns

-- the placer was told of the spot, so it is idle no more, and the spot is among those that changed
abbrev pub told_at : TableRecord → SeenRecord → List Spot → Spot → AllotmentRecord
told_at t s touched p = record { table = t; placer = record { seen = record s { line = line_told s t p.job p.unit }; idle = false }; touched = touched ++ p ∷ [] }

-- so many grants more at a spot. The units with nothing out have left the line
pub record Adds (s : Spot) (n : ℕ) (x y : AllotmentRecord) : Type 0 where
  pub stands : (c : ClusterRecord) (M : Master) → Allots x c M → Allots y c (record M { table = with_count M.table s n; line = line_after (asked M) (with_count M.table s n) M.line })
  pub waits : AllWait y
  pub touches : Touches x y
  pub table : y.table ≡ record x.table { entries = with_count x.table.entries s n }

-- grants are only taken; and where none is taken, nothing else changes either, so a placer that is idle stays so
pub record OnlyTakes (x y : AllotmentRecord) : Type 0 where
  pub fewer : (s : Spot) → count spot_cmp y.table.entries s ≤ count spot_cmp x.table.entries s
  pub same : ((s : Spot) → count spot_cmp y.table.entries s ≡ count spot_cmp x.table.entries s) → y ≡ x

-- all grants at these spots are gone, and every other spot has its number still. It stands for the master with that table
pub record Clears (gone : Spot → Bool) (x y : AllotmentRecord) : Type 0 where
  pub stands : (c : ClusterRecord) (M : Master) → Allots x c M → Allots y c (record M { table = y.table.entries })
  pub waits : AllWait y
  pub touches : Touches x y
  pub table : y.table ≡ record x.table { entries = y.table.entries }
  pub takes : OnlyTakes x y
  pub counts : (s : Spot) → count spot_cmp y.table.entries s ≡ cond (gone s) 0 (count spot_cmp x.table.entries s)

-- the victims on a machine are taken, unit by unit
pub record TakesVictims (m : ℕ) (vs : List Victim) (x y : AllotmentRecord) : Type 0 where
  pub stands : (c : ClusterRecord) (M : Master) → Allots x c M → Allots y c (record M { table = without_victims M.table m vs })
  pub waits : AllWait y
  pub touches : Touches x y
  pub table : y.table ≡ record x.table { entries = without_victims x.table.entries m vs }

-- Of what these entries of a demand of a job give back and is not yet credited, the table loses what it has: each entry that names a unit and a
-- machine that are there counts, and what is credited are the numbers of the given grants
pub record CreditsBack (a : ℕ) (es given : List (Key × ℕ)) (x y : AllotmentRecord) : Type 0 where
  pub stands : (c : ClusterRecord) (M : Master) (credited : List (Key × ℕ)) → Allots x c M → ((u m : ℕ) → count key_cmp credited (credited_key u m) ≡ count key_cmp given (credited_key u m))
      → Allots y c (record M { table = credit a credited (counted c M.jobs a (tally_ledger 0 es)).entries M.table })
  pub waits : AllWait y
  pub touches : Touches x y
  pub table : y.table ≡ record x.table { entries = y.table.entries }

-- what a demand gives back that is not credited yet, of units and machines that are there
abbrev pub is_new_back : ClusterRecord → ℕ → List (Key × ℕ) → Key × ℕ → Bool
is_new_back c units given e = is_back e.0 && (nat_lt e.0.unit units && (has_machine c e.0.number && nat_lt (count key_cmp given (credited_key e.0.unit e.0.number)) e.1))

abbrev pub newly_credited : ClusterRecord → ℕ → List (Key × ℕ) → List (Key × ℕ) → List (Key × ℕ)
newly_credited c units given es = map (λ e. (credited_key e.0.unit e.0.number, e.1)) (filter (is_new_back c units given) es)

-- the entries of a machine's row are put into the table
abbrev pub rows_put : ℕ → List (RowKey × ℕ) → Table → Table
rows_put m [] table = table
rows_put m (e ∷ es) table = rows_put m es (put spot_cmp (spot e.0.job e.0.unit m) e.1 table)

-- the entries of a machine's row are in the table. The units with nothing out have left the line
pub record AddsRow (m : ℕ) (es : List (RowKey × ℕ)) (x y : AllotmentRecord) : Type 0 where
  pub stands : (c : ClusterRecord) (M : Master) → Allots x c M → Allots y c (record M { table = y.table.entries; line = line_after (asked M) y.table.entries M.line })
  pub waits : AllWait y
  pub touches : Touches x y
  pub table : y.table ≡ record x.table { entries = rows_put m es x.table.entries }
