-- The end of a step.
use Rattle.std.specs.Prelude.{◌≡◌, ℕ, ◌+◌, ◌≤◌, Bool, List, [], Some, slice_get}
use Rattle.std.specs.List.{AllByRecursion}
use Rattle.fuxi_terms.specs.Cluster.{ClusterRecord}
use Rattle.fuxi_terms.specs.declared.Key.{Key}
use Rattle.spec_roles.specs.Masters.{Master}
use Rattle.spec_roles.specs.Placing.{line_up}
use Rattle.spec_roles.specs.MasterSteps.{ready, settled_if_serving}
use Rattle.spec_roles.specs.MasterRoles.{MasterRole, publish_alone, offers_alone}
use Rattle.grant_table.specs.GrantTables.{as_known}
use Rattle.ledger_updates.specs.Projections.{row_of}
use Rattle.ledger_updates.specs.declared.grants.StepChanges.{StepChanges}
use Rattle.place_pass.specs.Placers.{IsUpToDate}
use Rattle.allotment.specs.SettlingRuns.{AreTouched}
use Rattle.allotment.specs.Allotted.{AllotmentRecord, Allots, AllWait}
use Rattle.ledger_updates.specs.AllShown.{Down, App, ShowsJob}
use Rattle.fuxi_master.specs.Cores.{CoreRecord, IsKept, StandsWith, shown_credited}
use Rattle.fuxi_master.specs.Steps.{StandsMid, forced_by}

-- the line is up to date, and a master that serves has settled
pub record IsReadied (serving : Bool) (x y : AllotmentRecord) : Type 0 where
  pub stands : (c : ClusterRecord) (M : Master) → Allots x c M → M.serving ≡ serving → Allots y c (settled_if_serving c (line_up M))
  pub waits : AllWait y
  pub up : IsUpToDate y.placer.seen y.table
  pub spots : AreTouched x.table.entries y.table.entries x.touched y.touched
  pub table : y.table ≡ record x.table { entries = y.table.entries }
  pub turns : y.placer.seen.turns ≤ x.placer.seen.turns + 2048

-- the phase, the line and settling: nothing else of a core changes
pub record IsCoreReadied (x y : CoreRecord) : Type 0 where
  pub allotment : IsReadied y.serving x.allotment y.allotment
  pub stands : (credited : ℕ → App → List (Key × ℕ)) (r : MasterRole) → StandsWith credited x r → StandsWith credited y (record { cluster = r.cluster; state = ready r.cluster r.state; sides = r.sides })
  pub rest : y ≡ record x { serving = y.serving; allotment = y.allotment }

-- each peer is shown what it should hold: one entry more at most, and nothing else changes but that no spot is touched any more
pub record IsPublished (news : StepChanges) (x y : CoreRecord) : Type 0 where
  pub kept : IsKept y
  pub rows : (m : ℕ) (d : Down) → slice_get y.agents m ≡ Some d → d.outgoing.present ≡ row_of (as_known y.allotment.table.jobs) m y.allotment.table.entries
  pub boots : (a : ℕ) (d : App) → slice_get y.apps a ≡ Some (Some d) → d.outgoing.present.head ≡ d.incoming.place.inc
  pub grants : (a : ℕ) (d : App) → slice_get y.apps a ≡ Some (Some d) → ShowsJob a y.reported.numbers y.allotment.table.entries d.outgoing.present
  pub agents : (n : ℕ) → AllByRecursion (λ (d : Down). d.outgoing.last ≤ n) x.agents → AllByRecursion (λ (d : Down). d.outgoing.last ≤ n + 1) y.agents
  pub apps : (n : ℕ) → ((a : ℕ) (d : App) → slice_get x.apps a ≡ Some (Some d) → d.outgoing.last ≤ n) → (a : ℕ) (d : App) → slice_get y.apps a ≡ Some (Some d) → d.outgoing.last ≤ n + 1
  pub stands : (r : MasterRole) → StandsMid news x r → StandsWith shown_credited y (record { cluster = r.cluster; state = r.state; sides = publish_alone r.sides (offers_alone r.cluster r.sides r.state (forced_by news)) })
  pub rest : y ≡ record x { allotment = record x.allotment { touched = [] }; agents = y.agents; apps = y.apps }
