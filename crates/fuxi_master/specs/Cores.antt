-- What a master keeps, and the master by itself that it stands for.
use Rattle.std.specs.Prelude.{◌≡◌, ℕ, ◌+◌, ◌*◌, ◌<◌, ◌≤◌, Bool, true, false, T, List, [], length, map, Option, Some, is_some, slice_get, Result}
use Rattle.std.specs.List.{AllByRecursion}
use Rattle.std.specs.Ordering.{nat_cmp}
use Rattle.std.specs.FinMap.Entries.{is_sorted}
use Rattle.fuxi_terms.specs.Counts.{count}
use Rattle.fuxi_terms.specs.Jobs.{is_known, job_numbers}
use Rattle.fuxi_terms.specs.Keys.{Spot, spot_cmp}
use Rattle.fuxi_terms.specs.Limits.{most_steps}
use Rattle.fuxi_terms.specs.Numbers.{has_number}
use Rattle.fuxi_terms.specs.Rows.{IsRow, patched_row}
use Rattle.fuxi_terms.specs.Tallies.{TallyRecord, ChangeRecord, empty_tally, patched_tally}
use Rattle.fuxi_terms.specs.TallyKeys.{greatest_grant, credited_what}
use Rattle.fuxi_terms.specs.declared.Key.{Key}
use Rattle.fuxi_terms.specs.declared.answers.LedgerFault.{LedgerFault}
use Rattle.fuxi_terms.specs.declared.answers.LedgerFault.TheVariants.{Below, TooGreat}
use Rattle.ledger_law.specs.Shapes.{IsTally}
use Rattle.spec_net.specs.Ledgers.{row_ledger}
use Rattle.spec_net.specs.Channels.{agent_id, app_id}
use Rattle.spec_net.specs.Sides.{Side, new_side}
use Rattle.spec_roles.specs.Masters.{Master, credited_of}
use Rattle.spec_roles.specs.MasterSteps.{ready}
use Rattle.spec_roles.specs.MasterRoles.{MasterRole}
use Rattle.peer_channel.specs.Bodies.{report_of, tally_of}
use Rattle.peer_channel.specs.CoreSides.{IsSide}
use Rattle.grant_table.specs.GrantTables.{as_known}
use Rattle.hard_state.specs.Knowledge.{Knowledge}
use Rattle.failover.specs.Reported.{Reported}
use Rattle.place_pass.specs.Placers.{IsUpToDate}
use Rattle.allotment.specs.PlacingReads.{record_of}
use Rattle.allotment.specs.Allotted.{AllotmentRecord, Allots, AllWait}
use Rattle.ledger_updates.specs.Projections.{row_of}
use Rattle.ledger_updates.specs.AllShown.{Down, App, ShowsJob, credited_in}
use Rattle.fuxi_master.specs.ToldAsHeard.{IsToldAsHeard}

-- its epoch, what it knows of jobs and bans, whether it serves, the machines that are reported, the grants with their placer, and its ends
-- of the channels: with each agent by its machine, and with the application of each known job by the job's number
pub record CoreRecord : Type 0 where
  pub epoch : ℕ
  pub known : Knowledge
  pub serving : Bool
  pub reported : Reported
  pub allotment : AllotmentRecord
  pub agents : List Down
  pub apps : List (Option App)

-- and the number of its steps
pub record MasterRecord : Type 0 where
  pub core : CoreRecord
  pub steps : ℕ

abbrev pub IsDown : Down → ℕ → Side → Type 0
IsDown d epoch e = IsSide [] patched_row IsRow row_ledger report_of d epoch e

abbrev pub patched_grants : TallyRecord → ChangeRecord → Result TallyRecord LedgerFault
patched_grants = patched_tally Below TooGreat greatest_grant credited_what

abbrev pub IsApp : App → ℕ → Side → Type 0
IsApp d epoch e = IsSide empty_tally patched_grants (IsTally greatest_grant) tally_of tally_of d epoch e

-- At every moment of a step: the table has the jobs that are known, there is an end for each machine and each known job, and machines are
-- reported in order
pub record IsKept (x : CoreRecord) : Type 0 where
  pub epoch : 0 < x.epoch
  pub numbers : job_numbers (as_known x.allotment.table.jobs) ≡ job_numbers x.known.jobs
  pub jobs : (a : ℕ) → record_of (as_known x.allotment.table.jobs) a ≡ record_of x.known.jobs a
  pub agents : length x.agents ≡ length x.allotment.table.cluster.machines
  pub apps : (a : ℕ) → is_known x.known.jobs a ≡ true → a < length x.apps
  pub slots : (a : ℕ) (o : Option App) → slice_get x.apps a ≡ Some o → is_some o ≡ is_known x.known.jobs a
  pub size : x.reported.size ≡ length x.allotment.table.cluster.machines
  pub rising : T (is_sorted {X = ℕ} nat_cmp (map (λ (m : ℕ). (m, 0)) x.reported.numbers))
  pub below : AllByRecursion (λ m. m < length x.allotment.table.cluster.machines) x.reported.numbers
  pub agents_own : AllByRecursion (λ (d : Down). d.outgoing.own ≡ x.epoch) x.agents
  pub apps_own : (a : ℕ) (d : App) → slice_get x.apps a ≡ Some (Some d) → d.outgoing.own ≡ x.epoch

-- no more entries were ever shown to a peer, and the line was brought up to date no more often
pub record IsWithin (n : ℕ) (x : CoreRecord) : Type 0 where
  pub agents : AllByRecursion (λ (d : Down). d.outgoing.last ≤ n) x.agents
  pub apps : (a : ℕ) (d : App) → slice_get x.apps a ≡ Some (Some d) → d.outgoing.last ≤ n
  pub turns : x.allotment.placer.seen.turns ≤ 4096 * n

-- the same within a step, in which the line may be brought up to date twice
pub record IsWithinSoon (n : ℕ) (x : CoreRecord) : Type 0 where
  pub agents : AllByRecursion (λ (d : Down). d.outgoing.last ≤ n) x.agents
  pub apps : (a : ℕ) (d : App) → slice_get x.apps a ≡ Some (Some d) → d.outgoing.last ≤ n
  pub turns : x.allotment.placer.seen.turns ≤ 4096 * n + 2048

-- A machine that is not reported has no grant
abbrev pub IsTidy : Master → Type 0
IsTidy M = (s : Spot) → has_number s.machine M.reported ≡ false → count spot_cmp M.table s ≡ 0

-- A core stands for a master by itself, with these numbers as credited. An application of an unknown job was never heard of
pub record StandsWith (credits : ℕ → App → List (Key × ℕ)) (x : CoreRecord) (r : MasterRole) : Type 0 where
  pub cluster : x.allotment.table.cluster ≡ r.cluster
  pub epoch : r.state.epoch ≡ x.epoch
  pub jobs : r.state.jobs ≡ x.known.jobs
  pub bans : r.state.bans ≡ x.known.bans
  pub serving : r.state.serving ≡ x.serving
  pub reported : r.state.reported ≡ x.reported.numbers
  pub allots : Allots x.allotment r.cluster r.state
  pub tidy : IsTidy r.state
  pub agents : (m : ℕ) (d : Down) → slice_get x.agents m ≡ Some d → IsDown d x.epoch (r.sides (agent_id m))
  pub apps : (a : ℕ) (d : App) → slice_get x.apps a ≡ Some (Some d) → IsApp d x.epoch (r.sides (app_id a))
  pub credited : (a : ℕ) (d : App) → slice_get x.apps a ≡ Some (Some d) → credited_of r.state a ≡ credits a d
  pub unheard : (a : ℕ) → is_known x.known.jobs a ≡ false → r.sides (app_id a) ≡ new_side
  pub uncredited : (a : ℕ) → is_known x.known.jobs a ≡ false → credited_of r.state a ≡ []

-- what the grants show as credited, whoever is asked
abbrev pub shown_credited : ℕ → App → List (Key × ℕ)
shown_credited a d = credited_in d.outgoing.present.entries

-- between steps nothing is due: the state is one at which a step ends
pub record StandsFor (x : CoreRecord) (r : MasterRole) : Type 0 where
  pub stands : StandsWith shown_credited x r
  pub ready : ready r.cluster r.state ≡ r.state

-- Each agent is shown the row of its machine and each application the counts of its job and the machines that are reported; and there is such
-- a master by itself
pub record IsNear (x : CoreRecord) : Type 0 where
  pub kept : IsKept x
  pub waits : AllWait x.allotment
  pub up : IsUpToDate x.allotment.placer.seen x.allotment.table
  pub touched : x.allotment.touched ≡ []
  pub rows : (m : ℕ) (d : Down) → slice_get x.agents m ≡ Some d → d.outgoing.present ≡ row_of (as_known x.allotment.table.jobs) m x.allotment.table.entries
  pub grants : (a : ℕ) (d : App) → slice_get x.apps a ≡ Some (Some d) → ShowsJob a x.reported.numbers x.allotment.table.entries d.outgoing.present
  pub role : MasterRole
  pub stands : StandsFor x role

-- grants are shown under the boot that is known, but for applications that are new
pub record HasBoots (new : ℕ → Bool) (x : CoreRecord) : Type 0 where
  pub known : (a : ℕ) (d : App) → slice_get x.apps a ≡ Some (Some d) → new a ≡ false → d.outgoing.present.head ≡ d.incoming.place.inc
  pub unknown : (a : ℕ) (d : App) → slice_get x.apps a ≡ Some (Some d) → new a ≡ true → d.outgoing.present.head < d.incoming.place.inc

-- Between steps
pub record IsCore (x : CoreRecord) : Type 0 where
  pub near : IsNear x
  pub boots : HasBoots (λ _. false) x
  pub told : IsToldAsHeard (λ _. false) near.role

pub record IsMaster (m : MasterRecord) : Type 0 where
  pub core : IsCore m.core
  pub within : IsWithin (m.steps + 1) m.core
  pub steps : m.steps ≤ most_steps
