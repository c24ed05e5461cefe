-- What commands make of a master, before the end of the step.
use Rattle.std.specs.Prelude.{◌≡◌, ℕ, ◌+◌, ◌-◌, ◌<◌, ◌≤◌, Bool, true, false, nat_eq, not, ◌&&◌, ◌||◌, List, ◌++◌, length, replicate, Option, Some, None}
use Rattle.std.specs.FinMap.Entries.{where_key}
use Rattle.fuxi_terms.specs.Cluster.{ClusterRecord, JobRecord}
use Rattle.fuxi_terms.specs.Keys.{spot_cmp}
use Rattle.fuxi_terms.specs.Numbers.{has_number, without_number}
use Rattle.spec_roles.specs.HardState.{with_job}
use Rattle.spec_roles.specs.Masters.{Master}
use Rattle.spec_roles.specs.Placing.{line_up}
use Rattle.spec_roles.specs.Preemption.{Plan, plan_of, preempted}
use Rattle.spec_roles.specs.MasterRoles.{MasterRole}
use Rattle.allotment.specs.SettlingRuns.{AreTouched}
use Rattle.allotment.specs.Allotted.{AllotmentRecord, Allots, AllWait, Touches}
use Rattle.ledger_updates.specs.declared.grants.StepChanges.{StepChanges}
use Rattle.ledger_updates.specs.AllShown.{App}
use Rattle.place_pass.specs.Placers.{IsUpToDate}
use Rattle.fuxi_master.specs.Cores.{CoreRecord, StandsFor, IsWithin, IsWithinSoon}
use Rattle.fuxi_master.specs.Steps.{IsMid, StandsMid}
use Rattle.fuxi_master.specs.Heard.{AreStepChanges}

-- a command changes the state and no side
abbrev pub changed_by : (Master → Master) → MasterRole → MasterRole
changed_by f r = record { cluster = r.cluster; state = f r.state; sides = r.sides }

abbrev pub admitting : JobRecord → Master → Master
admitting j M = record M { jobs = with_job j M.jobs }

abbrev pub unbanned_in : Master → ℕ → Master
unbanned_in M m = record M { bans = without_number m M.bans }

abbrev pub beginning : Master → Master
beginning M = record M { serving = true }

-- there is a slot for each number below n, and those that are new are empty
abbrev pub with_slots : ℕ → List (Option App) → List (Option App)
with_slots n slots = slots ++ replicate (n - length slots) None

-- a machine has no grant and takes none. Only machines of the cluster are reported
pub record IsClosed (m : ℕ) (x y : AllotmentRecord) : Type 0 where
  pub stands : (c : ClusterRecord) (M : Master) (bans : List ℕ) → Allots x c M → (has_number m M.reported ≡ true → m < length c.machines) → ((n : ℕ) → has_number n bans ≡ (nat_eq n m || has_number n M.bans))
      → Allots y c (record M { bans = bans; table = where_key spot_cmp (λ s. not (nat_eq s.machine m)) M.table })
  pub touches : Touches x y
  pub table : y.table ≡ record x.table { entries = where_key spot_cmp (λ s. not (nat_eq s.machine m)) x.table.entries }

-- a machine takes grants where it is one of those that are reported
pub record IsOpened (m : ℕ) (reported : List ℕ) (x y : AllotmentRecord) : Type 0 where
  pub stands : (c : ClusterRecord) (M : Master) (bans : List ℕ) → Allots x c M → M.reported ≡ reported → (has_number m M.reported ≡ true → m < length c.machines) → ((n : ℕ) → has_number n bans ≡ (not (nat_eq n m) && has_number n M.bans))
      → Allots y c (record M { bans = bans })
  pub touches : Touches x y
  pub table : y.table ≡ x.table

-- the plan of the master was carried out, and the line brought up to date; or there is none
pub record CarriesOut (x y : AllotmentRecord) (c : ClusterRecord) (M : Master) : Type 0 where
  pub plan : Plan
  pub planned : plan_of c M ≡ Some plan
  pub stands : Allots y c (line_up (preempted M plan))

abbrev pub PlansAlike : Bool → AllotmentRecord → AllotmentRecord → ClusterRecord → Master → Type 0
PlansAlike false x y c M = plan_of c M ≡ None
PlansAlike true x y c M = CarriesOut x y c M

pub record IsPreempted (found : Bool) (x y : AllotmentRecord) : Type 0 where
  pub alike : (c : ClusterRecord) (M : Master) → Allots x c M → PlansAlike found x y c M
  pub none : found ≡ false → y ≡ x
  pub waits : AllWait y
  pub up : IsUpToDate y.placer.seen y.table
  pub spots : AreTouched x.table.entries y.table.entries x.touched y.touched
  pub table : y.table ≡ record x.table { entries = y.table.entries }
  pub turns : y.placer.seen.turns ≤ x.placer.seen.turns + 2048

-- the same of a core, before the end of the step
pub record RoomIsMade (news : StepChanges) (new : CoreRecord) (r : MasterRole) : Type 0 where
  pub plan : Plan
  pub planned : plan_of r.cluster r.state ≡ Some plan
  pub stands : StandsMid news new (changed_by (λ M. line_up (preempted M plan)) r)
  pub lined : line_up (line_up (preempted r.state plan)) ≡ line_up (preempted r.state plan)

pub record MakesRoom (news : StepChanges) (old new : CoreRecord) : Type 0 where
  pub mid : IsMid new news
  pub made : (r : MasterRole) → StandsFor old r → RoomIsMade news new r
  pub within : (n : ℕ) → IsWithin n old → IsWithinSoon n new

abbrev pub Preempts : Bool → CoreRecord → CoreRecord → Type 0
Preempts false old new = (new ≡ old) × ((r : MasterRole) → StandsFor old r → plan_of r.cluster r.state ≡ None)
Preempts true old new = (news : StepChanges) → AreStepChanges None None news → MakesRoom news old new
