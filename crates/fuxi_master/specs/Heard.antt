-- What a core makes of a packet, before the end of the step.
use Rattle.std.specs.Prelude.{◌≡◌, ℕ, Bool, true, false, cond, not, nat_eq, ◌&&◌, T, List, [], Option, Some, None, IfSome, slice_get}
use Rattle.std.specs.List.{AllByRecursion}
use Rattle.fuxi_terms.specs.declared.vectors.Res.{Res}
use Rattle.fuxi_terms.specs.declared.vectors.Sum.{Sum}
use Rattle.fuxi_terms.specs.declared.Key.{Key}
use Rattle.fuxi_terms.specs.Counts.{count}
use Rattle.fuxi_terms.specs.Keys.{key_cmp}
use Rattle.fuxi_terms.specs.Numbers.{has_number, with_number}
use Rattle.fuxi_terms.specs.Rows.{row_total}
use Rattle.fuxi_terms.specs.Tallies.{ChangeRecord}
use Rattle.fuxi_terms.specs.TallyKeys.{credited_key, credited_what, greatest_grant}
use Rattle.fuxi_terms.specs.Vectors.{fits}
use Rattle.party_ledgers.specs.declared.packets.Heard.{Heard}
use Rattle.party_ledgers.specs.declared.packets.Packet.{Packet}
use Rattle.spec_net.specs.Net.{Id, is_taken}
use Rattle.spec_net.specs.Channels.{agent_id, app_id}
use Rattle.spec_net.specs.Sides.{HeardSide, hears_side}
use Rattle.spec_roles.specs.Masters.{Master}
use Rattle.spec_roles.specs.Placing.{line_up}
use Rattle.std.specs.Ordering.{nat_cmp}
use Rattle.std.specs.FinMap.Entries.{put, is_sorted}
use Rattle.fuxi_terms.specs.NumbersSet.{AreNumbers}
use Rattle.spec_net.specs.Ledgers.{Ledger, nothing, tally_ledger}
use Rattle.allotment.specs.Allotted.{AllotmentRecord, Allots, Touches, newly_credited}
use Rattle.spec_roles.specs.MasterSteps.{master_party, adopts, adopted, told_of, said, counted, credit}
use Rattle.fuxi_terms.specs.Cluster.{ClusterRecord, machine_of}
use Rattle.fuxi_terms.specs.Padded.{padded}
use Rattle.schedule_unit.specs.declared.party.MachineNo.{MachineNo}
use Rattle.schedule_unit.specs.declared.party.AppNo.{AppNo}
use Rattle.spec_roles.specs.MasterRoles.{MasterRole, set_side, report_excess}
use Rattle.peer_channel.specs.Parcels.{parcel_is}
use Rattle.hard_state.specs.Knowledge.{Knowledge}
use Rattle.failover.specs.KeptReports.{kept_entries, kept_of}
use Rattle.ledger_updates.specs.declared.grants.StepChanges.{StepChanges}
use Rattle.ledger_updates.specs.AllShown.{Down, App}
use Rattle.fuxi_terms.specs.Jobs.{unit_count}
use Rattle.grant_table.specs.GrantTables.{as_known}
use Rattle.fuxi_master.specs.Cores.{CoreRecord, StandsFor, IsNear, HasBoots, IsCore, IsWithin, IsWithinSoon}
use Rattle.fuxi_master.specs.Steps.{IsMid, StandsMid}
use Rattle.fuxi_master.specs.ToldAsHeard.{IsHeardOnly, ToldButAt}

-- what is tested of a report: what is known, what the machine has, the epoch, whether the machine is reported and banned
pub record ReportTest : Type 0 where
  pub known : Knowledge
  pub has : List ℕ
  pub epoch : ℕ
  pub reported : Bool
  pub banned : Bool

-- a report that would be adopted, and of which the entries that would be kept do not fit
abbrev pub is_too_much : ReportTest → Ledger → Bool
is_too_much t w = (nat_eq w.head t.epoch && not t.reported) && (not t.banned && not (fits (row_total (kept_entries t.known.jobs w.rows)) t.has))

abbrev pub excess_by : ReportTest → Ledger → Option (Sum × Res)
excess_by t w = cond (is_too_much t w) (Some (record { q = row_total (kept_entries t.known.jobs w.rows) }, record { q = t.has })) None

-- the side of a peer as it hears the packet
abbrev pub heard_of : MasterRole → Id → Packet → HeardSide
heard_of r from x = hears_side (master_party r.state) true (report_excess r.cluster r.state from) (r.sides from) (parcel_is x)

abbrev pub with_heard : MasterRole → Id → HeardSide → MasterRole
with_heard r from h = record { cluster = r.cluster; state = r.state; sides = set_side r.sides from h.side }

-- an agent's packet is heard: nothing changes but its side. due: it brought a report that is adopted now
pub record HearsAgent (m : ℕ) (x : Packet) (heard : Heard) (due : Bool) (new : CoreRecord) (r : MasterRole) : Type 0 where
  pub fresh : heard.fresh ≡ (heard_of r (agent_id m) x).fresh
  pub says : heard.what ≡ (heard_of r (agent_id m) x).what
  pub role : StandsFor new (with_heard r (agent_id m) (heard_of r (agent_id m) x))
  pub due_is : due ≡ (is_taken (heard_of r (agent_id m) x).what && adopts r.state m (heard_of r (agent_id m) x).side.got)
  pub fits : due ≡ true → report_excess r.cluster r.state (agent_id m) (heard_of r (agent_id m) x).side.got ≡ None

-- a machine whose report came and is not adopted yet; what would be kept of it fits
pub record IsDue (m : ℕ) (x : CoreRecord) : Type 0 where
  pub unreported : has_number m x.reported.numbers ≡ false
  pub fits : (d : Down) → slice_get x.agents m ≡ Some d → fits (row_total (kept_of x.known m d.incoming.received.table)) (padded (machine_of x.allotment.table.cluster m).has) ≡ true

pub record IsAgentHeard (m : ℕ) (x : Packet) (heard : Heard) (due : Bool) (old new : CoreRecord) : Type 0 where
  pub core : IsCore new
  pub within : (n : ℕ) → IsWithin n old → IsWithin n new
  pub hears : (r : MasterRole) → StandsFor old r → HearsAgent m x heard due new r
  pub waits : due ≡ true → IsDue m new

-- the state that adopts what came of an agent, and then with its line up to date
abbrev pub adopting : Master → ℕ → Ledger → Master
adopting M m report = record M { reported = with_number m M.reported; table = cond (has_number m M.bans) M.table (adopted M.jobs m report.rows M.table) }

abbrev pub adopting_role : ℕ → MasterRole → MasterRole
adopting_role m r = record { cluster = r.cluster; state = line_up (adopting r.state m (r.sides (agent_id m)).got); sides = r.sides }

-- a change of the master's state and of a side, that is not shown yet: to says what role it makes
pub record Changes (news : StepChanges) (to : MasterRole → MasterRole) (old new : CoreRecord) : Type 0 where
  pub mid : IsMid new news
  pub stands : (r : MasterRole) → StandsFor old r → StandsMid news new (to r)
  pub within : (n : ℕ) → IsWithin n old → IsWithinSoon n new

-- news with nothing credited
pub record AreStepChanges (reported : Option MachineNo) (admitted : Option AppNo) (news : StepChanges) : Type 0 where
  pub reported_is : news.reported ≡ reported
  pub admitted_is : news.admitted ≡ admitted
  pub job_is : news.job ≡ None
  pub machines_are : news.machines.items ≡ []
  pub credited_is : news.credited.items ≡ []

-- the report of a machine is adopted, and the line brought up to date
pub record IsAdopted (machine : MachineNo) (news : StepChanges) (old new : CoreRecord) : Type 0 where
  pub named : AreStepChanges (Some machine) None news
  pub changes : Changes news (adopting_role machine.0) old new
  pub lined : (r : MasterRole) → StandsFor old r → line_up (adopting_role machine.0 r).state ≡ (adopting_role machine.0 r).state

-- an application's packet is heard: nothing changes but its side. Where the sender is new, its grants do not have its boot yet
pub record HearsApp (a : ℕ) (x : Packet) (heard : Heard) (new : CoreRecord) (r : MasterRole) : Type 0 where
  pub fresh : heard.fresh ≡ (heard_of r (app_id a) x).fresh
  pub says : heard.what ≡ (heard_of r (app_id a) x).what
  pub role : StandsFor new (with_heard r (app_id a) (heard_of r (app_id a) x))

-- a change that was taken of a demand that counted: it names the keys at which the demand, where it counts still, asks or gives back otherwise
-- than before
pub record ChangesAsked (a : ℕ) (fresh taken : Bool) (change : ChangeRecord) (x : CoreRecord) : Type 0 where
  pub asks : (d : App) → slice_get x.apps a ≡ Some (Some d) → fresh ≡ false → taken ≡ true → d.incoming.received.head ≡ x.epoch → ToldButAt change.entries a d.incoming.received.entries d.outgoing.present.entries x.allotment

pub record IsAppHeard (a : ℕ) (x : Packet) (heard : Heard) (change : Option ChangeRecord) (old new : CoreRecord) : Type 0 where
  pub near : IsNear new
  pub boots : HasBoots (λ b. heard.fresh && nat_eq b a) new
  pub only : IsHeardOnly a heard.fresh (is_taken heard.what) near.role
  pub within : (n : ℕ) → IsWithin n old → IsWithin n new
  pub hears : (r : MasterRole) → StandsFor old r → HearsApp a x heard new r
  pub asks : IfSome change (λ change. ChangesAsked a heard.fresh (is_taken heard.what) change new)

-- the state that takes what came of an application, where that is a new boot or a demand was taken
abbrev pub demanding : Bool → Bool → MasterRole → ℕ → MasterRole
demanding fresh taken r a = record { cluster = r.cluster; state = told_of r.state fresh taken (app_id a) (said r.cluster r.state (app_id a) (r.sides (app_id a)).got); sides = r.sides }

-- what a demand gives back is credited, and the demand is then the job's
pub record IsCredited (a : ℕ) (es given : List (Key × ℕ)) (x y : AllotmentRecord) : Type 0 where
  pub stands : (c : ClusterRecord) (M : Master) (head : ℕ) (credited : List (Key × ℕ)) → Allots x c M → ((u m : ℕ) → count key_cmp credited (credited_key u m) ≡ count key_cmp given (credited_key u m))
      → Allots y c (record M { demands = put nat_cmp a (counted c M.jobs a (tally_ledger head es)) M.demands; table = credit a credited (counted c M.jobs a (tally_ledger head es)).entries M.table })
  pub touches : Touches x y
  pub table : y.table ≡ record x.table { entries = y.table.entries }

-- what came of an application: of a demand that counts, what it gives back is credited; else its demand counts as empty
pub record IsDemanded (a : ℕ) (fresh live : Bool) (d : App) (x y : AllotmentRecord) (numbers : List (Key × ℕ)) : Type 0 where
  pub dead : live ≡ false → (c : ClusterRecord) (M : Master) → Allots x c M → Allots y c (record M { demands = put nat_cmp a nothing M.demands })
  pub dead_table : live ≡ false → y.table ≡ x.table
  pub dead_numbers : live ≡ false → numbers ≡ []
  pub alive : live ≡ true → IsCredited a d.incoming.received.entries (cond fresh [] d.outgoing.present.entries) x y
  pub alive_numbers : live ≡ true → numbers ≡ newly_credited x.table.cluster (unit_count (as_known x.table.jobs) a) (cond fresh [] d.outgoing.present.entries) d.incoming.received.entries
  pub touches : Touches x y
  pub table : y.table ≡ record x.table { entries = y.table.entries }
  pub sorted : T (is_sorted key_cmp d.incoming.received.entries)
  pub numbers_are : AreNumbers key_cmp greatest_grant numbers
  pub kinds : AllByRecursion (λ e. nat_eq e.0.what credited_what ≡ true) numbers

-- news of what is credited to a job
pub record IsCredit (app : AppNo) (numbers : List (Key × ℕ)) (news : StepChanges) : Type 0 where
  pub reported_is : news.reported ≡ None
  pub admitted_is : news.admitted ≡ None
  pub job_is : news.job ≡ Some app
  pub machines_are : news.machines.items ≡ []
  pub credited_is : news.credited.items ≡ numbers
