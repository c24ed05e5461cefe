-- What the party of a node does with an event that is neither a round nor the printing of its state. An event that is none of its own is refused as such, and
-- one that names another party since that one does not run here.
use Rattle.std.specs.Prelude.{◌≡◌, ℕ, Bool, true, false, cond, nat_eq, Option, Some, None, Result, Ok, Err}
use Rattle.spec_roles.specs.Refusals.{Refusal, NotRunning}
use Rattle.spec_roles.specs.HardState.{HardState}
use Rattle.spec_roles.specs.Agents.{agent_resynced}
use Rattle.spec_roles.specs.Apps.{AppRole, commands_alone, app_resynced}
use Rattle.spec_roles.specs.MasterRoles.{MasterRole, master_commanded, master_resynced}
use Rattle.spec_refinement.specs.SeenParties.{Masters, Agents, Apps}
use Rattle.schedule_text.specs.declared.event.Event.{Event}
use Rattle.node_core.specs.Roles.{Role, OfAgent, OfApp, OfMaster}
use Rattle.party_commands.specs.PartyCommands.{PartyCommand, Resyncs, Asks, Governs, command_of}

-- a command that was done, one that was refused, and one of another kind of node
pub data Answered : Type 0 where
  Done : Answered
  RefusedAs : (why : Refusal) → Answered
  NotHere : Answered

-- the party then, and what is answered
pub record Commanded : Type 0 where
  pub role : Role
  pub answer : Answered

abbrev pub stays : Role → Answered → Commanded
stays r a = record { role = r; answer = a }

abbrev pub becomes : Role → Commanded
becomes r = record { role = r; answer = Done }

-- what it makes of an order that names this number, where its own is that one
abbrev pub where_own : ℕ → ℕ → Role → Commanded → Commanded
where_own named own r does = cond (nat_eq named own) does (stays r (RefusedAs NotRunning))

abbrev pub app_after : AppRole → Result AppRole Refusal → Commanded
app_after r (Ok role) = becomes (OfApp role)
app_after r (Err why) = stays (OfApp r) (RefusedAs why)

abbrev pub master_after : HardState → MasterRole → Result (MasterRole × HardState) Refusal → Commanded
master_after h r (Ok role) = becomes (OfMaster role.1 role.0)
master_after h r (Err why) = stays (OfMaster h r) (RefusedAs why)

-- A resync, what an application is asked, and what a master is commanded. A turn is for a round
abbrev pub answered : Role → PartyCommand → Commanded
answered (OfAgent r) (Resyncs Agents n) = where_own n r.machine (OfAgent r) (becomes (OfAgent (agent_resynced r)))
answered (OfApp r) (Resyncs Apps n) = where_own n r.job (OfApp r) (becomes (OfApp (app_resynced r)))
answered (OfApp r) (Asks n x) = where_own n r.job (OfApp r) (app_after r (commands_alone r x))
answered (OfMaster h r) (Resyncs Masters n) = where_own n r.state.epoch (OfMaster h r) (becomes (OfMaster h (master_resynced r)))
answered (OfMaster h r) (Governs n x) = where_own n r.state.epoch (OfMaster h r) (master_after h r (master_commanded r h x))
answered r order = stays r NotHere

abbrev pub answered_by : Role → Option PartyCommand → Commanded
answered_by r None = stays r NotHere
answered_by r (Some order) = answered r order

abbrev pub commanded : Role → Event → Commanded
commanded r event = answered_by r (command_of event)

-- a master is called, the others dial
abbrev pub accepts : Role → Bool
accepts (OfAgent r) = false
accepts (OfApp r) = false
accepts (OfMaster h r) = true

-- a party that this is answered of, and that stands for what it becomes
pub record IsCommanded (now : Role → Type 0) (answer : Answered) (x : Commanded) : Type 0 where
  pub stands : now x.role
  pub answers : answer ≡ x.answer
