-- What the orders of the code are, and what one makes of an application and of a master by itself, with the hard state.
use Rattle.std.specs.Prelude.{◌≡◌, ◌⊎◌, ◌<◌, ◌≤◌, ℕ, Bool, true, false, List, Option, Some, None, Result, Ok, Err, OnOk, IsOk}
use Rattle.fuxi_io.specs.Disks.{Told, LeavesAlways}
use Rattle.fuxi_terms.specs.Cluster.{ClusterRecord, has_group}
use Rattle.fuxi_terms.specs.Limits.{most_jobs, most_machines}
use Rattle.spec_roles.specs.Refusals.{Refusal as WrittenRefusal, NotRunning}
use Rattle.spec_roles.specs.HardState.{HardState, HardEvent, Raise as Raising, Submission, Finishing, Banning, Unbanning}
use Rattle.spec_roles.specs.Masters.{Master}
use Rattle.spec_roles.specs.Apps.{AppRole, AppCommand, Wants, WantsNear, WantsInRack, Avoids, GivesBack}
use Rattle.spec_roles.specs.MasterSteps.{MasterCommand, Submits, Finishes, BansMachine, UnbansMachine, StartsServing, MakesRoom, Commanded, Admits, Ends, Bans, Unbans, Begins, Preempts, changes, writes, command_of}
use Rattle.spec_roles.specs.MasterRoles.{MasterRole, master_commanded}
use Rattle.spec_refinement.specs.SeenParties.{Kind, Masters, Agents, Apps}
use Rattle.schedule_unit.specs.declared.party.Role.{Role}
use Rattle.schedule_unit.specs.declared.party.Role.TheVariants as role
use Rattle.hard_state.specs.HardFiles.{Kept, records_of, IsAtRest}
use Rattle.app_master.specs.AppCores.{AppCore, StandsFor as StandsForApp}
use Rattle.fuxi_master.specs.Cores.{CoreRecord, StandsFor}
use Rattle.fuxi_master.specs.declared.event.MasterEvent.{MasterEvent}
use Rattle.fuxi_master.specs.declared.event.MasterEvent.TheVariants.{Packet, Admit, Finish, Ban, Unban, Begin, Preempt, Turn, TurnTo, Resync}
use Rattle.schedule_text.specs.Asked.{job_named}
use Rattle.schedule_text.specs.Printing.{as_refusal}
use Rattle.schedule_text.specs.Writing.{switch}
use Rattle.schedule_text.specs.declared.refusal.Refusal.{Refusal}
use Rattle.party_commands.specs.PartyCommands.{PartyCommand, Turns, Resyncs, Asks, Governs}
use Rattle.party_commands.specs.declared.command.AppCommand.{AppCommand as AppCommandTold}
use Rattle.party_commands.specs.declared.command.AppCommand.TheVariants as app
use Rattle.party_commands.specs.declared.command.MasterCommand.{MasterCommand as MasterCommandTold}
use Rattle.party_commands.specs.declared.command.MasterCommand.TheVariants as master
use Rattle.party_commands.specs.declared.command.PartyCommand.{PartyCommand as PartyCommandTold}
use Rattle.party_commands.specs.declared.command.PartyCommand.TheVariants as party
use Rattle.party_commands.specs.declared.writing.Writing.{Writing}
use Rattle.party_commands.specs.declared.writing.Writing.TheVariants as writing

-- The orders
abbrev pub kind_named : Role → Kind
kind_named role.Master = Masters
kind_named role.Agent = Agents
kind_named role.App = Apps

abbrev pub app_command : AppCommandTold → AppCommand
app_command (app.Want u n) = Wants u.0 n
app_command (app.Near u m n) = WantsNear u.0 m.0 n
app_command (app.Rack u r n) = WantsInRack u.0 r.0 n
app_command (app.Avoid u m on) = Avoids u.0 m.0 (switch on)
app_command (app.Back u m n) = GivesBack u.0 m.0 n

abbrev pub master_command : MasterCommandTold → MasterCommand
master_command (master.Submit a g asks) = Submits (job_named a.0 g.0 asks.now)
master_command (master.Finish a) = Finishes a.0
master_command (master.Ban m) = BansMachine m.0
master_command (master.Unban m) = UnbansMachine m.0
master_command master.Begin = StartsServing
master_command master.Preempt = MakesRoom

abbrev pub command_as : PartyCommandTold → PartyCommand
command_as (party.Turn kind number) = Turns (kind_named kind) number
command_as (party.Resync kind number) = Resyncs (kind_named kind) number
command_as (party.App job command) = Asks job.0 (app_command command)
command_as (party.Master epoch command) = Governs epoch (master_command command)

abbrev pub named_of : Option PartyCommandTold → Option PartyCommand
named_of None = None
named_of (Some o) = Some (command_as o)

-- a job that is submitted has the number of one
abbrev pub IsNamed : MasterCommandTold → Type 0
IsNamed (master.Submit a g asks) = a.0 < most_jobs
IsNamed (master.Finish a) = Unit {0}
IsNamed (master.Ban m) = Unit {0}
IsNamed (master.Unban m) = Unit {0}
IsNamed master.Begin = Unit {0}
IsNamed master.Preempt = Unit {0}

abbrev pub HasNamed : PartyCommandTold → Type 0
HasNamed (party.Turn kind number) = Unit {0}
HasNamed (party.Resync kind number) = Unit {0}
HasNamed (party.App job command) = Unit {0}
HasNamed (party.Master epoch command) = IsNamed command

-- Applications. After a command that is done it stands for what the application by itself has become; one that is refused has changed nothing
abbrev pub AskedAs : AppCore → AppCore → Option Refusal → Result AppRole WrittenRefusal → Type 0
AskedAs old new None (Ok r) = StandsForApp new r
AskedAs old new None (Err f) = ⊥
AskedAs old new (Some why) (Ok r) = ⊥
AskedAs old new (Some why) (Err f) = (new ≡ old) × (f ≡ as_refusal why)

-- Masters. What is written of the hard state
abbrev pub event_of : Writing → HardEvent
event_of writing.Raise = Raising
event_of (writing.Submit job) = Submission job.now
event_of (writing.Finish app) = Finishing app.0
event_of (writing.Ban machine) = Banning machine.0
event_of (writing.Unban machine) = Unbanning machine.0

-- a machine that is banned or unbanned is one that a cluster may have
abbrev pub IsWritable : Writing → Type 0
IsWritable writing.Raise = Unit {0}
IsWritable (writing.Submit job) = Unit {0}
IsWritable (writing.Finish app) = Unit {0}
IsWritable (writing.Ban machine) = machine.0 < most_machines
IsWritable (writing.Unban machine) = Unit {0}

-- what a master is told by a command
abbrev pub IsCommand : MasterEvent → Type 0
IsCommand (Packet x) = ⊥
IsCommand (Admit job) = Unit {0}
IsCommand (Finish app) = Unit {0}
IsCommand (Ban machine) = machine.0 < most_machines
IsCommand (Unban machine) = machine.0 < most_machines
IsCommand Begin = Unit {0}
IsCommand Preempt = Unit {0}
IsCommand Turn = ⊥
IsCommand (TurnTo party) = ⊥
IsCommand Resync = ⊥

-- what is written before it is told; for two commands nothing is
abbrev pub written_for : MasterEvent → Option HardEvent
written_for (Packet x) = None
written_for (Admit job) = Some (Submission job)
written_for (Finish app) = Some (Finishing app.0)
written_for (Ban machine) = Some (Banning machine.0)
written_for (Unban machine) = Some (Unbanning machine.0)
written_for Begin = None
written_for Preempt = None
written_for Turn = None
written_for (TurnTo party) = None
written_for Resync = None

-- whether something is written for a command
abbrev pub has_writing : MasterCommand → Bool
has_writing (Submits j) = true
has_writing (Finishes a) = true
has_writing (BansMachine m) = true
has_writing (UnbansMachine m) = true
has_writing StartsServing = false
has_writing MakesRoom = false

abbrev pub writing_as : Option Writing → Option HardEvent
writing_as None = None
writing_as (Some w) = Some (event_of w)

-- A command behind its first tests: it is written, and the master is told
abbrev pub done_by : ClusterRecord → HardState → Master → MasterEvent → Result Commanded WrittenRefusal
done_by c h M (Packet x) = Err NotRunning
done_by c h M (Admit j) = writes c h M (Submission j) (Admits j)
done_by c h M (Finish a) = writes c h M (Finishing a.0) (Ends a.0)
done_by c h M (Ban m) = writes c h M (Banning m.0) (Bans m.0)
done_by c h M (Unban m) = writes c h M (Unbanning m.0) (Unbans m.0)
done_by c h M Begin = changes c h M Begins
done_by c h M Preempt = changes c h M Preempts
done_by c h M Turn = Err NotRunning
done_by c h M (TurnTo party) = Err NotRunning
done_by c h M Resync = Err NotRunning

-- the first tests of a command, whatever the hard state and the master are: what the master is then told, or why it is refused
abbrev pub TestsAs : ClusterRecord → MasterCommand → Result MasterEvent Refusal → Type 0
TestsAs c x (Ok event) = (h : HardState) (M : Master) → command_of c h M x ≡ done_by c h M event
TestsAs c x (Err why) = (h : HardState) (M : Master) → command_of c h M x ≡ Err (as_refusal why)

-- A master whose epoch is the fence knows the jobs that are written, and none has a greater epoch; there is such a master
pub record KnowsWritten (h : HardState) (core : CoreRecord) : Type 0 where
  pub role : MasterRole
  pub stands : StandsFor core role
  pub ran : role.state.epoch ≤ h.fence
  pub jobs : role.state.epoch ≡ h.fence → role.state.jobs ≡ h.jobs

-- A command carried out: the core stands for what the master by itself has become, and the hard state is the one that it leaves; one that is refused
-- leaves both
abbrev pub ObeyedAs : MasterRole → HardState → HardState → CoreRecord → Option Refusal → Result (MasterRole × HardState) WrittenRefusal → Type 0
ObeyedAs r old new core None (Ok p) = StandsFor core p.0 × (new ≡ p.1)
ObeyedAs r old new core None (Err f) = ⊥
ObeyedAs r old new core (Some why) (Ok p) = ⊥
ObeyedAs r old new core (Some why) (Err f) = StandsFor core r × (new ≡ old) × (f ≡ as_refusal why)

-- What want of memory says of a command: it is not refused, neither by its tests nor by what is written. But a job is made unit by unit while it is tested, and
-- what nothing is written for the master may refuse by itself
abbrev pub MayWant : MasterRole → HardState → MasterCommand → Type 0
MayWant r h (Submits j) = has_group r.cluster j.group ≡ true
MayWant r h (Finishes a) = IsOk (master_commanded r h (Finishes a))
MayWant r h (BansMachine m) = IsOk (master_commanded r h (BansMachine m))
MayWant r h (UnbansMachine m) = IsOk (master_commanded r h (UnbansMachine m))
MayWant r h StartsServing = Unit {0}
MayWant r h MakesRoom = Unit {0}

-- of its tests a submission alone wants memory, once its group is there
abbrev pub TestsWant : ClusterRecord → MasterCommand → Type 0
TestsWant c (Submits j) = has_group c j.group ≡ true
TestsWant c (Finishes a) = ⊥
TestsWant c (BansMachine m) = ⊥
TestsWant c (UnbansMachine m) = ⊥
TestsWant c StartsServing = ⊥
TestsWant c MakesRoom = ⊥

abbrev pub hard_after : HardState → Result (MasterRole × HardState) WrittenRefusal → HardState
hard_after h (Ok p) = p.1
hard_after h (Err f) = h

-- the file stands for one of two
abbrev pub IsEither : HardState → HardState → List ℕ → Type 0
IsEither before after file = (records_of file ≡ Ok before) ⊎ (records_of file ≡ Ok after)

-- From a checkpoint at rest: no call of the disk is made, or at each moment a crash leaves a file that stands for the hard state before the command or
-- for the one after it. Once it is answered the checkpoint is at rest.
abbrev pub LeavesOrder : {A E : Type 0} → Kept → Kept → HardState → Result A E → Told → Told → Type 0
LeavesOrder before after left result old new =
    IsAtRest before old.now → ((new ≡ old) ⊎ LeavesAlways (IsEither before.value left) old new) × OnOk result (IsAtRest after new.now)
