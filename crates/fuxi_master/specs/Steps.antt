-- What a master is told and answers, in the words of the master by itself, and what its calls do.
use Rattle.std.specs.Prelude.{◌≡◌, ℕ, ◌+◌, ◌<◌, Bool, true, false, nat_eq, nat_lt, T, List, [], ◌∷◌, ◌++◌, length, map, Option, Some, None}
use Rattle.std.specs.List.{AllByRecursion}
use Rattle.std.specs.Ordering.{nat_cmp}
use Rattle.std.specs.FinMap.Entries.{is_sorted}
use Rattle.fuxi_terms.specs.Jobs.{is_known}
use Rattle.fuxi_terms.specs.Keys.{key_cmp}
use Rattle.fuxi_terms.specs.TallyKeys.{greatest_grant, credited_what}
use Rattle.fuxi_terms.specs.Limits.{most_machines}
use Rattle.schedule_unit.specs.declared.party.MachineNo.{MachineNo}
use Rattle.schedule_unit.specs.declared.party.AppNo.{AppNo}
use Rattle.schedule_unit.specs.declared.party.Role.{Role}
use Rattle.schedule_unit.specs.declared.party.Role.TheVariants.{Master as AsMaster, Agent as AsAgent, App as AsApp}
use Rattle.party_ledgers.specs.declared.packets.Heard.{Heard}
use Rattle.party_ledgers.specs.declared.packets.Packet.{Packet}
use Rattle.party_ledgers.specs.declared.packets.Kind.TheVariants.{End}
use Rattle.party_ledgers.specs.Packets.{IsFormed}
use Rattle.spec_net.specs.Net.{Id}
use Rattle.spec_net.specs.Channels.{agent_id, app_id}
use Rattle.spec_roles.specs.Refusals.{Refusal, AlreadyServing as SaysAlready, NotServing as SaysNot, NothingToPreempt as SaysNothing}
use Rattle.spec_roles.specs.MasterSteps.{Admits, Ends, Bans, Unbans, Begins, Preempts}
use Rattle.spec_roles.specs.MasterRoles.{MasterRole, ends_alone, MasterTold, Comes, Told, TurnAll, TurnTo as TurnToOne, ResyncAll, MasterAnswer, Done as IsDone, RefusedAs, Sent as SentAs, HeardAs, MasterStepped, master_steps_alone, master_hears_alone, report_excess}
use Rattle.peer_channel.specs.Parcels.{id_of, parcel_is, IsSent}
use Rattle.fuxi_terms.specs.NumbersSet.{AreNumbers}
use Rattle.ledger_updates.specs.declared.grants.StepChanges.{StepChanges}
use Rattle.ledger_updates.specs.AllShown.{RowsAreBefore, GrantsAreBefore, credited_after}
use Rattle.fuxi_master.specs.declared.event.MasterEvent.{MasterEvent}
use Rattle.fuxi_master.specs.declared.event.MasterEvent.TheVariants.{Packet as PacketComes, Admit, Finish, Ban, Unban, Begin, Preempt, Turn, TurnTo, Resync}
use Rattle.fuxi_master.specs.declared.event.Outcome.{Outcome}
use Rattle.fuxi_master.specs.declared.event.Outcome.TheVariants.{Done, Refused, Sent, Heard as HeardOne}
use Rattle.fuxi_master.specs.declared.event.MasterRefusal.{MasterRefusal}
use Rattle.fuxi_master.specs.declared.event.MasterRefusal.TheVariants.{AlreadyServing, NotServing, NothingToPreempt}
use Rattle.fuxi_master.specs.Cores.{CoreRecord, IsKept, IsCore, StandsWith, StandsFor, IsWithin}
use Rattle.fuxi_master.specs.ToldAsHeard.{IsToldAsHeard}

abbrev pub told_by : MasterEvent → MasterTold
told_by (PacketComes x) = Comes (parcel_is x)
told_by (Admit job) = Told (Admits job)
told_by (Finish app) = Told (Ends app.0)
told_by (Ban machine) = Told (Bans machine.0)
told_by (Unban machine) = Told (Unbans machine.0)
told_by Begin = Told Begins
told_by Preempt = Told Preempts
told_by Turn = TurnAll
told_by (TurnTo party) = TurnToOne (id_of party.role party.number)
told_by Resync = ResyncAll

abbrev pub refusal_of : MasterRefusal → Refusal
refusal_of AlreadyServing = SaysAlready
refusal_of NotServing = SaysNot
refusal_of NothingToPreempt = SaysNothing

abbrev pub answer_of : Outcome → MasterAnswer
answer_of Done = IsDone
answer_of (Refused refusal) = RefusedAs (refusal_of refusal)
answer_of (Sent packets) = SentAs (map parcel_is packets)
answer_of (HeardOne heard) = HeardAs heard.fresh heard.what

-- a master talks to the agents of its cluster and to the applications of the jobs that it knows
abbrev pub is_peer : CoreRecord → Role → ℕ → Bool
is_peer x AsMaster n = false
is_peer x AsAgent n = nat_lt n (length x.allotment.table.cluster.machines)
is_peer x AsApp n = is_known x.known.jobs n

-- when an event may be handed in
abbrev pub IsFitting : CoreRecord → MasterEvent → Type 0
IsFitting x (PacketComes packet) = IsFormed packet × (packet.kind ≡ End → ⊥)
IsFitting x (Admit job) = is_known x.known.jobs job.number ≡ false
IsFitting x (Finish app) = is_known x.known.jobs app.0 ≡ true
IsFitting x (Ban machine) = machine.0 < most_machines
IsFitting x (Unban machine) = machine.0 < most_machines
IsFitting x Begin = Unit {0}
IsFitting x Preempt = Unit {0}
IsFitting x Turn = Unit {0}
IsFitting x (TurnTo party) = is_peer x party.role party.number ≡ true
IsFitting x Resync = Unit {0}

-- one step of a master by itself
pub record Answers (new : CoreRecord) (outcome : Outcome) (s : MasterStepped) : Type 0 where
  pub role : StandsFor new s.role
  pub says : answer_of outcome ≡ s.answer

-- of every master by itself that the core stands for
abbrev pub StepsAlike : MasterEvent → CoreRecord → CoreRecord → Outcome → Type 0
StepsAlike event old new outcome = (r : MasterRole) → StandsFor old r → Answers new outcome (master_steps_alone r (told_by event))

-- Within a step. The peers to which something is appended in any case
abbrev pub agent_named : Option MachineNo → List Id
agent_named None = []
agent_named (Some m) = agent_id m.0 ∷ []

abbrev pub app_named : Option AppNo → List Id
app_named None = []
app_named (Some a) = app_id a.0 ∷ []

abbrev pub forced_by : StepChanges → List Id
forced_by news = agent_named news.reported ++ app_named news.admitted

-- what was changed is not shown yet
pub record IsMid (x : CoreRecord) (news : StepChanges) : Type 0 where
  pub kept : IsKept x
  pub rows : RowsAreBefore x.allotment.table x.allotment.touched x.agents
  pub grants : GrantsAreBefore x.allotment.table x.allotment.touched news x.reported.numbers x.apps
  pub numbers : AreNumbers key_cmp greatest_grant news.credited.items
  pub kinds : AllByRecursion (λ e. nat_eq e.0.what credited_what ≡ true) news.credited.items
  pub rising : T (is_sorted {X = ℕ} nat_cmp (map (λ (m : MachineNo). (m.0, 0)) news.machines.items))
  pub below : AllByRecursion (λ (m : MachineNo). m.0 < most_machines) news.machines.items

-- it stands for the master with the state and sides before the end of its step
abbrev pub StandsMid : StepChanges → CoreRecord → MasterRole → Type 0
StandsMid news x r = StandsWith (credited_after news) x r

pub record HasRole (news : StepChanges) (x : CoreRecord) : Type 0 where
  pub role : MasterRole
  pub stands : StandsMid news x role
  pub told : IsToldAsHeard (λ _. false) role

-- and at its end for the master that has ended it
abbrev pub EndsAlike : StepChanges → CoreRecord → CoreRecord → Type 0
EndsAlike news old new = (r : MasterRole) → StandsMid news old r → StandsFor new (ends_alone r.cluster r.sides r.state (forced_by news))

-- what is sent is formed
abbrev pub IsSentFormed : Outcome → Type 0
IsSentFormed Done = Unit {0}
IsSentFormed (Refused refusal) = Unit {0}
IsSentFormed (Sent packets) = AllByRecursion IsSent packets
IsSentFormed (HeardOne heard) = Unit {0}

-- one step of a core: the new one is in order, and answers as the master by itself
pub record IsStep (event : MasterEvent) (steps : ℕ) (old new : CoreRecord) (outcome : Outcome) : Type 0 where
  pub core : IsCore new
  pub within : IsWithin (steps + 1) new
  pub answers : StepsAlike event old new outcome
  pub formed : IsSentFormed outcome

-- a packet: the new core is in order, and hears it as the master by itself
pub record HearsRole (packet : Packet) (new : CoreRecord) (heard : Heard) (r : MasterRole) : Type 0 where
  pub role : StandsFor new (master_hears_alone (report_excess r.cluster r.state) r (parcel_is packet)).role
  pub fresh : heard.fresh ≡ (master_hears_alone (report_excess r.cluster r.state) r (parcel_is packet)).fresh
  pub says : heard.what ≡ (master_hears_alone (report_excess r.cluster r.state) r (parcel_is packet)).what

pub record IsHeard (packet : Packet) (steps : ℕ) (old new : CoreRecord) (heard : Heard) : Type 0 where
  pub core : IsCore new
  pub within : IsWithin (steps + 1) new
  pub hears : (r : MasterRole) → StandsFor old r → HearsRole packet new heard r
