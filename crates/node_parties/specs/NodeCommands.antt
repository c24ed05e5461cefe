-- What a line makes of a master with its hard state, and what it leaves of that on the disk.
use Rattle.std.specs.Prelude.{◌≡◌, ◌⊎◌, List, [], Option, Some, None, Result, IfOk, ⊤}
use Rattle.fuxi_io.specs.Disks.{Told, WhereTold, Leaves, LeavesAlways}
use Rattle.party_ledgers.specs.declared.packets.Packet.{Packet}
use Rattle.spec_roles.specs.HardState.{HardState, empty_hard}
use Rattle.spec_roles.specs.MasterRoles.{MasterRole}
use Rattle.hard_state.specs.HardFiles.{Kept, IsAtRest}
use Rattle.fuxi_master.specs.declared.event.Outcome.{Outcome}
use Rattle.fuxi_master.specs.declared.event.Outcome.TheVariants as outcome
use Rattle.schedule_text.specs.declared.refusal.Refusal.{Refusal}
use Rattle.party_commands.specs.CommandedParties.{IsEither}
use Rattle.party_commands.specs.declared.masters.CommandError.{CommandError}
use Rattle.node_core.specs.Roles.{Role, OfAgent, OfApp, OfMaster}
use Rattle.node_core.specs.PartyEvents.{Commanded, IsCommanded}
use Rattle.node_core.specs.NodeTexts.{as_answer}
use Rattle.node_core.specs.declared.party.Answer.{Answer}
use Rattle.node_core.specs.declared.party.Answer.TheVariants as answer
use Rattle.node_parties.specs.MasterParties.{NodeRecord, IsMasterOf, StandsAs}

-- what a command is answered with
abbrev pub answer_of : Option Refusal → Answer
answer_of None = answer.Done
answer_of (Some refusal) = answer.Refused refusal

-- what a turn sends
abbrev pub packets_in : Outcome → List Packet
packets_in outcome.Done = []
packets_in (outcome.Refused refusal) = []
packets_in (outcome.Sent packets) = packets
packets_in (outcome.Heard heard) = []

abbrev pub Sends : Outcome → Type 0
Sends outcome.Done = ⊥
Sends (outcome.Refused refusal) = ⊥
Sends (outcome.Sent packets) = Unit {0}
Sends (outcome.Heard heard) = ⊥

-- of each master that it stands for: it stands for what this makes of it, and that is answered
abbrev pub Does : (HardState → MasterRole → Commanded) → NodeRecord → NodeRecord × Answer → Type 0
Does made x after = (h : HardState) (r : MasterRole) → IsMasterOf h r x → IsCommanded (StandsAs after.0) (as_answer after.1) (made h r)

abbrev pub hard_in : Role → HardState
hard_in (OfAgent r) = empty_hard
hard_in (OfApp r) = empty_hard
hard_in (OfMaster h r) = h

-- From a checkpoint at rest: no call of the disk is made, or at each moment a crash leaves a file that stands for the hard state before or for the one
-- after. Once it is answered the checkpoint is at rest.
abbrev pub LeavesLine : Kept → HardState → Result (NodeRecord × Answer) CommandError → Told → Told → Type 0
LeavesLine before after result old new =
    IsAtRest before old.now → ((new ≡ old) ⊎ LeavesAlways (IsEither before.value after) old new) × IfOk result (λ done. IsAtRest done.0.hard new.now)

abbrev pub LeavesMade : (HardState → MasterRole → Commanded) → NodeRecord → Result (NodeRecord × Answer) CommandError → Option Told → Option Told → Type 0
LeavesMade made x result old new = (h : HardState) (r : MasterRole) → IsMasterOf h r x → WhereTold (LeavesLine x.hard (hard_in (made h r).role) result) old new

-- what a disk has of a master that ended at a line: whatever file a crash leaves stands for the hard state before the line or for the one behind it
abbrev pub LeavesEither : Role → Role → Told → Type 0
LeavesEither (OfAgent r) after t = ⊤
LeavesEither (OfApp r) after t = ⊤
LeavesEither (OfMaster h r) after t = Leaves (IsEither h (hard_in after)) t.now
