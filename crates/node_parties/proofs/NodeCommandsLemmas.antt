-- The lines of a master: a resync, and a command over its hard state.
use Rattle.std.proofs.Common.{◌≡◌, ◌⊎◌, ℕ, true, nat_eq, Option, Some, None, Result, Ok, Err, refl, sym, ◌∙◌, ap, subst, arith}
use Rattle.std.specs.Prelude.{cond, OnOk, IfOk}
use Rattle.fuxi_io.specs.Disks.{Told, LeavesAlways, WhereTold}
use Rattle.spec_roles.specs.Refusals.{Refusal as WrittenRefusal, NotRunning}
use Rattle.spec_roles.specs.HardState.{HardState}
use Rattle.spec_roles.specs.MasterSteps.{MasterCommand}
use Rattle.spec_roles.specs.MasterRoles.{MasterRole, master_commanded}
use Rattle.hard_state.specs.HardFiles.{Kept, IsAtRest}
use Rattle.hard_state.proofs.Runs.{map_where}
use Rattle.fuxi_master.specs.Cores.{MasterRecord}
use Rattle.schedule_text.specs.declared.event.Event.{Event}
use Rattle.schedule_text.specs.declared.refusal.Refusal.{Refusal}
use Rattle.party_commands.specs.PartyCommands.{PartyCommand, command_of}
use Rattle.party_commands.specs.CommandedParties.{IsEither, KnowsWritten, LeavesOrder, ObeyedAs, hard_after}
use Rattle.party_commands.specs.declared.masters.CommandError.{CommandError}
use Rattle.node_core.specs.Roles.{Role, OfAgent, OfApp, OfMaster}
use Rattle.node_core.specs.PartyEvents.{RefusedAs, Commanded, IsCommanded, commanded, master_after, answered, answered_by, stays, where_own}
use Rattle.node_core.specs.NodeTexts.{as_answer}
use Rattle.node_core.specs.declared.party.Answer.{Answer}
use Rattle.node_parties.specs.MasterParties.{NodeRecord, IsMasterOf, IsTied, StandsAs}
use Rattle.node_parties.specs.NodeCommands.{Does, LeavesLine, LeavesMade, answer_of, hard_in}
use Rattle.node_parties.proofs.KnowledgeKept.{Knows, KnowsAfter, commanded_knows}

-- A master knows what is written
knows : (x : NodeRecord) (h : HardState) (r : MasterRole) → IsMasterOf h r x → Knows h r.state
knows x h r s = record { jobs = s.jobs; bans = s.bans; epoch = s.epoch; begun = s.begun }

pub knows_written : (hard : Kept) (m : MasterRecord) → IsTied (record { hard = hard; master = m }) → KnowsWritten hard.value m.core
knows_written hard m tied =
    let s = tied.stands in
    let epoch : tied.role.state.epoch ≡ hard.value.fence = s.epoch ∙ ap (λ (h : HardState). h.fence) (sym s.value) in
    record { role = tied.role; stands = s.stands; ran = omega (arith, epoch); jobs = λ own. s.jobs ∙ ap (λ (h : HardState). h.jobs) (sym s.value) }

-- What it does with a command
pub obeyed : (x new : NodeRecord) (h : HardState) (r : MasterRole) (command : MasterCommand) (answer : Option Refusal) → IsMasterOf h r x → ObeyedAs r x.hard.value new.hard.value new.master.core answer (master_commanded r x.hard.value command)
    → IsCommanded (StandsAs new) (as_answer (answer_of answer)) (master_after h r (master_commanded r h command))
obeyed x new h r command answer s obeys =
    by answer (master_commanded r h command) (commanded_knows h r command (knows x h r s)) (subst (λ k. ObeyedAs r k new.hard.value new.master.core answer (master_commanded r k command)) s.value obeys)
  where
    by : (answer : Option Refusal) (res : Result (MasterRole × HardState) WrittenRefusal) → KnowsAfter res → ObeyedAs r h new.hard.value new.master.core answer res → IsCommanded (StandsAs new) (as_answer (answer_of answer)) (master_after h r res)
    by None (Ok p) k o = record { stands = record { value = o.1; stands = o.0; jobs = k.jobs; bans = k.bans; epoch = k.epoch; begun = k.begun }; answers = refl }
    by None (Err f) k o = elim o [ ]
    by (Some why) (Ok p) k o = elim o [ ]
    by (Some why) (Err f) k o = record { stands = record { value = o.1; stands = o.0; jobs = s.jobs; bans = s.bans; epoch = s.epoch; begun = s.begun }; answers = ap (λ f. RefusedAs f) (sym o.2) }

-- and what a crash leaves of it
left_in : (h : HardState) (r : MasterRole) (res : Result (MasterRole × HardState) WrittenRefusal) → hard_after h res ≡ hard_in (master_after h r res).role
left_in h r (Ok p) = refl
left_in h r (Err f) = refl

pub leaves_obeyed : (x : NodeRecord) (before after : Kept) (m : MasterRecord) (h : HardState) (r : MasterRole) (command : MasterCommand) (written : Result (MasterRecord × Option Refusal) CommandError) (result : Result (NodeRecord × Answer) CommandError) (a b : Option Told)
    → record { hard = before; master = m } ≡ x → before.value ≡ h → ((new : Told) → OnOk written (IsAtRest after new.now) → IfOk result (λ done. IsAtRest done.0.hard new.now))
    → WhereTold (LeavesOrder before after (hard_after before.value (master_commanded r before.value command)) written) a b → WhereTold (LeavesLine x.hard (hard_in (master_after h r (master_commanded r h command)).role) result) a b
leaves_obeyed x before after m h r command written result a b view value rests told =
    subst (λ (y : NodeRecord). WhereTold (LeavesLine y.hard (hard_in (master_after h r (master_commanded r h command)).role) result) a b) view
    (map_where {R = LeavesOrder before after (hard_after before.value (master_commanded r before.value command)) written} {S = LeavesLine before (hard_in (master_after h r (master_commanded r h command)).role) result} a b (λ old new w rest.
    (subst (λ left. (new ≡ old) ⊎ LeavesAlways (IsEither before.value left) old new) left (w rest).0, rests new (w rest).1)) told)
  where
    left : hard_after before.value (master_commanded r before.value command) ≡ hard_in (master_after h r (master_commanded r h command)).role
    left = ap (λ k. hard_after k (master_commanded r k command)) value ∙ left_in h r (master_commanded r h command)

-- A line names the number of the master
pub named_own : (r : Role) (order : PartyCommand) (n own : ℕ) (does : Commanded) (event : Event) → command_of event ≡ Some order → answered r order ≡ where_own n own r does → nat_eq n own ≡ true → commanded r event ≡ does
named_own r order n own does event named is same = ap (answered_by r) named ∙ is ∙ ap (λ b. cond b does (stays r (RefusedAs NotRunning))) same

-- of every party that it stands for
pub all_done : (event : Event) (made : HardState → MasterRole → Commanded) (x : NodeRecord) (result : Result (NodeRecord × Answer) CommandError) → ((h : HardState) (r : MasterRole) → IsMasterOf h r x → commanded (OfMaster h r) event ≡ made h r) → IfOk result (Does made x)
    → IfOk result (λ after. (r : Role) → StandsAs x r → IsCommanded (StandsAs after.0) (as_answer after.1) (commanded r event))
all_done event made x (Err halt) same does = tt
all_done event made x (Ok after) same does = by
  where
    by : (r : Role) → StandsAs x r → IsCommanded (StandsAs after.0) (as_answer after.1) (commanded r event)
    by (OfAgent r) s = elim s [ ]
    by (OfApp r) s = elim s [ ]
    by (OfMaster h r) s = subst (IsCommanded (StandsAs after.0) (as_answer after.1)) (sym (same h r s)) (does h r s)

pub all_left : (event : Event) (made : HardState → MasterRole → Commanded) (x : NodeRecord) (result : Result (NodeRecord × Answer) CommandError) (a b : Option Told) → ((h : HardState) (r : MasterRole) → IsMasterOf h r x → commanded (OfMaster h r) event ≡ made h r) → LeavesMade made x result a b
    → (r : Role) → StandsAs x r → WhereTold (LeavesLine x.hard (hard_in (commanded r event).role) result) a b
all_left event made x result a b same leaves (OfAgent r) s = elim s [ ]
all_left event made x result a b same leaves (OfApp r) s = elim s [ ]
all_left event made x result a b same leaves (OfMaster h r) s = subst (λ (y : Commanded). WhereTold (LeavesLine x.hard (hard_in y.role) result) a b) (sym (same h r s)) (leaves h r s)
