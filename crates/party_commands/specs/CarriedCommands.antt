-- What a master is told by a command that passed its first tests, and what comes of it.
use Rattle.std.specs.Prelude.{◌≡◌, Option, Some, None, Result, Ok}
use Rattle.fuxi_terms.specs.Counts.{then_do}
use Rattle.spec_roles.specs.Refusals.{Refusal as WrittenRefusal}
use Rattle.spec_roles.specs.HardState.{HardState}
use Rattle.spec_roles.specs.MasterRoles.{MasterRole, master_changed}
use Rattle.fuxi_master.specs.Cores.{CoreRecord, MasterRecord, StandsFor}
use Rattle.fuxi_master.specs.Steps.{StepsAlike}
use Rattle.fuxi_master.specs.declared.event.MasterEvent.{MasterEvent}
use Rattle.fuxi_master.specs.declared.event.Outcome.{Outcome}
use Rattle.fuxi_master.specs.declared.event.Outcome.TheVariants as outcome
use Rattle.party_text.specs.PrintedRefusals.{master_refusal}
use Rattle.schedule_text.specs.declared.refusal.Refusal.{Refusal}
use Rattle.party_commands.specs.CommandedParties.{ObeyedAs, done_by}

-- why the outcome of a command is a refusal
abbrev pub refusal_in : Outcome → Option Refusal
refusal_in outcome.Done = None
refusal_in (outcome.Refused refusal) = Some (master_refusal refusal)
refusal_in (outcome.Sent packets) = None
refusal_in (outcome.Heard heard) = None

-- a core was told this, and that is why it refused
pub record IsTold (event : MasterEvent) (old : CoreRecord) (after : MasterRecord × Option Refusal) : Type 0 where
  pub outcome : Outcome
  pub steps : StepsAlike event old after.0.core outcome
  pub says : after.1 ≡ refusal_in outcome

-- what it makes of a master and its hard state, which is written first
abbrev pub carried_out : MasterRole → HardState → MasterEvent → Result (MasterRole × HardState) WrittenRefusal
carried_out r h event = then_do (done_by r.cluster h r.state event) (λ k. Ok (master_changed r k.change, k.hard))

-- of each master that the core stands for
abbrev pub CarriesOut : MasterEvent → HardState → HardState → CoreRecord → MasterRecord × Option Refusal → Type 0
CarriesOut event old new core after = (r : MasterRole) → StandsFor core r → ObeyedAs r old new after.0.core after.1 (carried_out r old event)
