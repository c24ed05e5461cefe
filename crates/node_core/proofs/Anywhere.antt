-- What an event commands does not depend on where it stands in memory.
use Rattle.std.proofs.Common.{◌≡◌, refl, ap}
use Rattle.schedule_text.specs.Halting.{anywhere}
use Rattle.schedule_text.specs.declared.event.Event.{Event}
use Rattle.schedule_text.specs.declared.event.Event.TheVariants as event
use Rattle.node_core.specs.Roles.{Role}
use Rattle.party_commands.specs.PartyCommands.{command_of}
use Rattle.node_core.specs.PartyEvents.{commanded, answered_by}

command_anywhere : (e : Event) → command_of (anywhere e) ≡ command_of e
command_anywhere (event.Halt' calls all p x) = refl
command_anywhere e = refl

pub commanded_anywhere : (r : Role) (e : Event) → commanded r (anywhere e) ≡ commanded r e
commanded_anywhere r e = ap (answered_by r) (command_anywhere e)
