-- An event that is an order does in a world what the order is.
use Rattle.std.proofs.Common.{◌≡◌, Some, refl, subst}
use Rattle.std.specs.Prelude.{IfSome}
use Rattle.spec_world.specs.World.{World}
use Rattle.spec_world.specs.Events.{act}
use Rattle.party_commands.specs.PartyCommands.{PartyCommand, command_of, step_of}
use Rattle.schedule_text.specs.declared.event.Event.{Event}
use Rattle.schedule_text.specs.declared.event.Event.TheVariants as line
use Rattle.schedule_replay.specs.LineEvents.{event_as}

by_event : (w : World) (e : Event) → IfSome (command_of e) (λ o. act w (event_as e) ≡ step_of w o)
by_event w (line.Master e) = tt
by_event w (line.Stop e) = tt
by_event w (line.Agent m b) = tt
by_event w (line.App a b) = tt
by_event w (line.Submit e a g asks) = refl
by_event w (line.Finish e a) = refl
by_event w (line.Ban e m) = refl
by_event w (line.Unban e m) = refl
by_event w (line.Begin e) = refl
by_event w (line.Preempt e) = refl
by_event w (line.Judge e least percent) = tt
by_event w (line.Want a u n) = refl
by_event w (line.Near a u m n) = refl
by_event w (line.Rack a u r n) = refl
by_event w (line.Avoid a u m on) = refl
by_event w (line.Back a u m n) = refl
by_event w (line.TurnMaster e) = refl
by_event w (line.TurnAgent m) = refl
by_event w (line.TurnApp a) = refl
by_event w (line.ResyncMaster e) = refl
by_event w (line.ResyncAgent m) = refl
by_event w (line.ResyncApp a) = refl
by_event w (line.Deliver k) = tt
by_event w (line.DeliverRange k l) = tt
by_event w (line.Dump k) = tt
by_event w line.Show = tt
by_event w (line.Halt' calls all p x) = tt

pub ordered : (w : World) (e : Event) (o : PartyCommand) → command_of e ≡ Some o → act w (event_as e) ≡ step_of w o
ordered w e o is = subst (λ s. IfSome s (λ o. act w (event_as e) ≡ step_of w o)) is (by_event w e)
