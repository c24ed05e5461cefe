-- What an event orders a party that runs, and which.
use Rattle.std.specs.Prelude.{ℕ, Option, Some, None}
use Rattle.spec_roles.specs.Apps.{AppCommand, Wants, WantsNear, WantsInRack, Avoids, GivesBack}
use Rattle.spec_roles.specs.MasterSteps.{MasterCommand, Submits, Finishes, BansMachine, UnbansMachine, StartsServing, MakesRoom}
use Rattle.spec_refinement.specs.SeenParties.{Kind, Masters, Agents, Apps, turn_of, resync_of}
use Rattle.spec_world.specs.World.{World, Step}
use Rattle.spec_world.specs.Events.{asks, commanded}
use Rattle.schedule_text.specs.Asked.{job_named}
use Rattle.schedule_text.specs.Writing.{switch}
use Rattle.schedule_text.specs.declared.event.Event.{Event}
use Rattle.schedule_text.specs.declared.event.Event.TheVariants as event

-- a turn, a resync, what an application is asked, and what a master of an epoch is commanded
pub data PartyCommand : Type 0 where
  Turns : (kind : Kind) → (number : ℕ) → PartyCommand
  Resyncs : (kind : Kind) → (number : ℕ) → PartyCommand
  Asks : (job : ℕ) → (command : AppCommand) → PartyCommand
  Governs : (epoch : ℕ) → (command : MasterCommand) → PartyCommand

-- the order that an event is, where it is one
abbrev pub command_of : Event → Option PartyCommand
command_of (event.Master e) = None
command_of (event.Stop e) = None
command_of (event.Agent m b) = None
command_of (event.App a b) = None
command_of (event.Submit e a g asks) = Some (Governs e (Submits (job_named a.0 g.0 asks)))
command_of (event.Finish e a) = Some (Governs e (Finishes a.0))
command_of (event.Ban e m) = Some (Governs e (BansMachine m.0))
command_of (event.Unban e m) = Some (Governs e (UnbansMachine m.0))
command_of (event.Begin e) = Some (Governs e StartsServing)
command_of (event.Preempt e) = Some (Governs e MakesRoom)
command_of (event.Judge e least percent) = None
command_of (event.Want a u n) = Some (Asks a.0 (Wants u.0 n))
command_of (event.Near a u m n) = Some (Asks a.0 (WantsNear u.0 m.0 n))
command_of (event.Rack a u r n) = Some (Asks a.0 (WantsInRack u.0 r.0 n))
command_of (event.Avoid a u m on) = Some (Asks a.0 (Avoids u.0 m.0 (switch on)))
command_of (event.Back a u m n) = Some (Asks a.0 (GivesBack u.0 m.0 n))
command_of (event.TurnMaster e) = Some (Turns Masters e)
command_of (event.TurnAgent m) = Some (Turns Agents m.0)
command_of (event.TurnApp a) = Some (Turns Apps a.0)
command_of (event.ResyncMaster e) = Some (Resyncs Masters e)
command_of (event.ResyncAgent m) = Some (Resyncs Agents m.0)
command_of (event.ResyncApp a) = Some (Resyncs Apps a.0)
command_of (event.Deliver k) = None
command_of (event.DeliverRange k l) = None
command_of (event.Dump k) = None
command_of event.Show = None
command_of (event.Halt' calls all p x) = None

-- what it is in a world
abbrev pub step_of : World → PartyCommand → Step
step_of w (Turns k n) = turn_of w k n
step_of w (Resyncs k n) = resync_of w k n
step_of w (Asks a x) = asks w a x
step_of w (Governs e x) = commanded w e x
