-- The events of lines as those of the world.
use Rattle.schedule_text.specs.Asked.{job_named}
use Rattle.schedule_text.specs.Writing.{switch}
use Rattle.schedule_text.specs.declared.event.Event.{Event as LineEvent}
use Rattle.schedule_text.specs.declared.event.Event.TheVariants as line
use Rattle.spec_world.specs.Events.{Event, StartMaster, StopMaster, StartAgent, StartApp, Submit, Finish, Ban, Unban, Begin, Preempt, Judge, Want, Near, Rack, Avoid, GiveBack, TurnMaster, TurnAgent, TurnApp, ResyncMaster, ResyncAgent, ResyncApp, Deliver, DeliverRange, Dump, ShowState, Halt}

abbrev pub event_as : LineEvent → Event
event_as (line.Master e) = StartMaster e
event_as (line.Stop e) = StopMaster e
event_as (line.Agent m b) = StartAgent m.0 b
event_as (line.App a b) = StartApp a.0 b
event_as (line.Submit e a g asks) = Submit e (job_named a.0 g.0 asks)
event_as (line.Finish e a) = Finish e a.0
event_as (line.Ban e m) = Ban e m.0
event_as (line.Unban e m) = Unban e m.0
event_as (line.Begin e) = Begin e
event_as (line.Preempt e) = Preempt e
event_as (line.Judge e least percent) = Judge e least percent
event_as (line.Want a u n) = Want a.0 u.0 n
event_as (line.Near a u m n) = Near a.0 u.0 m.0 n
event_as (line.Rack a u r n) = Rack a.0 u.0 r.0 n
event_as (line.Avoid a u m on) = Avoid a.0 u.0 m.0 (switch on)
event_as (line.Back a u m n) = GiveBack a.0 u.0 m.0 n
event_as (line.TurnMaster e) = TurnMaster e
event_as (line.TurnAgent m) = TurnAgent m.0
event_as (line.TurnApp a) = TurnApp a.0
event_as (line.ResyncMaster e) = ResyncMaster e
event_as (line.ResyncAgent m) = ResyncAgent m.0
event_as (line.ResyncApp a) = ResyncApp a.0
event_as (line.Deliver k) = Deliver k
event_as (line.DeliverRange k l) = DeliverRange k l
event_as (line.Dump k) = Dump k
event_as line.Show = ShowState
event_as (line.Halt' calls all p x) = Halt calls all (event_as x)
