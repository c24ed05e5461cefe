-- What is said of an event is said of it wherever it stands in memory.
use Rattle.std.proofs.Common.{◌≡◌, refl, sym, ◌∙◌, subst}
use Rattle.schedule_text.specs.declared.event.Event.{Event}
use Rattle.schedule_text.specs.declared.event.Event.TheVariants as event
use Rattle.schedule_text.specs.LineForms.{shape_of}
use Rattle.schedule_text.specs.Halting.{is_writing, anywhere}
use Rattle.schedule_text.specs.Writing.{Saying, saying_of, AreWithin, AreAsks, MayStop, IsLineEvent}

record IsAlike (e : Event) : Type 0 where
  says : saying_of (anywhere e) ≡ saying_of e
  writes : is_writing (anywhere e) ≡ is_writing e
  stops : MayStop (anywhere e) → MayStop e

alike : (e : Event) → IsAlike e
alike (event.Master e) = record { says = refl; writes = refl; stops = λ h. h }
alike (event.Stop e) = record { says = refl; writes = refl; stops = λ h. h }
alike (event.Agent m b) = record { says = refl; writes = refl; stops = λ h. h }
alike (event.App a b) = record { says = refl; writes = refl; stops = λ h. h }
alike (event.Submit e a g asks) = record { says = refl; writes = refl; stops = λ h. h }
alike (event.Finish e a) = record { says = refl; writes = refl; stops = λ h. h }
alike (event.Ban e m) = record { says = refl; writes = refl; stops = λ h. h }
alike (event.Unban e m) = record { says = refl; writes = refl; stops = λ h. h }
alike (event.Begin e) = record { says = refl; writes = refl; stops = λ h. h }
alike (event.Preempt e) = record { says = refl; writes = refl; stops = λ h. h }
alike (event.Judge e least percent) = record { says = refl; writes = refl; stops = λ h. h }
alike (event.Want a u n) = record { says = refl; writes = refl; stops = λ h. h }
alike (event.Near a u m n) = record { says = refl; writes = refl; stops = λ h. h }
alike (event.Rack a u r n) = record { says = refl; writes = refl; stops = λ h. h }
alike (event.Avoid a u m on) = record { says = refl; writes = refl; stops = λ h. h }
alike (event.Back a u m n) = record { says = refl; writes = refl; stops = λ h. h }
alike (event.TurnMaster e) = record { says = refl; writes = refl; stops = λ h. h }
alike (event.TurnAgent m) = record { says = refl; writes = refl; stops = λ h. h }
alike (event.TurnApp a) = record { says = refl; writes = refl; stops = λ h. h }
alike (event.ResyncMaster e) = record { says = refl; writes = refl; stops = λ h. h }
alike (event.ResyncAgent m) = record { says = refl; writes = refl; stops = λ h. h }
alike (event.ResyncApp a) = record { says = refl; writes = refl; stops = λ h. h }
alike (event.Deliver k) = record { says = refl; writes = refl; stops = λ h. h }
alike (event.DeliverRange k l) = record { says = refl; writes = refl; stops = λ h. h }
alike (event.Dump k) = record { says = refl; writes = refl; stops = λ h. h }
alike event.Show = record { says = refl; writes = refl; stops = λ h. h }
alike (event.Halt' calls all p x) = let more = alike x in record { says = more.says; writes = refl; stops = λ h. (h.0, sym more.writes ∙ h.1) }

pub line_anywhere : (e : Event) → IsLineEvent (anywhere e) → IsLineEvent e
line_anywhere e h = record {
  numbers = subst (λ (s : Saying). AreWithin 0 (shape_of s.head).places s.numbers) (alike e).says h.numbers;
  asks = subst (λ (s : Saying). AreAsks (shape_of s.head).units s.asks) (alike e).says h.asks;
  stop = (alike e).stops h.stop;
}
