-- A stop within a writing, which has an event within it.
use Rattle.std.specs.Prelude.{ℕ, Bool, true, false, Box}
use Rattle.std.specs.declared.alloc.Global.{Global}
use denote.RawPtr.{null_ptr}
use Rattle.schedule_text.specs.declared.event.Event.{Event}
use Rattle.schedule_text.specs.declared.event.Event.TheVariants as event

-- the events whose lines write
abbrev pub is_writing : Event → Bool
is_writing (event.Master e) = true
is_writing (event.Submit e a g asks) = true
is_writing (event.Finish e a) = true
is_writing (event.Ban e m) = true
is_writing (event.Unban e m) = true
is_writing x = false

-- Where the event within it stands in memory says nothing of an event. One that stands nowhere
abbrev pub nowhere : Box (Unit {0}) Global
nowhere = record { ptr = null_ptr; alloc = record { memory = record { seal = record {} } }; value = record {} }

abbrev pub halting : ℕ → Bool → Event → Event
halting calls all x = event.Halt' calls all nowhere x

-- an event, wherever it stands
abbrev pub anywhere : Event → Event
anywhere (event.Halt' calls all p x) = halting calls all (anywhere x)
anywhere x = x
