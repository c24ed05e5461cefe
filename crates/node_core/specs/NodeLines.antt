-- What a line of a node says.
use Rattle.std.specs.Prelude.{ℕ, Bool, false, cond, nat_eq, List, [], ◌∷◌, length, Result, Ok, Err, codes}
use Rattle.std.specs.Str.{bytes_eq}
use Rattle.schedule_text.specs.Words.{words_of}
use Rattle.schedule_text.specs.Halting.{anywhere}
use Rattle.schedule_text.specs.ReadEvents.{event_of}
use Rattle.schedule_text.specs.Writing.{IsLineEvent}
use Rattle.schedule_text.specs.declared.event.Event.{Event as LineEvent}
use Rattle.schedule_text.specs.declared.event.LineFault.{LineFault}
use Rattle.schedule_text.specs.declared.event.LineFault.TheVariants.{WrongCount}
use Rattle.node_core.specs.declared.line.NodeLine.{NodeLine}
use Rattle.node_core.specs.declared.line.NodeLine.TheVariants.{Round, Serve, Show, Event}

abbrev pub begins_with : List ℕ → List (List ℕ) → Bool
begins_with word [] = false
begins_with word (w ∷ ws) = bytes_eq w word

-- the line is this word alone
abbrev pub alone : NodeLine → List (List ℕ) → Result NodeLine LineFault
alone line words = cond (nat_eq (length words) 1) (Ok line) (Err WrongCount)

abbrev pub event_line : Result LineEvent LineFault → Result NodeLine LineFault
event_line (Ok event) = Ok (Event event)
event_line (Err fault) = Err fault

-- a round or the state in one word, or else an event
abbrev pub line_by : List (List ℕ) → Result LineEvent LineFault → Result NodeLine LineFault
line_by words event =
    cond (begins_with (codes "round") words) (alone Round words)
    (cond (begins_with (codes "serve") words) (alone Serve words) (cond (begins_with (codes "show") words) (alone Show words) (event_line event)))

abbrev pub node_line : List ℕ → Result NodeLine LineFault
node_line line = line_by (words_of line) (event_of line)

-- wherever the event of the line stands in memory
abbrev pub line_anywhere : NodeLine → NodeLine
line_anywhere (Event event) = Event (anywhere event)
line_anywhere Round = Round
line_anywhere Serve = Serve
line_anywhere Show = Show

-- its event is one that a line can give
abbrev pub HasLineEvent : NodeLine → Type 0
HasLineEvent (Event event) = IsLineEvent event
HasLineEvent Round = Unit {0}
HasLineEvent Serve = Unit {0}
HasLineEvent Show = Unit {0}
