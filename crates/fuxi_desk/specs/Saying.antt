-- What a line of the code says, in the words of the definitions.
use Rattle.std.specs.Prelude.{◌<◌, ℕ, List}
use Rattle.schedule_text.specs.Halting.{anywhere}
use Rattle.schedule_text.specs.Writing.{IsLineEvent}
use Rattle.master_desk.specs.CallOrders.{most_calls, most_sessions, total}
use Rattle.fuxi_desk.specs.DeskLines.{DeskEvent, Submits, Calls}
use Rattle.fuxi_desk.specs.declared.read.DeskLine.{DeskLine}
use Rattle.fuxi_desk.specs.declared.read.DeskLine.TheVariants.{Submit, Call}

abbrev pub said_of : DeskLine → DeskEvent
said_of (Submit event) = Submits (anywhere event)
said_of (Call session bytes) = Calls session bytes.items

-- it is one that a line can say
abbrev pub IsSaid : DeskLine → Type 0
IsSaid (Submit event) = IsLineEvent event
IsSaid (Call session bytes) = session < most_sessions

-- where it is a call, one more may be added
abbrev pub HasCallLeft : DeskLine → List (List (List ℕ)) → Type 0
HasCallLeft (Submit event) sessions = Unit {0}
HasCallLeft (Call session bytes) sessions = total sessions < most_calls
