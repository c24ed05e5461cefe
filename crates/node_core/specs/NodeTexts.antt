-- The text that a node prints.
use Rattle.std.specs.Prelude.{ℕ, List, [], ◌∷◌, ◌++◌, Option, Some, None, codes, decimal}
use Rattle.std.specs.List.{flat_map}
use Rattle.wire_frames.specs.Names.{name_of, found_of}
use Rattle.spec_net.specs.Net.{Packet}
use Rattle.spec_net.specs.Ledgers.{Body}
use Rattle.spec_world.specs.Outputs.{Line, Refused, State}
use Rattle.spec_world.specs.Show.{show_master}
use Rattle.spec_refinement.specs.States.{agent_lines, app_lines, hard_lines}
use Rattle.schedule_text.specs.PrintedLines.{line_text}
use Rattle.schedule_text.specs.Printing.{as_refusal}
use Rattle.node_core.specs.declared.rounds.RoundLine.{RoundLine}
use Rattle.node_core.specs.declared.rounds.RoundLine.TheVariants.{Done as RoundDone, Fault, Bad, Stranger, Long}
use Rattle.node_core.specs.Roles.{Role, OfAgent, OfApp, OfMaster}
use Rattle.node_core.specs.declared.party.Answer.{Answer}
use Rattle.node_core.specs.declared.party.Answer.TheVariants.{Done as SaysDone, Refused as SaysRefused, NotHere as SaysNotHere}
use Rattle.node_core.specs.PartyEvents.{Answered, Done, RefusedAs, NotHere}

-- no line of a node is one of a frame
abbrev pub no_frame : Packet → Body → List ℕ
no_frame packet body = []

abbrev pub lines_text : List Line → List ℕ
lines_text lines = flat_map (line_text no_frame) lines

-- what a party has; of a master its hard state first
abbrev pub party_lines : Role → List Line
party_lines (OfAgent r) = agent_lines r
party_lines (OfApp r) = app_lines r
party_lines (OfMaster h r) = hard_lines h ++ show_master r.state

-- the state of a node that took so many events
abbrev pub state_text : ℕ → Role → List ℕ
state_text events r = lines_text (State events ∷ party_lines r)

abbrev pub as_answer : Answer → Answered
as_answer SaysDone = Done
as_answer (SaysRefused why) = RefusedAs (as_refusal why)
as_answer SaysNotHere = NotHere

abbrev pub answer_text : Answered → List ℕ
answer_text Done = []
answer_text (RefusedAs why) = lines_text (Refused why ∷ [])
answer_text NotHere = codes "refused NotHere\n"

-- the number that was found, behind the name of a fault
abbrev pub found_text : Option ℕ → List ℕ
found_text None = []
found_text (Some n) = codes " " ++ decimal n

abbrev pub round_text : RoundLine → List ℕ
round_text (RoundDone heard sent) = codes "round done " ++ decimal heard ++ codes " " ++ decimal sent ++ codes "\n"
round_text Fault = codes "round fault\n"
round_text (Bad at fault) = codes "round bad " ++ decimal at ++ codes " " ++ name_of fault ++ found_text (found_of fault) ++ codes "\n"
round_text (Stranger at) = codes "round bad " ++ decimal at ++ codes " Stranger\n"
round_text Long = codes "round long\n"
