-- The lines of the code as those that are written down.
use Rattle.std.specs.Prelude.{ℕ, Bool, true, false, List, []}
use Rattle.schedule_unit.specs.declared.party.Party.{Party as CodeParty}
use Rattle.schedule_unit.specs.declared.party.Role.{Role}
use Rattle.schedule_unit.specs.declared.party.Role.TheVariants.{Master as MasterRole, Agent as AgentRole, App as AppRole}
use Rattle.spec_net.specs.Net.{Party, Kind, Ack, Delta, Full}
use Rattle.spec_roles.specs.Refusals.{Refusal, NotRunning, NotRising, TooManyMasters, HardFull, Fenced, NoMachine, NoRack, NoGroup, NoJob, NoUnit, Known, Ended, AlreadyBanned, NotBanned, AlreadyServing, NotServing, NothingToPreempt, WantRange, NotUsable, BackRange, NoPacket, NoUnits, TooManyUnits, Dimensions, PriorityRange, QuantityRange, ZeroSize, MostRange}
use Rattle.spec_world.specs.Outputs.{Line, Sent, Came, Lost, Halted, Refused, Judged, State, Fence, Job, Banned, MasterIs, Reported, Grant, Wait, AgentAt, Row, AppAt, Hold, Carry, Packets}
use Rattle.schedule_text.specs.declared.output.Kind.{Kind as CodeKind}
use Rattle.schedule_text.specs.declared.output.Kind.TheVariants.{Ack as CodeAck, Delta as CodeDelta, Full as CodeFull}
use Rattle.schedule_text.specs.declared.output.Output.{Output}
use Rattle.schedule_text.specs.declared.output.Output.TheVariants as out
use Rattle.schedule_text.specs.declared.refusal.Refusal.{Refusal as CodeRefusal}
use Rattle.schedule_text.specs.declared.refusal.Refusal.TheVariants as why
use Rattle.schedule_text.specs.PrintedLines.{line_words, ended}

abbrev pub role_number : Role → ℕ
role_number MasterRole = 1
role_number AgentRole = 2
role_number AppRole = 3

abbrev pub as_party : CodeParty → Party
as_party p = record { id = record { role = role_number p.role; number = p.number }; inc = p.inc }

abbrev pub as_kind : CodeKind → Kind
as_kind CodeAck = Ack
as_kind CodeDelta = Delta
as_kind CodeFull = Full

abbrev pub as_refusal : CodeRefusal → Refusal
as_refusal why.NotRunning = NotRunning
as_refusal (why.NotRising known) = NotRising known
as_refusal (why.TooManyMasters most) = TooManyMasters most
as_refusal (why.HardFull most) = HardFull most
as_refusal (why.Fenced fence) = Fenced fence
as_refusal why.NoMachine = NoMachine
as_refusal why.NoRack = NoRack
as_refusal why.NoGroup = NoGroup
as_refusal why.NoJob = NoJob
as_refusal why.NoUnit = NoUnit
as_refusal why.Known = Known
as_refusal why.Ended = Ended
as_refusal why.AlreadyBanned = AlreadyBanned
as_refusal why.NotBanned = NotBanned
as_refusal why.AlreadyServing = AlreadyServing
as_refusal why.NotServing = NotServing
as_refusal why.NothingToPreempt = NothingToPreempt
as_refusal (why.WantRange most) = WantRange most
as_refusal (why.NotUsable usable) = NotUsable usable
as_refusal why.BackRange = BackRange
as_refusal (why.NoPacket sent) = NoPacket sent
as_refusal why.NoUnits = NoUnits
as_refusal why.TooManyUnits = TooManyUnits
as_refusal (why.Dimensions unit) = Dimensions unit.0
as_refusal (why.PriorityRange unit) = PriorityRange unit.0
as_refusal (why.QuantityRange unit) = QuantityRange unit.0
as_refusal (why.ZeroSize unit) = ZeroSize unit.0
as_refusal (why.MostRange unit) = MostRange unit.0

abbrev pub as_line : Output → Line
as_line (out.Sent number from to kind inc seq bytes) = Sent number (record { from = as_party from; to = as_party to; kind = as_kind kind; inc = inc; seq = seq }) bytes
as_line (out.Heard number fresh what) = Came number fresh what.now
as_line (out.Lost number) = Lost number
as_line (out.Halted epoch written) = Halted epoch written
as_line (out.Refused refusal) = Refused (as_refusal refusal)
as_line (out.Judged machine votes) = Judged machine.0 votes
as_line (out.State events) = State events
as_line (out.Fence epoch) = Fence epoch
as_line (out.Job app group ended) = Job app.0 group.0 ended
as_line (out.Banned machine) = Banned machine.0
as_line (out.Master epoch serving) = MasterIs epoch serving
as_line (out.Reported epoch machine) = Reported epoch machine.0
as_line (out.Grant epoch app unit machine count) = Grant epoch app.0 unit.0 machine.0 count
as_line (out.Wait epoch app unit count) = Wait epoch app.0 unit.0 count
as_line (out.Agent machine boot inc seq) = AgentAt machine.0 boot inc seq
as_line (out.Row machine app unit count) = Row machine.0 app.0 unit.0 count
as_line (out.App app boot inc seq) = AppAt app.0 boot inc seq
as_line (out.Hold app unit machine count) = Hold app.0 unit.0 machine.0 count
as_line (out.Carry app unit machine count) = Carry app.0 unit.0 machine.0 count
as_line (out.Packets number) = Packets number

-- a line that is none of a frame has the same words whatever the frames are
abbrev pub output_words : Output → List (List ℕ)
output_words line = line_words (λ x body. []) (as_line line)

abbrev pub output_text : Output → List ℕ
output_text line = ended (output_words line)

-- a line of a packet that is sent or heard
abbrev pub is_of_packet : Output → Bool
is_of_packet (out.Sent number from to kind inc seq bytes) = true
is_of_packet (out.Heard number fresh what) = true
is_of_packet line = false

-- a line of what a master, an agent or an application has
abbrev pub is_entry : Output → Bool
is_entry (out.Sent number from to kind inc seq bytes) = false
is_entry (out.Heard number fresh what) = false
is_entry (out.Lost number) = false
is_entry (out.Halted epoch written) = false
is_entry (out.Refused refusal) = false
is_entry (out.Judged machine votes) = false
is_entry (out.State events) = false
is_entry (out.Fence epoch) = false
is_entry (out.Job app group ended) = false
is_entry (out.Banned machine) = false
is_entry (out.Master epoch serving) = false
is_entry (out.Reported epoch machine) = true
is_entry (out.Grant epoch app unit machine count) = true
is_entry (out.Wait epoch app unit count) = true
is_entry (out.Agent machine boot inc seq) = true
is_entry (out.Row machine app unit count) = true
is_entry (out.App app boot inc seq) = true
is_entry (out.Hold app unit machine count) = true
is_entry (out.Carry app unit machine count) = true
is_entry (out.Packets number) = false
