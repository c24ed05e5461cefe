-- How far the hearing of a connection has come.
use Rattle.std.specs.Prelude.{◌≡◌, ℕ, ◌-◌, Bool, true, false, ◌||◌, ◌&&◌, List, [], ◌∷◌, ◌++◌, drop, Option, Some, None}
use Rattle.fuxi_io.specs.Doors.{Talk, Told, on_last}
use Rattle.fuxi_io.specs.declared.usage_trace.UsageTrace.{UsageTrace}
use Rattle.schedule_unit.specs.declared.party.Party.{Party}
use Rattle.party_ledgers.specs.declared.packets.Packet.{Packet}
use Rattle.wire_frames.specs.declared.fault.FrameFault.{FrameFault}
use Rattle.wire_frames.specs.declared.fault.FrameFault.TheVariants.{Short as ShortFrame, Length, Version, Kind, Role as NoRole, Place, Body, OutOfMemory}
use Rattle.wire_frames.specs.ReadFrames.{Begins, HasFault}
use Rattle.wire_frames.specs.Streams.{Splits}
use Rattle.node_core.specs.Roles.{Role}
use Rattle.node_core.specs.HeardPackets.{Hearing, How, AtEnd, AtWrong, AtStranger, AtMost, AtOpen, Came, stops, hear_on, hear_all, Gives}
use Rattle.node_core.specs.declared.frame_reader.Stop.{Stop}
use Rattle.node_core.specs.declared.frame_reader.Stop.TheVariants.{Ended, Wrong, Stranger, Long, Short, Fault}
use Rattle.node_core.specs.declared.frame_reader.Listened.{Listened}
use Rattle.node_core.specs.declared.frame_reader.Step.{Step}
use Rattle.node_core.specs.declared.frame_reader.Step.TheVariants.{Heard, Nothing, Stopped}

-- a connection was read, or it was not
abbrev pub trace_on : Bool → UsageTrace → UsageTrace
trace_on reads o = record {
  read = o.read || reads;
  written = o.written;
  asked = o.asked || (o.written && reads);
  answered = o.answered;
  failed = o.failed;
  closed = o.closed;
  late = o.late || ((o.failed || o.closed) && reads);
}

-- a call on it failed, or none did
abbrev pub trace_broken : Bool → UsageTrace → UsageTrace
trace_broken fails o = record {
  read = o.read;
  written = o.written;
  asked = o.asked;
  answered = o.answered;
  failed = o.failed || fails;
  closed = o.closed;
  late = o.late || ((o.failed || o.closed) && fails);
}

-- reads gave these bytes of it, and perhaps its end; or it was not read
abbrev pub read_on : Bool → List ℕ → Bool → Talk → Talk
read_on reads bytes ended talk = record { gave = talk.gave ++ bytes; took = talk.took; ended = talk.ended || ended; order = trace_on reads talk.order }

abbrev pub broken_by : Bool → Talk → Talk
broken_by fails talk = record { gave = talk.gave; took = talk.took; ended = talk.ended; order = trace_broken fails talk.order }

-- the bytes that wait, how many packets without End were heard, the sender of the last one, and the fault at which the stream stays
pub record FrameReader : Type 0 where
  pub bytes : List ℕ
  pub count : ℕ
  pub peer : Option Party
  pub stuck : Option FrameFault

abbrev pub new_reader : FrameReader
new_reader = record { bytes = []; count = 0; peer = None; stuck = None }

-- what is heard from here on of these packets
abbrev pub hear_from : ℕ → FrameReader → Role → Came → Hearing
hear_from most e r came = hear_on (most - e.count) came.behind e.peer r e.count came.packets

abbrev pub how_of : Stop → How
how_of Ended = AtEnd
how_of (Wrong fault) = AtWrong fault
how_of Stranger = AtStranger
how_of Long = AtMost
how_of Short = AtOpen
how_of Fault = AtOpen

-- the fault of the bytes behind the packets
abbrev pub behind_of : Stop → Option FrameFault
behind_of Ended = None
behind_of (Wrong fault) = Some fault
behind_of Stranger = None
behind_of Long = None
behind_of Short = None
behind_of Fault = None

-- a read on the connection answered 0
abbrev pub is_short : Stop → Bool
is_short Ended = false
is_short (Wrong fault) = false
is_short Stranger = false
is_short Long = false
is_short Short = true
is_short Fault = false

-- the door failed
abbrev pub is_failed : Stop → Bool
is_failed Ended = false
is_failed (Wrong fault) = false
is_failed Stranger = false
is_failed Long = false
is_failed Short = false
is_failed Fault = true

-- an End packet came
abbrev pub is_ended : Stop → Bool
is_ended Ended = true
is_ended (Wrong fault) = false
is_ended Stranger = false
is_ended Long = false
is_ended Short = false
is_ended Fault = false

-- what comes of a pull that gave no packet; None where memory lacked
abbrev pub step_at : FrameFault → Option Step
step_at ShortFrame = Some Nothing
step_at (Length n) = Some (Stopped (Wrong (Length n)))
step_at (Version n) = Some (Stopped (Wrong (Version n)))
step_at (Kind n) = Some (Stopped (Wrong (Kind n)))
step_at NoRole = Some (Stopped (Wrong NoRole))
step_at Place = Some (Stopped (Wrong Place))
step_at Body = Some (Stopped (Wrong Body))
step_at OutOfMemory = None

-- one packet more was heard, whatever comes behind it
pub record Advances (most : ℕ) (now : Role → Type 0) (r : Role) (old new : FrameReader) : Type 0 where
  pub packet : Packet
  pub size : ℕ
  pub begins : Begins old.bytes packet size
  pub rest : new.bytes ≡ drop size old.bytes
  pub role : Role
  pub stands : now role
  pub same : (more : List Packet) (behind : Option FrameFault)
      → hear_from most old r (record { packets = packet ∷ more; behind = behind }) ≡ hear_from most new role (record { packets = more; behind = behind })

-- it stopped here
pub record Halts (most : ℕ) (now : Role → Type 0) (r : Role) (stop : Stop) (old new : FrameReader) : Type 0 where
  pub stands : now r
  pub packets : List Packet
  pub gives : Gives old.bytes packets (how_of stop)
  pub same : hear_from most old r (record { packets = packets; behind = behind_of stop }) ≡ stops r new.peer new.count (how_of stop)

-- what one step does
abbrev pub Steps : ℕ → (Role → Type 0) → Role → Step → FrameReader → FrameReader → Type 0
Steps most now r Heard old new = Advances most now r old new
Steps most now r Nothing old new = now r × (new ≡ old) × HasFault old.bytes ShortFrame
Steps most now r (Stopped stop) old new = Halts most now r stop old new

-- of a connection these bytes came so far, and their hearing is the hearing from here on
pub record Listening (most : ℕ) (now : Role → Type 0) (r : Role) (e : FrameReader) (old new : Told) : Type 0 where
  pub reads : Bool
  pub bytes : List ℕ
  pub door : new ≡ on_last (read_on reads bytes false) old
  pub packets : List Packet
  pub splits : Splits bytes packets e.bytes
  pub role : Role
  pub stands : now role
  pub same : (more : List Packet) (behind : Option FrameFault)
      → hear_all most r (record { packets = packets ++ more; behind = behind }) ≡ hear_from most e role (record { packets = more; behind = behind })

-- of a connection these bytes came, and what was heard is what they say
pub record Listens (most : ℕ) (now : Role → Type 0) (r : Role) (l : Listened) (old new : Told) : Type 0 where
  pub reads : Bool
  pub bytes : List ℕ
  pub door : new ≡ on_last (λ talk. broken_by (is_failed l.stop) (read_on reads bytes (is_short l.stop) talk)) old
  pub packets : List Packet
  pub gives : Gives bytes packets (how_of l.stop)
  pub role : Role
  pub stands : now role
  pub hears : hear_all most r (record { packets = packets; behind = behind_of l.stop }) ≡ stops role l.peer l.count (how_of l.stop)

-- the same where memory lacked
pub record Broken (old new : Told) : Type 0 where
  pub reads : Bool
  pub bytes : List ℕ
  pub door : new ≡ on_last (read_on reads bytes false) old
