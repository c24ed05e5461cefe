-- One round of a node: of one that dials, and of one that accepts.
use Rattle.std.specs.Prelude.{◌≡◌, ◌⊎◌, ℕ, ◌+◌, Bool, true, false, cond, List, [], ◌∷◌, length, take, Option, Some, None, ⊤}
use Rattle.fuxi_io.specs.Doors.{Talk, Told, knocked}
use Rattle.fuxi_io.specs.declared.usage_trace.UsageTrace.{UsageTrace}
use Rattle.schedule_unit.specs.declared.party.Party.{Party}
use Rattle.wire_frames.specs.declared.fault.FrameFault.{FrameFault}
use Rattle.wire_frames.specs.declared.fault.FrameFault.TheVariants.{Short, Length, Version, Kind, Role as NoRole, Place, Body, OutOfMemory}
use Rattle.node_core.specs.declared.rounds.RoundLine.{RoundLine}
use Rattle.node_core.specs.declared.rounds.RoundLine.TheVariants.{Done, Fault, Bad, Stranger, Long}
use Rattle.node_core.specs.Roles.{Role, turn, IsTurn}
use Rattle.node_core.specs.HeardPackets.{Hearing, How, AtEnd, AtWrong, AtStranger, AtMost, AtOpen, Came, hear_all, Gives}

-- The line of a round in which so many packets were sent and so many heard. Where it is marked, the door failed in it. A bad frame, a
-- stranger and too many packets decide first.
abbrev pub line_by : Bool → ℕ → ℕ → How → RoundLine
line_by mark sent count AtEnd = cond mark Fault (Done count sent)
line_by mark sent count (AtWrong fault) = Bad (count + 1) fault
line_by mark sent count AtStranger = Stranger (count + 1)
line_by mark sent count AtMost = Long
line_by mark sent count AtOpen = cond mark Fault (Bad (count + 1) Short)

-- the turn of a party to a peer
pub record Sending : Type 0 where
  pub role : Role
  pub peer : Option Party

-- the party after the round, its line, and what is to be written in it
pub record Rounded : Type 0 where
  pub role : Role
  pub line : RoundLine
  pub out : Option Sending

-- there is an answer where an End packet came
abbrev pub answer_by : Role → Option Party → How → Option Sending
answer_by r peer AtEnd = Some (record { role = r; peer = peer })
answer_by r peer (AtWrong fault) = None
answer_by r peer AtStranger = None
answer_by r peer AtMost = None
answer_by r peer AtOpen = None

-- its turn is made before anything is heard
abbrev pub dialed : Role → Hearing → Bool → Rounded
dialed r h mark = record { role = h.role; line = line_by mark (length (turn r None)) h.count h.how; out = Some (record { role = r; peer = None }) }

-- its turn is made of what was heard
abbrev pub served : Hearing → Bool → Rounded
served h mark = record { role = h.role; line = line_by mark (length (turn h.role h.peer)) h.count h.how; out = answer_by h.role h.peer h.how }

-- the round of a party to which these packets came, by whether it accepts
abbrev pub rounded : Bool → ℕ → Role → Came → Bool → Rounded
rounded false most r came mark = dialed r (hear_all most r came) mark
rounded true most r came mark = served (hear_all most r came) mark

abbrev pub is_fault : RoundLine → Bool
is_fault (Done heard sent) = false
is_fault Fault = true
is_fault (Bad at fault) = false
is_fault (Stranger at) = false
is_fault Long = false

abbrev pub is_short_fault : FrameFault → Bool
is_short_fault Short = true
is_short_fault (Length n) = false
is_short_fault (Version n) = false
is_short_fault (Kind n) = false
is_short_fault NoRole = false
is_short_fault Place = false
is_short_fault Body = false
is_short_fault OutOfMemory = false

-- it says that the connection ended
abbrev pub says_short : RoundLine → Bool
says_short (Done heard sent) = false
says_short Fault = false
says_short (Bad at fault) = is_short_fault fault
says_short (Stranger at) = false
says_short Long = false

-- the address was handed to the door once, and no connection came, or this one
abbrev pub visited : Bool → List ℕ → Option Talk → Told → Told
visited accepts addr None t = knocked accepts addr t.talks t
visited accepts addr (Some talk) t = knocked accepts addr (talk ∷ t.talks) t

abbrev pub gave_in : Option Talk → List ℕ
gave_in None = []
gave_in (Some talk) = talk.gave

abbrev pub took_in : Option Talk → List ℕ
took_in None = []
took_in (Some talk) = talk.took

abbrev pub ended_in : Option Talk → Bool
ended_in None = false
ended_in (Some talk) = talk.ended

-- where no connection came, the call failed that was to open one
abbrev pub failed_in : Option Talk → Bool
failed_in None = true
failed_in (Some talk) = talk.order.failed

abbrev pub closed_in : Option Talk → Bool
closed_in None = true
closed_in (Some talk) = talk.order.closed

-- Who dials speaks before it hears, who accepts hears before it speaks, and behind a call that failed, and behind its end, the connection is left alone, so it is closed once
pub record InOrder (accepts : Bool) (o : UsageTrace) : Type 0 where
  pub turns : cond accepts o.asked o.answered ≡ false
  pub late : o.late ≡ false

abbrev pub WentInOrder : Bool → Option Talk → Type 0
WentInOrder accepts None = ⊤
WentInOrder accepts (Some talk) = InOrder accepts talk.order

-- some bytes from the front of a turn
pub record TakesPart (took : List ℕ) (s : Sending) : Type 0 where
  pub bytes : List ℕ
  pub turn : IsTurn s.role s.peer bytes
  pub count : ℕ
  pub part : took ≡ take count bytes

-- what was taken of a turn: all of it, and where the round is marked some bytes from its front
abbrev pub TakesOf : Bool → List ℕ → Sending → Type 0
TakesOf false took s = IsTurn s.role s.peer took
TakesOf true took s = (took ≡ []) ⊎ TakesPart took s

abbrev pub Takes : Bool → List ℕ → Option Sending → Type 0
Takes mark took None = took ≡ []
Takes mark took (Some s) = TakesOf mark took s

-- an answer was begun
abbrev pub answered_in : Option Talk → Bool
answered_in None = false
answered_in (Some talk) = talk.order.written

-- What a visit and a line have to do with the round of a party. The line is that of a fault exactly where a call of the door failed before the connection was
-- closed, and it is closed then. Behind an End packet only the writing of an answer fails.
pub record Meets (accepts : Bool) (most : ℕ) (r : Role) (came : Came) (visit : Option Talk) (line : RoundLine) : Type 0 where
  pub gives : Gives (gave_in visit) came.packets (hear_all most r came).how
  pub says : (rounded accepts most r came (is_fault line)).line ≡ line
  pub took : Takes (is_fault line) (took_in visit) (rounded accepts most r came (is_fault line)).out
  pub ended : says_short line ≡ ended_in visit
  pub failed : is_fault line ≡ failed_in visit
  pub behind_end : (hear_all most r came).how ≡ AtEnd → is_fault line ≡ true → (accepts ≡ true) × (answered_in visit ≡ true)
  pub order : WentInOrder accepts visit
  pub closed : closed_in visit ≡ true

-- a round with this line
pub record Rounds (accepts : Bool) (most : ℕ) (addr : List ℕ) (now : Role → Type 0) (r : Role) (line : RoundLine) (old new : Told) : Type 0 where
  pub visit : Option Talk
  pub door : new ≡ visited accepts addr visit old
  pub came : Came
  pub stands : now (rounded accepts most r came (is_fault line)).role
  pub meets : Meets accepts most r came visit line

-- before memory lacked, one that dials may have sent its turn, and one that accepts has sent nothing
abbrev pub cut_out : Bool → Role → Option Sending
cut_out false r = Some (record { role = r; peer = None })
cut_out true r = None

-- a round in which memory lacked, and no call failed: its connection may be open
pub record Cut (accepts : Bool) (addr : List ℕ) (r : Role) (old new : Told) : Type 0 where
  pub visit : Option Talk
  pub door : new ≡ visited accepts addr visit old
  pub took : Takes true (took_in visit) (cut_out accepts r)
  pub sound : failed_in visit ≡ false
  pub order : WentInOrder accepts visit

-- it was not begun, or it was cut
abbrev pub Breaks : Bool → List ℕ → Role → Told → Told → Type 0
Breaks accepts addr r old new = (new ≡ old) ⊎ Cut accepts addr r old new
