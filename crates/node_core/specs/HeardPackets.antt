-- What a party hears of the packets of a connection, and which packets its bytes are.
use Rattle.std.specs.Prelude.{◌≡◌, ℕ, zero, suc, ◌+◌, Bool, true, false, cond, List, [], ◌∷◌, Option, Some, None, ⊤}
use Rattle.schedule_unit.specs.declared.party.Party.{Party}
use Rattle.party_ledgers.specs.declared.packets.Kind.{Kind}
use Rattle.party_ledgers.specs.declared.packets.Kind.TheVariants.{Ack, Delta, Full, End}
use Rattle.party_ledgers.specs.declared.packets.Packet.{Packet}
use Rattle.wire_frames.specs.declared.fault.FrameFault.{FrameFault}
use Rattle.wire_frames.specs.declared.fault.FrameFault.TheVariants.{Short}
use Rattle.wire_frames.specs.ReadFrames.{HasFault}
use Rattle.wire_frames.specs.Streams.{Splits, lasting}
use Rattle.node_core.specs.Roles.{Role, heard, allowed}

-- How the hearing ended: at an End packet, at bytes that are no frame, at a packet that is not allowed, after the greatest number of
-- packets, or with a part of a frame or nothing.
pub data How : Type 0 where
  AtEnd : How
  AtWrong : (fault : FrameFault) → How
  AtStranger : How
  AtMost : How
  AtOpen : How

-- the party then, the sender of the last packet, how many packets without End were heard, and how it ended
pub record Hearing : Type 0 where
  pub role : Role
  pub peer : Option Party
  pub count : ℕ
  pub how : How

abbrev pub stops : Role → Option Party → ℕ → How → Hearing
stops r peer count how = record { role = r; peer = peer; count = count; how = how }

abbrev pub is_end : Kind → Bool
is_end Ack = false
is_end Delta = false
is_end Full = false
is_end End = true

-- the packets that came, and the fault of the bytes behind them; None where these are a part of a frame or none
pub record Came : Type 0 where
  pub packets : List Packet
  pub behind : Option FrameFault

abbrev pub how_behind : Option FrameFault → How
how_behind None = AtOpen
how_behind (Some fault) = AtWrong fault

-- One packet, and then the next ones. An End packet has to be allowed too, and is not heard.
abbrev pub hear_packet : (Option Party → Role → ℕ → Hearing) → Option Party → Role → ℕ → Packet → Hearing
hear_packet next peer r count x =
    cond (allowed r peer x) (cond (is_end x.kind) (stops r (Some x.from) count AtEnd) (next (Some x.from) (heard r x) (count + 1))) (stops r peer count AtStranger)

-- so many packets may still come; then it ends, whatever comes behind
abbrev pub hear_on : ℕ → Option FrameFault → Option Party → Role → ℕ → List Packet → Hearing
hear_on zero behind peer r count xs = stops r peer count AtMost
hear_on (suc left) behind peer r count [] = stops r peer count (how_behind behind)
hear_on (suc left) behind peer r count (x ∷ xs) = hear_packet (λ p q n. hear_on left behind p q n xs) peer r count x

-- at most so many packets without End
abbrev pub hear_all : ℕ → Role → Came → Hearing
hear_all most r came = hear_on most came.behind None r 0 came.packets

-- what ended the hearing stands at the front of the bytes that are left: no frame, or less than one. Bytes behind any other end are not looked at
abbrev pub IsRest : List ℕ → How → Type 0
IsRest left AtEnd = ⊤
IsRest left (AtWrong fault) = HasFault left fault × (lasting fault ≡ Some fault)
IsRest left AtStranger = ⊤
IsRest left AtMost = ⊤
IsRest left AtOpen = HasFault left Short

-- the bytes are the frames of these packets, one behind another, and a rest at which the hearing ended so
pub record Gives (bytes : List ℕ) (packets : List Packet) (how : How) : Type 0 where
  pub left : List ℕ
  pub splits : Splits bytes packets left
  pub rest : IsRest left how
