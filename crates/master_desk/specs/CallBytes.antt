-- What the bytes of a call say.
use Rattle.std.specs.Prelude.{◌≡◌, ◌≢◌, ℕ, Bool, true, false, cond, nat_lt, List, length, Result, Ok, Err}
use Rattle.party_ledgers.specs.declared.packets.Kind.{Kind}
use Rattle.party_ledgers.specs.declared.packets.Kind.TheVariants as kind
use Rattle.party_ledgers.specs.declared.packets.Packet.{Packet}
use Rattle.party_ledgers.specs.Packets.{IsFormed}
use Rattle.wire_frames.specs.declared.fault.FrameFault.{FrameFault}
use Rattle.wire_frames.specs.declared.fault.FrameFault.TheVariants.{OutOfMemory}
use Rattle.wire_frames.specs.ReadFrames.{Reads}
use Rattle.master_desk.specs.declared.call.BadCall.TheVariants.{Frame, Trailing, End}
use Rattle.master_desk.specs.declared.call.Decoded.{Decoded}
use Rattle.master_desk.specs.declared.call.Decoded.TheVariants.{Whole, Bad}

abbrev pub is_end : Kind → Bool
is_end kind.Ack = false
is_end kind.Delta = false
is_end kind.Full = false
is_end kind.End = true

-- Bytes begin with a frame, of which the length is known too, or have a fault. Nothing may stand behind the frame, and it ends no connection
abbrev pub call_of : List ℕ → Result (Packet × ℕ) FrameFault → Decoded
call_of bytes (Ok read) = cond (nat_lt read.1 (length bytes)) (Bad Trailing) (cond (is_end read.0.kind) (Bad End) (Whole read.0))
call_of bytes (Err fault) = Bad (Frame fault)

-- the bytes are this call: it is what reading them gives
pub record Says (bytes : List ℕ) (call : Decoded) : Type 0 where
  pub read : Result (Packet × ℕ) FrameFault
  pub reads : Reads bytes read
  pub had : read ≢ Err OutOfMemory
  pub is : call ≡ call_of bytes read

-- what a master may be handed
abbrev pub MayHear : Decoded → Type 0
MayHear (Whole packet) = IsFormed packet × (packet.kind ≡ kind.End → ⊥)
MayHear (Bad why) = Unit {0}
