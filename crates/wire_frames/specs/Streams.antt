-- A stream of frames that is fed by pieces of bytes.
use Rattle.std.specs.Prelude.{◌≡◌, ℕ, List, [], ◌∷◌, ◌++◌, drop, Option, Some, None, Result, Ok, Err}
use Rattle.std.specs.List.{AllByRecursion, flat_map}
use Rattle.party_ledgers.specs.declared.packets.Packet.{Packet}
use Rattle.wire_frames.specs.Frames.{frame, IsFrame}
use Rattle.wire_frames.specs.ReadFrames.{Begins, HasFault}
use Rattle.wire_frames.specs.declared.fault.FrameFault.{FrameFault}
use Rattle.wire_frames.specs.declared.fault.FrameFault.TheVariants.{Short, Length, Version, Kind, Role, Place, Body, OutOfMemory}

-- the bytes that were fed and are in no frame that was pulled, and the fault that is answered from now on
pub record Streaming : Type 0 where
  pub left : List ℕ
  pub stuck : Option FrameFault

abbrev pub new_stream : Streaming
new_stream = record { left = []; stuck = None }

abbrev pub fed : Streaming → List ℕ → Streaming
fed s piece = record { left = s.left ++ piece; stuck = s.stuck }

-- more bytes may mend what is short, and memory may be there another time; every other fault stays
abbrev pub lasting : FrameFault → Option FrameFault
lasting Short = None
lasting (Length n) = Some (Length n)
lasting (Version n) = Some (Version n)
lasting (Kind n) = Some (Kind n)
lasting Role = Some Role
lasting Place = Some Place
lasting Body = Some Body
lasting OutOfMemory = None

-- the packet whose frame the bytes begin with is gone from them
pub record Pulled (old : Streaming) (x : Packet) (new : Streaming) : Type 0 where
  pub size : ℕ
  pub begins : Begins old.left x size
  pub rest : new ≡ record { left = drop size old.left; stuck = None }

-- what a pull does to a stream that keeps no fault
abbrev pub Pulls : Streaming → Result Packet FrameFault → Streaming → Type 0
Pulls old (Ok x) new = Pulled old x new
Pulls old (Err fault) new = HasFault old.left fault × (new ≡ record { left = old.left; stuck = lasting fault })

-- What happens to a stream, but for pulls that give no packet: a piece is fed, or a packet is pulled
pub data Event : Type 0 where
  Fed : (piece : List ℕ) → Event
  Gave : (x : Packet) → Event

-- these events lead from the bytes that are left at first to those that are left at the end
abbrev pub Runs : List ℕ → List Event → List ℕ → Type 0
Runs left [] end = end ≡ left
Runs left (Fed piece ∷ es) end = Runs (left ++ piece) es end
Runs left (Gave x ∷ es) end = (n : ℕ) × Begins left x n × Runs (drop n left) es end

-- all bytes that were fed, however they were cut
abbrev pub bytes_fed : List Event → List ℕ
bytes_fed [] = []
bytes_fed (Fed piece ∷ es) = piece ++ bytes_fed es
bytes_fed (Gave x ∷ es) = bytes_fed es

abbrev pub packets_given : List Event → List Packet
packets_given [] = []
packets_given (Fed piece ∷ es) = packets_given es
packets_given (Gave x ∷ es) = x ∷ packets_given es

abbrev pub HasFrame : Packet → Type 0
HasFrame x = IsFrame x (frame x)

-- the bytes are the frames of these packets, one behind another, and what is left
pub record Splits (bytes : List ℕ) (xs : List Packet) (left : List ℕ) : Type 0 where
  pub whole : bytes ≡ flat_map frame xs ++ left
  pub each : AllByRecursion HasFrame xs
