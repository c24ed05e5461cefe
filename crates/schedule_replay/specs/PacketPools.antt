-- The packets of a run as their frames: what is kept, when no more are taken, and what a frame is read as.
use Rattle.std.specs.Prelude.{◌≡◌, ℕ, ◌+◌, ◌≤◌, nat_lt, cond, List, [], ◌++◌, map, length, Option, Some, None, Result, Ok, Err}
use Rattle.std.specs.List.{AllByRecursion, sum_by}
use Rattle.fuxi_terms.specs.Limits.{most_packets, most_packet_bytes}
use Rattle.party_ledgers.specs.declared.packets.Packet.{Packet}
use Rattle.wire_frames.specs.Frames.{frame}
use Rattle.wire_frames.specs.Streams.{HasFrame}
use Rattle.wire_frames.specs.declared.fault.FrameFault.{FrameFault}
use Rattle.wire_frames.specs.declared.fault.FrameFault.TheVariants.{OutOfMemory as WantsMemory}
use Rattle.schedule_replay.specs.FrameEnds.{AreEnds, frames_in}
use Rattle.schedule_replay.specs.FullPieces.{ArePieces, frames_of}
use Rattle.schedule_replay.specs.declared.fault.PoolFault.{PoolFault}
use Rattle.schedule_replay.specs.declared.pieces.Piece.{Piece}
use Rattle.schedule_replay.specs.declared.fault.PoolFault.TheVariants.{TooManyPackets, PoolBytes, OutOfMemory}

-- the frames of packets, in the order in which they were sent
pub record Stored : Type 0 where
  pub frames : List (List ℕ)

abbrev pub no_frames : Stored
no_frames = record { frames = [] }

-- these packets more
abbrev pub with_frames : Stored → List Packet → Stored
with_frames p xs = record { frames = p.frames ++ map frame xs }

-- the bytes of all frames together
abbrev pub bytes_of : List (List ℕ) → ℕ
bytes_of frames = sum_by length frames

-- those of the full pieces, and behind them those of the one that is written
abbrev pub all_frames : List Piece → List ℕ → List ℕ → List (List ℕ)
all_frames pieces bytes ends = frames_of pieces ++ frames_in bytes ends

-- what is counted, the limits, and where the frames end
pub record IsPool (pieces : List Piece) (before before_bytes : ℕ) (bytes ends : List ℕ) : Type 0 where
  pub before_is : before ≡ length (frames_of pieces)
  pub before_bytes_is : before_bytes ≡ bytes_of (frames_of pieces)
  pub few : before + length ends ≤ most_packets
  pub within : before_bytes + length bytes ≤ most_packet_bytes
  pub each : ArePieces 0 pieces
  pub rising : AreEnds 0 ends (length bytes)

-- the first limit that would be passed with these packets, and what is kept so far
abbrev pub limit_of : Stored → List Packet → Option PoolFault
limit_of p xs =
    cond (nat_lt most_packets (length (with_frames p xs).frames)) (Some (TooManyPackets (length p.frames)))
    (cond (nat_lt most_packet_bytes (bytes_of (with_frames p xs).frames)) (Some (PoolBytes (bytes_of p.frames))) None)

-- a refusal names that limit; memory is refused only where there is none
abbrev pub Refuses : Option PoolFault → PoolFault → Type 0
Refuses limit (TooManyPackets kept) = limit ≡ Some (TooManyPackets kept)
Refuses limit (PoolBytes kept) = limit ≡ Some (PoolBytes kept)
Refuses limit OutOfMemory = limit ≡ None

-- each packet has a frame, where the bytes of all of them are too many
abbrev pub IsSized : List Packet → PoolFault → Type 0
IsSized xs (TooManyPackets kept) = Unit {0}
IsSized xs (PoolBytes kept) = AllByRecursion HasFrame xs
IsSized xs OutOfMemory = Unit {0}

-- what is kept are the frames of these packets, in order
pub record Keeps (p : Stored) (xs : List Packet) : Type 0 where
  pub stored : p.frames ≡ map frame xs
  pub each : AllByRecursion HasFrame xs

-- reading gives this packet and the length of its whole frame, or memory lacks
abbrev pub IsReadAs : Option Packet → ℕ → Result (Packet × ℕ) FrameFault → Type 0
IsReadAs kept size (Ok read) = (kept ≡ Some read.0) × (read.1 ≡ size)
IsReadAs kept size (Err fault) = fault ≡ WantsMemory
