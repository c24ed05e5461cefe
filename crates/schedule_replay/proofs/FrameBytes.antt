-- The first packets of a list, and the bytes of their frames.
use Rattle.std.specs.Prelude.{◌≡◌, ℕ, ◌*◌, ◌≤◌, List, map}
use Rattle.std.specs.List.{AllByRecursion}
use Rattle.party_ledgers.specs.declared.packets.Packet.{Packet}
use Rattle.wire_frames.specs.Frames.{frame}
use Rattle.wire_frames.specs.Streams.{HasFrame}
use Rattle.schedule_replay.specs.PacketPools.{bytes_of}

-- so many packets, each with a frame, and the bytes of these
pub record AreMeasured (xs : List Packet) (n sum : ℕ) : Type 0 where
  pub sum_is : sum ≡ bytes_of (map frame xs)
  pub within : sum ≤ 262192 * n
  pub each : AllByRecursion HasFrame xs
