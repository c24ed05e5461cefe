use Rattle.std.proofs.Common.{◌≡◌, take}
use Rattle.std.specs.List.{flat_map}
use Rattle.wire_frames.specs.Frames.{frame}
use Rattle.node_core.proofs.writing.write_turn.Given as goal

abbrev pub invariant-loop-packet : goal.invariant-loop-packet
invariant-loop-packet l = record { bytes : l.bytes.items ≡ flat_map frame (take l.packet-index l.packets-2) }
