use Rattle.schedule_replay.proofs.FrameBytes.{AreMeasured}
use Rattle.std.proofs.Common.{take}
use Rattle.schedule_replay.proofs.pool.frames_length.Given as goal

abbrev pub invariant-loop-packet : goal.invariant-loop-packet
invariant-loop-packet l = AreMeasured (take l.packet-index l.packets) l.packet-index l.sum
