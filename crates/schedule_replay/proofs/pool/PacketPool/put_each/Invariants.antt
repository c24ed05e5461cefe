use Rattle.std.proofs.Common.{◌≡◌, take}
use Rattle.schedule_replay.specs.PacketPools.{with_frames}
use Rattle.schedule_replay.proofs.pool.PacketPool.put_each.Given as goal

abbrev pub invariant-loop-packet : goal.invariant-loop-packet
invariant-loop-packet l = l.self ≡ with_frames l.fn.self (take l.packet-index l.packets)
