use Rattle.std.proofs.Common.{◌≡◌, ◌++◌, map}
use Rattle.peer_channel.specs.Sending.{packet_for}
use Rattle.peer_channel.proofs.side.append_packets.Given as goal

abbrev pub invariant-loop-note : goal.invariant-loop-note
invariant-loop-note g l = l.packets ≡ l.fn.packets ++ map (packet_for g.A.Carried.whole g.A.Carried.changed l.from l.to) l.yielded
