use Rattle.std.proofs.Common.{length}
use Rattle.fuxi_master.proofs.BannedShut.{AreShut}
use Rattle.fuxi_master.proofs.votes.banned_shut.Given as goal

abbrev pub invariant-loop-number : goal.invariant-loop-number
invariant-loop-number l = AreShut l.known.bans (length l.cluster.machines) l.number l.votes
