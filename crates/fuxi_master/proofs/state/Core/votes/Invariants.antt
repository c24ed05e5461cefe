use Rattle.fuxi_master.specs.Seen.{core_of}
use Rattle.fuxi_master.specs.VoteCounts.{HasCounted}
use Rattle.fuxi_master.proofs.state.Core.votes.Given as goal

abbrev pub invariant-loop-index : goal.invariant-loop-index
invariant-loop-index l = HasCounted (core_of l.self) l.index l.votes
