use Rattle.fuxi_master.proofs.StartedJobs.{AreBelow}
use Rattle.fuxi_master.proofs.starting.numbers_known.Given as goal

abbrev pub invariant-loop-index : goal.invariant-loop-index
invariant-loop-index l = AreBelow l.known.jobs l.index l.numbers
