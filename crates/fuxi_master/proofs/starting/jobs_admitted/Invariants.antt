use Rattle.fuxi_master.specs.MasterStarts.{AreAdmitted}
use Rattle.fuxi_master.proofs.starting.jobs_admitted.Given as goal

abbrev pub invariant-loop-number : goal.invariant-loop-number
invariant-loop-number l = AreAdmitted l.known.jobs l.number l.fn.allotment l.left
