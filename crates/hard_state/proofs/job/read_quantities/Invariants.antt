use Rattle.std.proofs.Common.{◌≡◌, ◌++◌, length}
use Rattle.hard_state.specs.RecordBodies.{quantities_in}
use Rattle.hard_state.proofs.job.read_quantities.Given as goal

abbrev pub invariant-loop-rest : goal.invariant-loop-rest
invariant-loop-rest l = l.quantities ++ quantities_in l.rest ≡ quantities_in l.fn.bytes

abbrev pub decreases-loop-rest : goal.decreases-loop-rest
decreases-loop-rest l = length l.rest
