use Rattle.std.proofs.Common.{refl}
use Rattle.worked_runs.proofs.preemption_passes_a_bounded_machine.Goals as goal

pub returns : goal.returns
returns c = refl
