use Rattle.std.proofs.Common.{refl}
use Rattle.worked_runs.proofs.a_give_back_crosses_a_preemption.Goals as goal

pub returns : goal.returns
returns c = refl
