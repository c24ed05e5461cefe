use Rattle.std.proofs.Common.{refl}
use Rattle.worked_runs.proofs.refusals_of_the_hard_state.Goals as goal

pub returns : goal.returns
returns c = refl
