use Rattle.std.proofs.Common.{refl}
use Rattle.worked_runs.proofs.carried_over_two_epochs.Goals as goal

pub returns : goal.returns
returns c = refl
