use Rattle.std.proofs.Common.{refl}
use Rattle.worked_runs.proofs.refusals_of_an_application.Goals as goal

pub returns : goal.returns
returns c = refl
