use Rattle.std.proofs.Common.{refl}
use Rattle.worked_runs.proofs.finish_with_grants_out.Goals as goal

pub returns : goal.returns
returns c = refl
