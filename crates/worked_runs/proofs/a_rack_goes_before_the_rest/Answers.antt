use Rattle.std.proofs.Common.{refl}
use Rattle.worked_runs.proofs.a_rack_goes_before_the_rest.Goals as goal

pub returns : goal.returns
returns c = refl
