use Rattle.std.proofs.Common.{refl}
use Rattle.worked_runs.proofs.level_goes_before_the_line.Goals as goal

pub returns : goal.returns
returns c = refl
