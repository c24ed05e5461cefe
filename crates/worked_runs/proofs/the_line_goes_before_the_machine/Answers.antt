use Rattle.std.proofs.Common.{refl}
use Rattle.worked_runs.proofs.the_line_goes_before_the_machine.Goals as goal

pub returns : goal.returns
returns c = refl
