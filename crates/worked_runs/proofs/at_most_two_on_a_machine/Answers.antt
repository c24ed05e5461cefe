use Rattle.std.proofs.Common.{refl}
use Rattle.worked_runs.proofs.at_most_two_on_a_machine.Goals as goal

pub returns : goal.returns
returns c = refl
