use Rattle.std.proofs.Common.{refl}
use Rattle.worked_runs.proofs.an_avoided_machine_gets_nothing_new.Goals as goal

pub returns : goal.returns
returns c = refl
