use Rattle.std.proofs.Common.{refl}
use Rattle.worked_runs.proofs.twenty_machines_and_a_failover.Goals as goal

pub returns : goal.returns
returns c = refl
