use Rattle.std.proofs.Common.{refl}
use Rattle.worked_runs.proofs.what_packets_hold.Goals as goal

pub returns : goal.returns
returns c = refl
