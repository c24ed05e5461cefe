use Rattle.std.proofs.Common.{refl}
use Rattle.worked_runs.proofs.deltas_out_of_order.Goals as goal

pub returns : goal.returns
returns c = refl
