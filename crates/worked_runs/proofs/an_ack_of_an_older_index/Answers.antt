use Rattle.std.proofs.Common.{refl}
use Rattle.worked_runs.proofs.an_ack_of_an_older_index.Goals as goal

pub returns : goal.returns
returns c = refl
