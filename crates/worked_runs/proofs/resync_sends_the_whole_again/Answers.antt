use Rattle.std.proofs.Common.{refl}
use Rattle.worked_runs.proofs.resync_sends_the_whole_again.Goals as goal

pub returns : goal.returns
returns c = refl
