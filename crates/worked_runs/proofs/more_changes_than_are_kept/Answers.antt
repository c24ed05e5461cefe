use Rattle.std.proofs.Common.{refl}
use Rattle.worked_runs.proofs.more_changes_than_are_kept.Goals as goal

pub returns : goal.returns
returns c = refl
