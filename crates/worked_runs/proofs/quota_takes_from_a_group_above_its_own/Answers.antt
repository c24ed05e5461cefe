use Rattle.std.proofs.Common.{refl}
use Rattle.worked_runs.proofs.quota_takes_from_a_group_above_its_own.Goals as goal

pub returns : goal.returns
returns c = refl
