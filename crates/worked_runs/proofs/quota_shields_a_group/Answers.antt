use Rattle.std.proofs.Common.{refl}
use Rattle.worked_runs.proofs.quota_shields_a_group.Goals as goal

pub returns : goal.returns
returns c = refl
