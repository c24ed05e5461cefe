use Rattle.std.proofs.Common.{refl}
use Rattle.worked_runs.proofs.a_limit_counts_where_nothing_is_needed.Goals as goal

pub returns : goal.returns
returns c = refl
