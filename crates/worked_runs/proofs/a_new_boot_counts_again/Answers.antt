use Rattle.std.proofs.Common.{refl}
use Rattle.worked_runs.proofs.a_new_boot_counts_again.Goals as goal

pub returns : goal.returns
returns c = refl
