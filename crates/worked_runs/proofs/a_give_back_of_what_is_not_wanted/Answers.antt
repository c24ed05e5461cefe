use Rattle.std.proofs.Common.{refl}
use Rattle.worked_runs.proofs.a_give_back_of_what_is_not_wanted.Goals as goal

pub returns : goal.returns
returns c = refl
