use Rattle.std.proofs.Common.{refl}
use Rattle.worked_runs.proofs.a_master_by_itself.Goals as goal

pub returns : goal.returns
returns c = record { begun = refl; too_much = (refl, refl); reported = (refl, refl); asked = (refl, refl); rows = refl; again = (refl, refl); turn = refl }
