use Rattle.std.proofs.Common.{refl}
use Rattle.worked_runs.proofs.an_application_by_itself.Goals as goal

pub returns : goal.returns
returns c = record { granted = (refl, refl); given = refl; too_many = refl; joins = (refl, refl, refl); carried = (refl, refl); turn = refl }
