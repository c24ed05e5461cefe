use Rattle.std.proofs.Common.{refl}
use Rattle.worked_runs.proofs.a_judgement_takes_the_grants.Goals as goal

pub returns : goal.returns
returns c = refl
