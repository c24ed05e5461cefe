use Rattle.spec_world.proofs.ServesLemmas.{all_serve}
use Rattle.spec_world.proofs.law.every_master_serves_when_told_of_all.Goals as goal

pub returns : goal.returns
returns c = λ cluster events. all_serve cluster events
