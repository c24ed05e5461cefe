use Rattle.spec_world.proofs.StartsLemmas.{stays_stopped}
use Rattle.spec_world.proofs.law.a_stopped_master_stays_so.Goals as goal

pub returns : goal.returns
returns c = λ cluster before after. stays_stopped cluster before after
