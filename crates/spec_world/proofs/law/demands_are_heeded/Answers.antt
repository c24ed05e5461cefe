use Rattle.spec_world.proofs.HeedsDemandsLemmas.{all_heed}
use Rattle.spec_world.proofs.law.demands_are_heeded.Goals as goal

pub returns : goal.returns
returns c = λ cluster events. all_heed cluster events
