use Rattle.spec_world.proofs.StartsLemmas.{starts_with_nothing}
use Rattle.spec_world.proofs.law.starts_with_nothing.Goals as goal

pub returns : goal.returns
returns c = λ cluster events. starts_with_nothing cluster events
