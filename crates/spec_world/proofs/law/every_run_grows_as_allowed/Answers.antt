use Rattle.spec_world.proofs.EventStepsLemmas.{all_grow}
use Rattle.spec_world.proofs.law.every_run_grows_as_allowed.Goals as goal

pub returns : goal.returns
returns c = λ cluster events. all_grow cluster events
