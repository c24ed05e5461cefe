use Rattle.spec_world.proofs.EventStepsLemmas.{all_lose}
use Rattle.spec_world.proofs.law.every_run_loses_only_what_is_credited.Goals as goal

pub returns : goal.returns
returns c = λ cluster events. all_lose cluster events
