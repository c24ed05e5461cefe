use Rattle.spec_world.proofs.EventStepsLemmas.{all_bare}
use Rattle.spec_world.proofs.law.every_run_keeps_banned_machines_bare.Goals as goal

pub returns : goal.returns
returns c = λ cluster events. all_bare cluster events
