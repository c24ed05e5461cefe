use Rattle.work_plan.proofs.RunAfterLemmas.{runs_distinct, runs_within, runs_many, the_newest_stop, runs_on}
use Rattle.work_plan.proofs.law.workers_run_as_planned.Goals as goal

pub returns : goal.returns
returns c = record { distinct = runs_distinct; wanted = runs_within; many = runs_many; newest = the_newest_stop; stays = runs_on }
