use Rattle.work_plan.proofs.WorkRunStatesLemmas.{all_planned}
use Rattle.work_plan.proofs.law.runs_go_as_planned.Goals as goal

pub returns : goal.returns
returns c = all_planned c.lines_give_events.ensures c.every_world_runs_as_planned.ensures.run
