use Rattle.work_plan.proofs.PlanKeysLemmas.{named_are_numbers}
use Rattle.work_plan.proofs.law.plans_name_once.Goals as goal

pub returns : goal.returns
returns c entries unit h = named_are_numbers unit entries h
