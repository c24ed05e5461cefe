use Rattle.std.proofs.Common.{◌≡◌, take}
use Rattle.work_plan.specs.Crews.{nobody}
use Rattle.work_plan.proofs.crew.Crew.empty.Given as goal

abbrev pub invariant-loop-unit : goal.invariant-loop-unit
invariant-loop-unit l = l.squads.items ≡ take l.unit nobody
