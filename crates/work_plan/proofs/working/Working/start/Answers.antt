use Rattle.std.proofs.Common.{◌≤◌, List, length, refl, sym, subst, arith}
use Rattle.work_plan.specs.declared.ends.Parcel.{Parcel}
use Rattle.work_plan.specs.WorkRuns.{most_work_packets}
use Rattle.work_plan.specs.WorkStates.{AtStart}
use Rattle.work_plan.specs.AgentWithApps.{empty_world}
use Rattle.work_plan.proofs.StartsAndPlans.{begun}
use Rattle.work_plan.proofs.working.Working.start.Goals as goal

pub returns-clause-reached : goal.returns-clause-reached
returns-clause-reached c = record { world = empty_world; is = AtStart; stands = begun _ refl refl c.new.ensures.items c.new-2.ensures.items; few = subst (λ (xs : List Parcel). length xs ≤ most_work_packets) (sym c.new-2.ensures.items) (omega arith) }
