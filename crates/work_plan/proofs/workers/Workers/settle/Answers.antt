use Rattle.std.proofs.Common.{arith, Some, set}
use Rattle.std.proofs.lemmas.Grind.{common_steps}
use Rattle.work_plan.specs.PlanKeys.{named}
use Rattle.work_plan.specs.Crews.{Settled, members_at}
use Rattle.work_plan.proofs.CrewsLemmas.{settled_runs}
use Rattle.work_plan.proofs.workers.Workers.settle.Goals as goal

pub returns-clause-runs : goal.returns-clause-runs
returns-clause-runs c =
    let wanted = named c.args.unit.0 c.args.plan.now.entries in
    let old = members_at c.args.self.now c.args.app.0 c.args.unit.0 in
    let new = members_at (set c.self.inside.crews.items c.args.app.0 (Some c.settle.new.self)) c.args.app.0 c.args.unit.0 in
    let s : Settled old new wanted c.args.count = grind (arith, common_steps) in
    settled_runs old new wanted c.args.count s
