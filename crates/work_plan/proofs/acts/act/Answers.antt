use Rattle.std.proofs.Common.{sym, subst, OnOk}
use Rattle.work_plan.specs.WorkEvents.{act}
use Rattle.work_plan.specs.declared.event.WorkEvent.{WorkEvent}
use Rattle.work_plan.specs.WorkSteps.{Acts}
use Rattle.work_plan.proofs.StartsAndPlans.{stopped_well}
use Rattle.work_plan.proofs.acts.act.Goals as goal

pub returns-in-Plan-clause-acts : goal.returns-in-Plan-clause-acts
returns-in-Plan-clause-acts c =
    subst (λ (e : WorkEvent). OnOk c.stopped-in-Plan.result (Acts (λ w. act w e) c.args.working.now c.plan.new.working c.args.out.now.items c.plan.new.out.items)) (sym c.in-Plan.is)
    (stopped_well _ c.plan.result c.stopped-in-Plan.result c.stopped-in-Plan.ensures c.plan.ensures.acts)
