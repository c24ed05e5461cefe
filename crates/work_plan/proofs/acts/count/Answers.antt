use Rattle.std.proofs.Common.{refl, subst}
use Rattle.std.proofs.lemmas.Result.{on_ok_weaker}
use Rattle.work_plan.specs.WorkWorlds.{AgentAt, IsAgent}
use Rattle.work_plan.proofs.StartsAndPlans.{agent_counted}
use Rattle.work_plan.proofs.acts.count.Goals as goal

pub returns-clause-acts : goal.returns-clause-acts
returns-clause-acts c = on_ok_weaker c.count_workers.result (λ counts w s.
    let g : IsAgent c.in-Some.agent w = subst (λ o. AgentAt o w) c.in-Some.is s.agent in
    agent_counted c.args.working.now _ w c.args.app c.args.unit c.args.count c.count_workers.new.agent c.args.out.now.items s g.runs refl refl (counts w g) refl refl) c.count_workers.ensures
