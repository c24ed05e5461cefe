use Rattle.std.proofs.Common.{refl, arith}
use Rattle.work_plan.proofs.StartsAndPlans.{agent_begun}
use Rattle.work_plan.proofs.acts.start_agent.Goals as goal

pub returns-clause-acts : goal.returns-clause-acts
returns-clause-acts c w s =
    let known = c.agent_boot-known.ensures w s.agent in
    let lt = c.if-boot-known.false in
    agent_begun c.args.working.now _ w c.args.boot c.in_ok-new_agent.field-0 c.args.out.now.items s (omega (arith, known, lt)) refl refl (c.in_ok-new_agent.ensures w (omega (arith, known, lt)) s.carries.fresh) refl refl
