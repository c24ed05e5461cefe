use Rattle.std.proofs.Common.{refl}
use Rattle.work_plan.proofs.Events.{agent_started}
use Rattle.work_plan.proofs.agent.new_agent.Goals as goal

pub returns : goal.returns
returns c w lt fresh = agent_started _ c.args.boot w refl c.new.ensures.items c.in_ok-workers.ensures lt fresh
