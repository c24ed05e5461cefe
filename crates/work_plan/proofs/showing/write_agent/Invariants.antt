use Rattle.std.proofs.Common.{◌≡◌, ◌++◌, ◌∷◌}
use Rattle.std.specs.List.{flat_map}
use Rattle.fuxi_terms.specs.Lists.{below}
use Rattle.work_plan.specs.WorkEvents.{agent_app_lines}
use Rattle.work_plan.specs.WorkLines.{AgentIs, lines_text}
use Rattle.work_plan.specs.AgentWithApps.{World}
use Rattle.work_plan.specs.WorkWorlds.{AppsAt, IsAgent}
use Rattle.work_plan.proofs.showing.write_agent.Given as goal

abbrev pub invariant-loop-number : goal.invariant-loop-number
invariant-loop-number l = (w : World) → IsAgent l.agent w → AppsAt l.apps w → l.out.items ≡ l.fn.out.items ++ lines_text (AgentIs w.agent ∷ flat_map (agent_app_lines w) (below l.number))
