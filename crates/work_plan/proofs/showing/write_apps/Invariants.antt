use Rattle.std.proofs.Common.{◌≡◌, ◌++◌}
use Rattle.std.specs.List.{flat_map}
use Rattle.fuxi_terms.specs.Lists.{below}
use Rattle.work_plan.specs.WorkEvents.{app_lines}
use Rattle.work_plan.specs.WorkLines.{lines_text}
use Rattle.work_plan.specs.AgentWithApps.{World}
use Rattle.work_plan.specs.WorkWorlds.{AppsAt}
use Rattle.work_plan.proofs.showing.write_apps.Given as goal

abbrev pub invariant-loop-number : goal.invariant-loop-number
invariant-loop-number l = (w : World) → AppsAt l.apps w → l.out.items ≡ l.fn.out.items ++ lines_text (flat_map (app_lines w) (below l.number))
