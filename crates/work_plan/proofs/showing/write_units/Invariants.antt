use Rattle.std.proofs.Common.{◌≡◌, ◌++◌, map}
use Rattle.std.specs.List.{flat_map}
use Rattle.fuxi_terms.specs.Lists.{below}
use Rattle.work_plan.specs.Crews.{runs_at}
use Rattle.work_plan.specs.WorkLines.{Works, lines_text}
use Rattle.work_plan.proofs.showing.write_units.Given as goal

abbrev pub invariant-loop-unit : goal.invariant-loop-unit
invariant-loop-unit l = l.out.items ≡ l.fn.out.items ++ lines_text (flat_map (λ u. map (λ n. Works l.app.0 u n) (runs_at l.workers l.app.0 u)) (below l.unit))
