use Rattle.std.proofs.Common.{◌≡◌, ◌++◌, map, take}
use Rattle.work_plan.specs.Crews.{runs_at}
use Rattle.work_plan.specs.WorkLines.{Works, lines_text}
use Rattle.work_plan.proofs.showing.write_unit.Given as goal

abbrev pub invariant-loop-index : goal.invariant-loop-index
invariant-loop-index l = l.out.items ≡ l.fn.out.items ++ lines_text (map (λ n. Works l.app.0 l.unit.0 n) (take l.index (runs_at l.workers l.app.0 l.unit.0)))
