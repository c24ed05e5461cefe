use Rattle.std.proofs.Common.{◌≡◌, ◌++◌, map, take}
use Rattle.work_plan.specs.WorkLines.{Seen, lines_text}
use Rattle.work_plan.proofs.showing.write_seen.Given as goal

abbrev pub invariant-loop-key : goal.invariant-loop-key
invariant-loop-key l = l.out.items ≡ l.fn.out.items ++ lines_text (map (λ e. Seen l.app.0 e.0.unit e.0.number) (take l.key-index l.entries))
