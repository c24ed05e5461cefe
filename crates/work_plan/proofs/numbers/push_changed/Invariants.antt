use Rattle.std.proofs.Common.{◌≡◌, ◌++◌}
use Rattle.work_plan.specs.NameChanges.{changed}
use Rattle.work_plan.proofs.numbers.push_changed.Given as goal

abbrev pub invariant-loop-number : goal.invariant-loop-number
invariant-loop-number l = l.numbers.items ≡ l.fn.numbers.items ++ changed l.unit.0 l.before l.after l.number
