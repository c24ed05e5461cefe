use Rattle.std.proofs.Common.{◌≡◌, ◌-◌, ◌++◌, take, length}
use Rattle.preempt.specs.Walks.{backward, of_priority}
use Rattle.preempt.proofs.walk.push_priority.Given as goal

abbrev pub invariant-loop-back : goal.invariant-loop-back
invariant-loop-back l = l.sorted.items ++ backward (of_priority l.priority) (take (length l.units - l.back) l.units) ≡ l.fn.sorted.items ++ backward (of_priority l.priority) l.units
