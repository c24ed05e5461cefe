use Rattle.std.proofs.Common.{◌≡◌}
use Rattle.preempt.specs.Walks.{entries_by_priority}
use Rattle.preempt.proofs.walk.by_priority.Given as goal

abbrev pub invariant-loop-priority : goal.invariant-loop-priority
invariant-loop-priority l = l.sorted.items ≡ entries_by_priority l.units l.priority
