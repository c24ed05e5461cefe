use Rattle.std.proofs.Common.{take}
use Rattle.std.specs.List.{AllByRecursion}
use Rattle.preempt.specs.Shelves.{HasNothingOn}
use Rattle.preempt.proofs.snapshot.has_any_on.Given as goal

abbrev pub invariant-loop-at : goal.invariant-loop-at
invariant-loop-at l = AllByRecursion (HasNothingOn l.machine) (take l.at l.rows)
