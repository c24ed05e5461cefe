use Rattle.std.proofs.Common.{map, take}
use Rattle.std.specs.List.{AllByRecursion}
use Rattle.preempt.specs.Given.{pair_of}
use Rattle.preempt.specs.Shelves.{HasNoVictims}
use Rattle.preempt.proofs.quick_reject.may_any_take.Given as goal

abbrev pub invariant-loop-e : goal.invariant-loop-e
invariant-loop-e l = AllByRecursion (HasNoVictims l.table) (map pair_of (take l.e-index l.waiting))
