use Rattle.std.proofs.Common.{take}
use Rattle.std.specs.List.{AllByRecursion}
use Rattle.preempt.specs.Shelves.{IsLoose}
use Rattle.preempt.proofs.machine_grants.loose_of.Given as goal

abbrev pub invariant-loop-e : goal.invariant-loop-e
invariant-loop-e l = AllByRecursion (IsLoose l.groups l.loose) (take l.e-index l.entries)
