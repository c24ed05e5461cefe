use Rattle.std.proofs.Common.{◌≡◌, length, take}
use Rattle.std.specs.List.{AllByRecursion}
use Rattle.preempt.specs.Walks.{HasItsPriority}
use Rattle.preempt.proofs.walk.priorities_of.Given as goal

abbrev pub invariant-loop-e : goal.invariant-loop-e
invariant-loop-e l = record {
  long : length l.present ≡ 256;
  each : AllByRecursion (HasItsPriority l.present) (take l.e-index l.units);
}
