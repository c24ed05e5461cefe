use Rattle.std.proofs.Common.{◌≡◌, length, take}
use Rattle.std.specs.List.{AllByRecursion}
use Rattle.preempt.specs.Shelves.{IsLow}
use Rattle.preempt.proofs.machine_grants.lowest_of.Given as goal

abbrev pub invariant-loop-e : goal.invariant-loop-e
invariant-loop-e l = record {
  long : length l.lowest ≡ 32;
  low : AllByRecursion (IsLow l.lowest) (take l.e-index l.entries);
}
