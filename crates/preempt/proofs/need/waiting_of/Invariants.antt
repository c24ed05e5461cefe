use Rattle.std.proofs.Common.{◌≡◌, map, take}
use Rattle.std.specs.List.{AllByRecursion}
use Rattle.preempt.specs.Given.{IsEntry, pair_of}
use Rattle.preempt.proofs.need.waiting_of.Given as goal

abbrev pub invariant-loop-place : goal.invariant-loop-place
invariant-loop-place g l = record {
  pairs : map pair_of l.waiting.items ≡ take l.place (g.P.Asking.line l.placer);
  entries : AllByRecursion (IsEntry l.table) l.waiting.items;
}
