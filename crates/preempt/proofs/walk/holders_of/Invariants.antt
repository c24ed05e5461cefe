use Rattle.std.proofs.Common.{◌≡◌, filter, map, take}
use Rattle.std.specs.List.{AllByRecursion}
use Rattle.preempt.specs.Given.{IsEntry, pair_of}
use Rattle.preempt.specs.Walks.{all_units, holds_some}
use Rattle.preempt.proofs.walk.holders_of.Given as goal

abbrev pub invariant-loop-index : goal.invariant-loop-index
invariant-loop-index l = record {
  pairs : map pair_of l.holders.items ≡ filter (holds_some l.table.entries) (all_units (take l.index l.table.jobs));
  entries : AllByRecursion (IsEntry l.table) l.holders.items;
}
