use Rattle.std.proofs.Common.{◌≡◌, ◌++◌, filter, map, Some}
use Rattle.std.specs.Prelude.{slice_get}
use Rattle.std.specs.List.{AllByRecursion}
use Rattle.fuxi_terms.specs.Cluster.{JobRecord}
use Rattle.preempt.specs.Given.{IsEntry, pair_of}
use Rattle.preempt.specs.Walks.{holds_some, units_in}
use Rattle.preempt.proofs.walk.push_holders.Given as goal

abbrev pub invariant-loop-number : goal.invariant-loop-number
invariant-loop-number l = record {
  pairs : (j : JobRecord) → slice_get l.table.jobs l.index ≡ Some j → map pair_of l.holders.items ≡ map pair_of l.fn.holders.items ++ filter (holds_some l.table.entries) (units_in j l.number);
  entries : AllByRecursion (IsEntry l.table) l.fn.holders.items → AllByRecursion (IsEntry l.table) l.holders.items;
}
