use Rattle.std.proofs.Common.{◌≡◌, ◌++◌, length, drop, take}
use Rattle.std.specs.List.{AllByRecursion}
use Rattle.grant_table.specs.GrantTables.{TableRecord}
use Rattle.preempt.specs.Given.{IsEntry}
use Rattle.preempt.specs.Shelves.{AreRead, IsListed}
use Rattle.preempt.proofs.walk.list_machine.Given as goal

abbrev pub invariant-loop-at : goal.invariant-loop-at
invariant-loop-at l = record {
  kept : l.entries.items ≡ l.fn.entries.items ++ drop (length l.fn.entries.items) l.entries.items;
  listed : (t : TableRecord) → AllByRecursion (IsEntry t) l.units → AreRead t l.units l.counts → IsListed t (take l.at l.units) l.machine (drop (length l.fn.entries.items) l.entries.items);
}
