use Rattle.std.proofs.Common.{take}
use Rattle.preempt.specs.Shelves.{AreOpen}
use Rattle.preempt.proofs.snapshot.open_rows.Given as goal

abbrev pub invariant-loop-at : goal.invariant-loop-at
invariant-loop-at l = AreOpen l.table l.need (take l.at l.stock.holders.now) l.rows.items
