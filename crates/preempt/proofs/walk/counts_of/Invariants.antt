use Rattle.std.proofs.Common.{take}
use Rattle.preempt.specs.Shelves.{AreRead}
use Rattle.preempt.proofs.walk.counts_of.Given as goal

abbrev pub invariant-loop-e : goal.invariant-loop-e
invariant-loop-e l = AreRead l.table (take l.e-index l.units) l.counts.items
