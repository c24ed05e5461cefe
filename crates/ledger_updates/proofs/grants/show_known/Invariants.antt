use Rattle.std.proofs.Common.{take}
use Rattle.ledger_updates.specs.OfNumbers.{AreReached}
use Rattle.ledger_updates.specs.OneJob.{numbers_in, IsSlotShown}
use Rattle.ledger_updates.proofs.grants.show_known.Given as goal

abbrev pub invariant-loop-index : goal.invariant-loop-index
invariant-loop-index l = AreReached (IsSlotShown l.counts l.news) (take l.index (numbers_in l.table.jobs)) l.fn.apps.items l.apps.items
