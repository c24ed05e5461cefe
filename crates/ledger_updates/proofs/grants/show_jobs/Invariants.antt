use Rattle.std.proofs.Common.{take}
use Rattle.ledger_updates.specs.OfNumbers.{turns, AreReached}
use Rattle.ledger_updates.specs.OneJob.{IsSlotShown}
use Rattle.ledger_updates.proofs.grants.show_jobs.Given as goal

abbrev pub invariant-loop-index : goal.invariant-loop-index
invariant-loop-index l = AreReached (IsSlotShown l.counts l.news) (take l.index (turns l.counts l.others)) l.fn.apps.items l.apps.items
