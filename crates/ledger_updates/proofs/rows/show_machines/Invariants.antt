use Rattle.std.proofs.Common.{take}
use Rattle.ledger_updates.specs.OfNumbers.{turns, AreReached}
use Rattle.ledger_updates.specs.TouchedNumbers.{IsRowShown}
use Rattle.ledger_updates.proofs.rows.show_machines.Given as goal

abbrev pub invariant-loop-index : goal.invariant-loop-index
invariant-loop-index l = AreReached (IsRowShown l.even_if_equal l.numbers) (take l.index (turns l.numbers l.others)) l.fn.sides.items l.sides.items
