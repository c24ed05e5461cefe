use Rattle.std.proofs.Common.{map, drop}
use Rattle.fuxi_terms.specs.Keys.{row_cmp}
use Rattle.ledger_updates.specs.Shown.{numbered}
use Rattle.fuxi_terms.proofs.MovesLemmas.{IsMovesTo}
use Rattle.ledger_updates.proofs.machine_row.row_change.Given as goal

abbrev pub invariant-loop-entry : goal.invariant-loop-entry
invariant-loop-entry l = IsMovesTo row_cmp l.row (map numbered l.numbers) (map numbered (drop l.entry-index l.numbers)) l.change
