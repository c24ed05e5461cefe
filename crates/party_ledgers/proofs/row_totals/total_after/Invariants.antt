use Rattle.party_ledgers.proofs.TotalAfter.{IsMovedTo}
use Rattle.party_ledgers.proofs.row_totals.total_after.Given as goal

abbrev pub invariant-loop-key : goal.invariant-loop-key
invariant-loop-key l = IsMovedTo l.entries l.changes l.key-index l.len l.total.q
