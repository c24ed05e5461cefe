use Rattle.party_ledgers.proofs.Totals.{IsTotalTo}
use Rattle.party_ledgers.proofs.row_ledger.total_of.Given as goal

abbrev pub invariant-loop-key : goal.invariant-loop-key
invariant-loop-key l = IsTotalTo l.entries l.key-index l.total.q
