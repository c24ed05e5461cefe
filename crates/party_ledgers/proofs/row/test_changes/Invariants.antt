use Rattle.party_ledgers.proofs.PatchedRow.{IsTestedTo}
use Rattle.party_ledgers.proofs.row.test_changes.Given as goal

abbrev pub invariant-loop-key : goal.invariant-loop-key
invariant-loop-key l = IsTestedTo l.entries l.changes l.key-index l.len
