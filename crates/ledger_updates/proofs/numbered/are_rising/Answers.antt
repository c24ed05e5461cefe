use Rattle.std.proofs.Common.{arith}
use Rattle.std.proofs.lemmas.List.Sorted.{IsNonDecreasingBy-from_all_adjacent}
use Rattle.ledger_updates.proofs.numbered.are_rising.Goals as goal

pub returns : goal.returns
returns g c _ = IsNonDecreasingBy-from_all_adjacent (λ e. e.0) c.args.entries.now (λ k d lt. c.loop-index.invariant k d (omega (arith, lt, c.loop-index-test.false)))
