use Rattle.std.proofs.Common.{◌≡◌, ◌++◌, map, take}
use Rattle.ledger_updates.proofs.grants.put_counts.Given as goal

abbrev pub invariant-loop-count : goal.invariant-loop-count
invariant-loop-count l = l.numbers.items ≡ l.fn.numbers.items ++ map (λ e. e.1) (take l.count-index l.count-items)
