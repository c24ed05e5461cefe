use Rattle.std.proofs.Common.{◌≤◌}
use Rattle.std.specs.List.{AllAdjacentBelow}
use Rattle.ledger_updates.proofs.numbered.are_rising.Given as goal

abbrev pub invariant-loop-index : goal.invariant-loop-index
invariant-loop-index g l = AllAdjacentBelow (λ x y. x.0 ≤ y.0) l.entries l.index
