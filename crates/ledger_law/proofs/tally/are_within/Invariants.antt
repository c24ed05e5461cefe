use Rattle.std.proofs.Common.{◌<◌, ◌≤◌, drop}
use Rattle.std.specs.List.{AllByRecursion}
use Rattle.ledger_law.proofs.tally.are_within.Given as goal

abbrev pub invariant-loop-key : goal.invariant-loop-key
invariant-loop-key g l = record {
  yes : AllByRecursion (λ e. (0 < e.1) × (e.1 ≤ g.S.Shape.greatest_of e.0)) (drop l.key-index l.entries) → AllByRecursion (λ e. (0 < e.1) × (e.1 ≤ g.S.Shape.greatest_of e.0)) l.entries;
  no : AllByRecursion (λ e. (0 < e.1) × (e.1 ≤ g.S.Shape.greatest_of e.0)) l.entries → AllByRecursion (λ e. (0 < e.1) × (e.1 ≤ g.S.Shape.greatest_of e.0)) (drop l.key-index l.entries);
}
