use Rattle.std.proofs.Common.{◌≡◌, false, ◌≤◌, drop}
use Rattle.std.specs.Prelude.{unsigned_abs}
use Rattle.std.specs.List.{AllByRecursion}
use Rattle.fuxi_terms.specs.Counts.{is_no_change}
use Rattle.ledger_law.proofs.tally.are_changes_within.Given as goal

abbrev pub invariant-loop-key : goal.invariant-loop-key
invariant-loop-key g l = record {
  yes : AllByRecursion (λ e. (is_no_change e.1 ≡ false) × (unsigned_abs e.1 ≤ g.S.Shape.greatest_of e.0)) (drop l.key-index l.entries) → AllByRecursion (λ e. (is_no_change e.1 ≡ false) × (unsigned_abs e.1 ≤ g.S.Shape.greatest_of e.0)) l.entries;
  no : AllByRecursion (λ e. (is_no_change e.1 ≡ false) × (unsigned_abs e.1 ≤ g.S.Shape.greatest_of e.0)) l.entries → AllByRecursion (λ e. (is_no_change e.1 ≡ false) × (unsigned_abs e.1 ≤ g.S.Shape.greatest_of e.0)) (drop l.key-index l.entries);
}
