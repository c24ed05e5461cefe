use Rattle.fuxi_terms.specs.Rows.{greatest_row}
use Rattle.std.proofs.Common.{◌<◌, ◌≤◌, drop}
use Rattle.std.specs.List.{AllByRecursion}
use Rattle.party_ledgers.proofs.row_ledger.are_within.Given as goal

abbrev pub invariant-loop-key : goal.invariant-loop-key
invariant-loop-key l = record {
  yes : AllByRecursion (λ e. (0 < e.1) × (e.1 ≤ greatest_row e.0)) (drop l.key-index l.entries) → AllByRecursion (λ e. (0 < e.1) × (e.1 ≤ greatest_row e.0)) l.entries;
  no : AllByRecursion (λ e. (0 < e.1) × (e.1 ≤ greatest_row e.0)) l.entries → AllByRecursion (λ e. (0 < e.1) × (e.1 ≤ greatest_row e.0)) (drop l.key-index l.entries);
}
