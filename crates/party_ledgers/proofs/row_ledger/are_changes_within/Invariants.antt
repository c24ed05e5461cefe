use Rattle.fuxi_terms.specs.Rows.{greatest_row}
use Rattle.std.proofs.Common.{◌≡◌, false, ◌≤◌, drop}
use Rattle.std.specs.Prelude.{unsigned_abs}
use Rattle.std.specs.List.{AllByRecursion}
use Rattle.fuxi_terms.specs.Counts.{is_no_change}
use Rattle.party_ledgers.proofs.row_ledger.are_changes_within.Given as goal

abbrev pub invariant-loop-key : goal.invariant-loop-key
invariant-loop-key l = record {
  yes : AllByRecursion (λ e. (is_no_change e.1 ≡ false) × (unsigned_abs e.1 ≤ greatest_row e.0)) (drop l.key-index l.entries) → AllByRecursion (λ e. (is_no_change e.1 ≡ false) × (unsigned_abs e.1 ≤ greatest_row e.0)) l.entries;
  no : AllByRecursion (λ e. (is_no_change e.1 ≡ false) × (unsigned_abs e.1 ≤ greatest_row e.0)) l.entries → AllByRecursion (λ e. (is_no_change e.1 ≡ false) × (unsigned_abs e.1 ≤ greatest_row e.0)) (drop l.key-index l.entries);
}
