-- The differences of rows and of reports, and the law of differences of both.
use Rattle.std.specs.Prelude.{ℕ, ℤ, ◌≤◌, List, length, Result, Ok}
use Rattle.std.proofs.Common.{refl}
use Rattle.fuxi_terms.specs.declared.answers.LedgerFault.{LedgerFault}
use Rattle.fuxi_terms.specs.Keys.{RowKey, row_cmp}
use Rattle.fuxi_terms.specs.Limits.{most_entries}
use Rattle.fuxi_terms.specs.Counts.{joined, difference, AreChanges}
use Rattle.fuxi_terms.specs.Rows.{IsRow, patched_row}
use Rattle.fuxi_terms.proofs.RowDifferences.{row_by_difference as row_gives, row_difference_alone}
use Rattle.ledger_law.specs.Differing.{ByDifference, AlwaysReaches}
use Rattle.party_ledgers.specs.Joins.{JoinRecord, IsJoin}

abbrev pub row_difference : List (RowKey × ℕ) → List (RowKey × ℕ) → List (RowKey × ℤ)
row_difference = difference row_cmp

abbrev pub AreRowDifferences : List (RowKey × ℤ) → Type 0
AreRowDifferences = AreChanges row_cmp

-- the keys of both rows together are not more than a row may have
abbrev pub AreFewTogether : List (RowKey × ℕ) → List (RowKey × ℕ) → Type 0
AreFewTogether old new = length (joined row_cmp old new) ≤ most_entries

pub row_by_difference : ByDifference IsRow AreRowDifferences AreFewTogether patched_row row_difference
row_by_difference = record {
  gives = row_gives;
  alone = λ old new changes old_is new_is are is. row_difference_alone old new changes new_is are is;
}

-- a change of a report is the new report
abbrev pub replaced : JoinRecord → JoinRecord → Result JoinRecord LedgerFault
replaced old change = Ok change

abbrev pub IsReplacement : JoinRecord → Type 0
IsReplacement change = Unit {0}

abbrev pub replacement : JoinRecord → JoinRecord → JoinRecord
replacement old new = new

pub by_replacement : ByDifference IsJoin IsReplacement AlwaysReaches replaced replacement
by_replacement = record {
  gives = λ old new a b r. refl;
  alone = λ old new change a b c is. cc;
}
