-- An entry of a row, as it is handed out.
use Rattle.std.specs.Prelude.{ℕ}
use Rattle.fuxi_terms.specs.Keys.{RowKey}
use Rattle.fuxi_terms.specs.Rows.{row_key}
use Rattle.party_ledgers.specs.declared.row_ledger.RowEntry.{RowEntry}

abbrev pub entry_of : RowEntry → RowKey × ℕ
entry_of e = (row_key e.app.0 e.unit.0 e.size.q, e.count)
