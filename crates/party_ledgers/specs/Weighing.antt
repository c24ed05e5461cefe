-- What the row that a change makes takes in all.
use Rattle.std.specs.Prelude.{◌≡◌, ℕ, ◌-◌, cond, nat_lt, List, Result, Ok, Err}
use Rattle.fuxi_terms.specs.declared.answers.LedgerFault.{LedgerFault}
use Rattle.fuxi_terms.specs.declared.vectors.Sum.{Sum}
use Rattle.fuxi_terms.specs.Keys.{RowKey}
use Rattle.fuxi_terms.specs.Rows.{row_total}
use Rattle.fuxi_terms.specs.Vectors.{plus, minus, times}

-- the total of the row that is made, or the refusal
abbrev pub TotalsAfter : Result (List (RowKey × ℕ)) LedgerFault → Result Sum LedgerFault → Type 0
TotalsAfter (Ok row) (Ok total) = total.q ≡ row_total row
TotalsAfter (Err fault) (Err told) = fault ≡ told
TotalsAfter (Ok row) (Err told) = ⊥
TotalsAfter (Err fault) (Ok total) = ⊥

-- a total after the number of grants of a size was changed
abbrev pub total_moved : List ℕ → List ℕ → ℕ → ℕ → List ℕ
total_moved total size before after = cond (nat_lt after before) (minus total (times (before - after) size)) (plus total (times (after - before) size))
