use Rattle.std.proofs.Common.{sym, subst}
use Rattle.std.proofs.lemmas.List.Elements.{All-from_recursion}
use Rattle.std.proofs.lemmas.Result.{err_from_is_err_and}
use Rattle.ledger_law.specs.ReadForms.{refused}
use Rattle.fuxi_terms.specs.Rows.{IsRowChange}
use Rattle.party_ledgers.specs.RowForms.{row_change_form}
use Rattle.party_ledgers.specs.RowOneForm.{row_changes, few_row_changes}
use Rattle.party_ledgers.proofs.NoRowForm.{not_row_change}
use Rattle.party_ledgers.proofs.row_ledger.RowLedgerLedger.read_delta.Goals as goal

pub returns-in_err-entries : goal.returns-in_err-entries
returns-in_err-entries c =
    let p = err_from_is_err_and c.from_residual.result c.from_residual.ensures.1 in
    rw (p.1, p.2) (refused IsRowChange row_change_form c.args.body.now _ (λ is change h e. c.in_err-entries.ensures.none is change (All-from_recursion _ change (row_changes change h.changes)) (few_row_changes change h) e))

pub returns-then-not-is_row_change : goal.returns-then-not-is_row_change
returns-then-not-is_row_change c change h e =
    not_row_change c.args.body.now c.in_ok-entries.entries.items c.in_ok-entries.ensures.entries.0 c.in_ok-entries.ensures.entries.1 c.in_ok-entries.ensures.found
    (λ is. c.is_row_change.ensures.no c.if-not-is_row_change.true (subst (λ cs. IsRowChange cs) (sym c.deref.ensures.value) is)) change h e
