use Rattle.std.proofs.Common.{sym, subst}
use Rattle.std.proofs.lemmas.List.Elements.{All-from_recursion}
use Rattle.std.proofs.lemmas.Result.{err_from_is_err_and}
use Rattle.ledger_law.specs.ReadForms.{refused}
use Rattle.fuxi_terms.specs.Rows.{IsRow}
use Rattle.party_ledgers.specs.RowForms.{row_form}
use Rattle.party_ledgers.specs.RowOneForm.{row_entries, few_entries}
use Rattle.party_ledgers.proofs.NoRowForm.{not_row}
use Rattle.party_ledgers.proofs.row_ledger.RowLedgerLedger.read_full.Goals as goal

pub returns-in_err-entries : goal.returns-in_err-entries
returns-in_err-entries c =
    let p = err_from_is_err_and c.from_residual.result c.from_residual.ensures.1 in
    rw (p.1, p.2) (refused IsRow row_form c.args.body.now _ (λ is row h e. c.in_err-entries.ensures.none is row (All-from_recursion _ row (row_entries row h)) (few_entries row h) e))

pub returns-then-not-is_row : goal.returns-then-not-is_row
returns-then-not-is_row c row h e =
    not_row c.args.body.now c.in_ok-entries.entries.items c.in_ok-entries.ensures.entries.0 c.in_ok-entries.ensures.entries.1 c.in_ok-entries.ensures.found
    (λ is. c.is_row.ensures.no c.if-not-is_row.true (subst (λ es. IsRow es) (sym c.deref.ensures.value) is)) row h e
