use Rattle.std.proofs.Common.{sym, subst, ap, drop}
use Rattle.std.proofs.lemmas.List.Elements.{All-from_recursion}
use Rattle.std.proofs.lemmas.Result.{err_from_is_err_and}
use Rattle.ledger_law.specs.ReadForms.{refused}
use Rattle.party_ledgers.specs.Joins.{IsJoin, join_form}
use Rattle.fuxi_terms.specs.Rows.{IsRow}
use Rattle.party_ledgers.specs.RowOneForm.{row_entries, few_entries}
use Rattle.party_ledgers.proofs.NoRowForm.{not_row}
use Rattle.party_ledgers.proofs.join.JoinLedgerLedger.read_full.Goals as goal

pub returns-in_err-epoch : goal.returns-in_err-epoch
returns-in_err-epoch c =
    let p = err_from_is_err_and c.from_residual.result c.from_residual.ensures.1 in
    rw (p.1, p.2) (refused IsJoin join_form c.args.body.now _ (λ is j h e. c.in_err-epoch.ensures.none is j.epoch j.table (All-from_recursion _ j.table (row_entries j.table h.table)) (few_entries j.table h.table) e))

pub returns-then-not-is_row : goal.returns-then-not-is_row
returns-then-not-is_row c j h e =
    not_row (drop 8 c.args.body.now) c.in_ok-epoch.entries.items c.in_ok-epoch.ensures.entries.0 c.in_ok-epoch.ensures.entries.1 (ap (drop 8) c.in_ok-epoch.ensures.found)
    (λ is. c.is_row.ensures.no c.if-not-is_row.true (subst (λ es. IsRow es) (sym c.deref.ensures.value) is)) j.table h.table (ap (drop 8) e)
