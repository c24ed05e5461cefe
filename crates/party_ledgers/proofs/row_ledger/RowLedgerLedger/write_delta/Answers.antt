use Rattle.std.proofs.Common.{sym, subst}
use Rattle.std.specs.List.{All}
use Rattle.std.proofs.lemmas.List.Elements.{All-from_recursion}
use Rattle.party_ledgers.specs.RowForms.{IsRowChangeEntry}
use Rattle.party_ledgers.specs.RowOneForm.{row_changes}
use Rattle.party_ledgers.proofs.row_ledger.RowLedgerLedger.write_delta.Goals as goal

pub write_counted-requires-clause-entries : goal.write_counted-requires-clause-entries
write_counted-requires-clause-entries c = subst (λ cs. All IsRowChangeEntry cs) (sym c.deref.ensures.value) (All-from_recursion _ c.change.inside.entries.items (row_changes c.change.inside.entries.items c.change.invariant))
