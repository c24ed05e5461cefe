use Rattle.std.proofs.Common.{sym, subst}
use Rattle.std.specs.List.{All}
use Rattle.std.proofs.lemmas.List.Elements.{All-from_recursion}
use Rattle.party_ledgers.specs.RowForms.{IsRowEntry}
use Rattle.party_ledgers.specs.RowOneForm.{row_entries}
use Rattle.party_ledgers.proofs.row_ledger.RowLedgerLedger.write_full.Goals as goal

pub write_counted-requires-clause-entries : goal.write_counted-requires-clause-entries
write_counted-requires-clause-entries c = subst (λ es. All IsRowEntry es) (sym c.deref.ensures.value) (All-from_recursion _ c.self.inside.entries.items (row_entries c.self.inside.entries.items c.self.invariant))
