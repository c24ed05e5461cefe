use Rattle.std.proofs.Common.{sym, subst}
use Rattle.std.specs.List.{All}
use Rattle.std.proofs.lemmas.List.Elements.{All-from_recursion}
use Rattle.party_ledgers.specs.RowForms.{IsRowEntry}
use Rattle.party_ledgers.specs.RowOneForm.{row_entries}
use Rattle.party_ledgers.proofs.join.JoinLedgerLedger.write_full.Goals as goal

pub write_headed-requires-clause-entries : goal.write_headed-requires-clause-entries
write_headed-requires-clause-entries c = subst (λ es. All IsRowEntry es) (sym c.entries.ensures.entries) (All-from_recursion _ _ (row_entries _ c.entries.ensures.row))
