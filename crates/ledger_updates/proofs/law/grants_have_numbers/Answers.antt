use Rattle.ledger_updates.proofs.GrantEntriesLemmas.{have_numbers}
use Rattle.ledger_updates.proofs.law.grants_have_numbers.Goals as goal

pub returns : goal.returns
returns c a rs t cs kinds = have_numbers a rs t cs kinds
