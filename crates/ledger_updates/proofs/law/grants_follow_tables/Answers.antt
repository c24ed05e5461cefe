use Rattle.ledger_updates.proofs.GrantEntriesLemmas.{grants_follow}
use Rattle.ledger_updates.proofs.law.grants_follow_tables.Goals as goal

pub returns : goal.returns
returns c a es ns rs t cs h k numbers f = grants_follow a es ns rs t cs h k numbers f
