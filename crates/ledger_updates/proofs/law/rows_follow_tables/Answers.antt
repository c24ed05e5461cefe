use Rattle.ledger_updates.proofs.ProjectionsLemmas.{row_follows}
use Rattle.ledger_updates.proofs.law.rows_follow_tables.Goals as goal

pub returns : goal.returns
returns c jobs m old new ns h k numbers f = row_follows jobs m old new ns h k numbers f
