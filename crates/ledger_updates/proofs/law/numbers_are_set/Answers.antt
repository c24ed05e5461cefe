use Rattle.fuxi_terms.specs.TallyKeys.{greatest_grant}
use Rattle.fuxi_terms.proofs.KeyOrders.{key_total, same_key}
use Rattle.fuxi_terms.proofs.NumbersSetLemmas.{set_counts}
use Rattle.ledger_updates.proofs.ProjectionsLemmas.{set_count_is}
use Rattle.ledger_updates.proofs.law.numbers_are_set.Goals as goal

pub returns-clause-numbers : goal.returns-clause-numbers
returns-clause-numbers c es ns sorted q = set_count_is key_total same_key greatest_grant es ns sorted q

pub returns-clause-counts : goal.returns-clause-counts
returns-clause-counts c es ns h numbers = set_counts key_total same_key greatest_grant es ns h numbers.within
