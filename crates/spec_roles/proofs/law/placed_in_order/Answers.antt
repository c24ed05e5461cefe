use Rattle.spec_roles.proofs.PlacedInOrderLemmas.{placed_in_order}
use Rattle.spec_roles.proofs.law.placed_in_order.Goals as goal

pub returns : goal.returns
returns c = λ cluster M s v e. placed_in_order cluster M s v e
