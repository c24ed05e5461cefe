use Rattle.fuxi_terms.proofs.Alls.{all_more}
use Rattle.spec_roles.specs.Preemption.{tried_in}
use Rattle.preempt.proofs.Promised.{IsLower, promised}
use Rattle.preempt.proofs.SearchLemmas.{first_found, none_before, none_from}
use Rattle.preempt.proofs.Sums.{by_enough}
use Rattle.preempt.proofs.law.planning.Goals as goal

pub returns : goal.returns
returns c = record {
  first = λ B es line p e. first_found B es (tried_in B es line) p e;
  none = λ B es line e. none_before B es (tried_in B es line) e;
  passed = λ B es line h. none_from B es (tried_in B es line) h;
  lower = λ B es line p e. all_more (IsLower B es p.served) _ (λ s h. h.lower) p.losers (promised B es p.served p.losers (first_found B es (tried_in B es line) p e).has).lower;
  limit = λ B es line p i e lt. (by_enough B es p.served p.losers (promised B es p.served p.losers (first_found B es (tried_in B es line) p e).has).enough).allowed i lt;
}
