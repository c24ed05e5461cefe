use Rattle.spec_roles.proofs.ServedInOrderLemmas.{tried_in_order, walked_in_order}
use Rattle.spec_roles.proofs.law.served_in_order.Goals as goal

pub returns : goal.returns
returns c = record {
  tried = λ cluster M v. tried_in_order cluster M v;
  walked = λ M m k. walked_in_order M m k;
}
