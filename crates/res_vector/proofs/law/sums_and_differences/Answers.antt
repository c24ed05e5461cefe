use Rattle.fuxi_terms.proofs.VectorLaws.{plus_comm, plus_assoc, plus-zeros, minus-plus, plus-minus}
use Rattle.res_vector.proofs.law.sums_and_differences.Goals as goal

pub returns-clause-plus_commutes : goal.returns-clause-plus_commutes
returns-clause-plus_commutes c = plus_comm

pub returns-clause-plus_associates : goal.returns-clause-plus_associates
returns-clause-plus_associates c = plus_assoc

pub returns-clause-plus_zero : goal.returns-clause-plus_zero
returns-clause-plus_zero c = plus-zeros

pub returns-clause-minus_plus : goal.returns-clause-minus_plus
returns-clause-minus_plus c = minus-plus

pub returns-clause-plus_minus : goal.returns-clause-plus_minus
returns-clause-plus_minus c = plus-minus
