use Rattle.fuxi_terms.proofs.ByPlace.{length-plus, length-minus, length-times}
use Rattle.res_vector.proofs.law.lengths.Goals as goal

pub returns-clause-plus : goal.returns-clause-plus
returns-clause-plus c = length-plus

pub returns-clause-minus : goal.returns-clause-minus
returns-clause-minus c = length-minus

pub returns-clause-times : goal.returns-clause-times
returns-clause-times c = length-times
