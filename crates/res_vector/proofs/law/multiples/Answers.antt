use Rattle.fuxi_terms.proofs.VectorLaws.{times-zero, times-one, times-add, times-sub, times-plus, fits-times}
use Rattle.res_vector.proofs.law.multiples.Goals as goal

pub returns-clause-none : goal.returns-clause-none
returns-clause-none c = times-zero

pub returns-clause-one : goal.returns-clause-one
returns-clause-one c = times-one

pub returns-clause-more : goal.returns-clause-more
returns-clause-more c = times-add

pub returns-clause-fewer : goal.returns-clause-fewer
returns-clause-fewer c = times-sub

pub returns-clause-sum : goal.returns-clause-sum
returns-clause-sum c = times-plus

pub returns-clause-fits : goal.returns-clause-fits
returns-clause-fits c = fits-times
