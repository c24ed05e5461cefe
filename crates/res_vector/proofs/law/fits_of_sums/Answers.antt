use Rattle.fuxi_terms.proofs.VectorLaws.{fits-plus_left, fits-minus_left, fits-plus-plus, fits-minus-minus, fits-free}
use Rattle.res_vector.proofs.law.fits_of_sums.Goals as goal

pub returns-clause-addend : goal.returns-clause-addend
returns-clause-addend c = fits-plus_left

pub returns-clause-rest : goal.returns-clause-rest
returns-clause-rest c = fits-minus_left

pub returns-clause-plus : goal.returns-clause-plus
returns-clause-plus c = fits-plus-plus

pub returns-clause-minus : goal.returns-clause-minus
returns-clause-minus c = fits-minus-minus

pub returns-clause-free : goal.returns-clause-free
returns-clause-free c = fits-free
