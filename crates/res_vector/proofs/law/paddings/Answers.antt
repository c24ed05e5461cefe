use Rattle.fuxi_terms.proofs.VectorLaws.{length-padded, take-padded, at_place-padded, fits-padded, plus-padded, minus-padded, times-padded, quantities-padded}
use Rattle.res_vector.proofs.law.paddings.Goals as goal

pub returns-clause-length : goal.returns-clause-length
returns-clause-length c = length-padded

pub returns-clause-back : goal.returns-clause-back
returns-clause-back c = take-padded

pub returns-clause-places : goal.returns-clause-places
returns-clause-places c = at_place-padded

pub returns-clause-fits : goal.returns-clause-fits
returns-clause-fits c = fits-padded

pub returns-clause-plus : goal.returns-clause-plus
returns-clause-plus c = plus-padded

pub returns-clause-minus : goal.returns-clause-minus
returns-clause-minus c = minus-padded

pub returns-clause-times : goal.returns-clause-times
returns-clause-times c = times-padded

pub returns-clause-quantities : goal.returns-clause-quantities
returns-clause-quantities c = quantities-padded
