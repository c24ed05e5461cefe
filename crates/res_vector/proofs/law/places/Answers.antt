use Rattle.fuxi_terms.proofs.VectorLaws.{fits_places, at_place-plus, at_place-minus, at_place-times, same_at_places}
use Rattle.res_vector.proofs.law.places.Goals as goal

pub returns-clause-fits : goal.returns-clause-fits
returns-clause-fits c = fits_places

pub returns-clause-plus : goal.returns-clause-plus
returns-clause-plus c = at_place-plus

pub returns-clause-minus : goal.returns-clause-minus
returns-clause-minus c = at_place-minus

pub returns-clause-times : goal.returns-clause-times
returns-clause-times c = at_place-times

pub returns-clause-same : goal.returns-clause-same
returns-clause-same c = same_at_places
