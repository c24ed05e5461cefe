use Rattle.fuxi_terms.proofs.VectorLaws.{fits-refl, fits-trans, fits-antisym, fits-zeros}
use Rattle.res_vector.proofs.law.fits_is_an_order.Goals as goal

pub returns-clause-reflexive : goal.returns-clause-reflexive
returns-clause-reflexive c = fits-refl

pub returns-clause-transitive : goal.returns-clause-transitive
returns-clause-transitive c = fits-trans

pub returns-clause-antisymmetric : goal.returns-clause-antisymmetric
returns-clause-antisymmetric c = fits-antisym

pub returns-clause-least : goal.returns-clause-least
returns-clause-least c = fits-zeros
