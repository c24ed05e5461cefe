use Rattle.fuxi_terms.proofs.VectorLaws.{All-fits, All-plus, All-times, All-total}
use Rattle.res_vector.proofs.law.ranges.Goals as goal

pub returns-clause-fits : goal.returns-clause-fits
returns-clause-fits c = All-fits

pub returns-clause-plus : goal.returns-clause-plus
returns-clause-plus c = All-plus

pub returns-clause-times : goal.returns-clause-times
returns-clause-times c = All-times

pub returns-clause-total : goal.returns-clause-total
returns-clause-total c = All-total
