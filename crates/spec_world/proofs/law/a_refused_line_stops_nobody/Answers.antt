use Rattle.spec_world.proofs.HaltsLemmas.{stops_nobody}
use Rattle.spec_world.proofs.law.a_refused_line_stops_nobody.Goals as goal

pub returns : goal.returns
returns g = λ w x r calls all is. stops_nobody w x r calls all is
