use Rattle.spec_world.proofs.HaltsLemmas.{halts_so}
use Rattle.spec_world.proofs.law.every_halt_stops_its_master.Goals as goal

pub returns : goal.returns
returns g = λ c before after calls all x writes done. halts_so c before calls all x writes done after
