use Rattle.running_parties.specs.RunningMasters.{master_steps}
use Rattle.running_parties.proofs.MastersLemmas.{stop_in}
use Rattle.running_parties.proofs.SlotsLemmas.{within_gone}
use Rattle.running_parties.proofs.masters.stop_master.Goals as goal

pub returns-clause-world : goal.returns-clause-world
returns-clause-world c = stop_in c.args.epoch c.args.masters.now c.remove.new.self c.remove.result c.remove.ensures.gone c.remove.ensures.ran

pub returns-clause-within : goal.returns-clause-within
returns-clause-within c n = within_gone master_steps c.args.epoch n c.args.masters.now c.remove.new.self c.remove.ensures.gone
