use Rattle.running_parties.proofs.SlotsLemmas.{others_stand}
use Rattle.running_parties.proofs.law.others_stay.Goals as goal

pub returns : goal.returns
returns g c = others_stand g.P.Party.stands
