use Rattle.running_parties.proofs.MastersLemmas.{heard_role}
use Rattle.running_parties.proofs.masters.MasterParty.hear.Goals as goal

pub returns-clause-hears : goal.returns-clause-hears
returns-clause-hears c = heard_role c.args.packet c.args.self c.hear.result c.hear.ensures.answers
