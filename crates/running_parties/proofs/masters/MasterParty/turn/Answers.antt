use Rattle.running_parties.proofs.MastersLemmas.{sent_role}
use Rattle.running_parties.proofs.masters.MasterParty.turn.Goals as goal

pub returns-clause-sends : goal.returns-clause-sends
returns-clause-sends c = sent_role c.args.self c.turn.result c.turn.ensures.answers
