use Rattle.running_parties.proofs.MastersLemmas.{resyncs_role}
use Rattle.running_parties.proofs.masters.MasterParty.resync.Goals as goal

pub returns-in-Ok-clause-resyncs : goal.returns-in-Ok-clause-resyncs
returns-in-Ok-clause-resyncs c = resyncs_role c.args.self c.in-Ok.master c.in-Ok.field-0-1 c.in-Ok.ensures.answers
