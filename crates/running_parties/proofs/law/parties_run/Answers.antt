use Rattle.running_parties.specs.Slots.{slot_at}
use Rattle.running_parties.proofs.PeersLemmas.{agent_at, app_at}
use Rattle.running_parties.proofs.MastersLemmas.{master_at}
use Rattle.running_parties.proofs.law.parties_run.Goals as goal

pub returns-clause-agents : goal.returns-clause-agents
returns-clause-agents c w x of m = agent_at w m (slot_at x m) (of.each m)

pub returns-clause-apps : goal.returns-clause-apps
returns-clause-apps c w x of a = app_at w a (slot_at x a) (of.each a)

pub returns-clause-masters : goal.returns-clause-masters
returns-clause-masters c w x of e = master_at w e (slot_at x e) (of.each e)
