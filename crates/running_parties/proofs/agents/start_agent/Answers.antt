use Rattle.running_parties.proofs.PeersLemmas.{agent_started_in}
use Rattle.running_parties.proofs.agents.start_agent.Goals as goal

pub returns-clause-world : goal.returns-clause-world
returns-clause-world c =
    agent_started_in c.parties_join.ensures.agents_start c.args.machine.0 c.args.has.q c.args.boot c.in_ok-agent.agent c.args.agents.now c.start-2.new.self c.start-2.result c.in_ok-agent.ensures.stands c.start-2.ensures.world
