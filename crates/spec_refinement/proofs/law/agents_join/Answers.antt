use Rattle.spec_refinement.proofs.AgentsJoin.{agent_hears_alike, agent_turn_alike, agent_resync_alike, agent_start_alike}
use Rattle.spec_refinement.proofs.law.agents_join.Goals as goal

pub returns : goal.returns
returns c = record {
  hears = λ w m g which x there s joined leads. agent_hears_alike w m g which x there s joined leads;
  turns = λ w m g s. agent_turn_alike w m g s;
  resyncs = λ w m g s. agent_resync_alike w m g s;
  starts = λ w m b s none. agent_start_alike w m b s none;
}
