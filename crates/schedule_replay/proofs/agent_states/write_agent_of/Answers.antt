use Rattle.std.proofs.Common.{sym, subst}
use Rattle.std.specs.Ordering.{nat_cmp}
use Rattle.std.specs.FinMap.Entries.{find}
use Rattle.spec_world.specs.Show.{show_agent}
use Rattle.spec_refinement.specs.SeenWorlds.{agent_seen}
use Rattle.spec_refinement.specs.States.{agent_lines}
use Rattle.running_parties.specs.Peers.{AgentRunsAs, AgentAt}
use Rattle.schedule_replay.proofs.Found.{shows_found, shows_none}
use Rattle.schedule_replay.proofs.agent_states.write_agent_of.Goals as goal

pub write_agent-requires : goal.write_agent-requires
write_agent-requires c = record { number = c.requires c.args.machine.0 c.in-Some.agent.now (sym c.in-Some.ensures) }

pub returns-in-Ok-clause-ok : goal.returns-in-Ok-clause-ok
returns-in-Ok-clause-ok c =
    let m = c.args.machine.0 in
    λ w of.
    let runs : AgentRunsAs w m c.in-Some.agent.now = subst (AgentAt w m) (sym c.in-Some.ensures) (c.parties_run.ensures.agents w c.args.agents.now of m) in
    let seen = agent_seen w m runs.agent in
    shows_found (show_agent w.net m) (find nat_cmp m w.agents) runs.agent (agent_lines seen) c.args.out.now.items c.write_agent.new.out.items runs.runs (c.states_are_alone.ensures.agent w m runs.agent) (c.in-Ok.ensures.ok seen runs.stands)

pub returns-in-None-clause-ok : goal.returns-in-None-clause-ok
returns-in-None-clause-ok c =
    let m = c.args.machine.0 in
    λ w of. shows_none (show_agent w.net m) (find nat_cmp m w.agents) c.args.out.now.items (subst (AgentAt w m) (sym c.in-None.ensures) (c.parties_run.ensures.agents w c.args.agents.now of m))
