use Rattle.std.proofs.Common.{◌≡◌, true, sym, ◌∙◌, ap}
use Rattle.fuxi_terms.specs.Numbers.{has_number}
use Rattle.spec_net.specs.Channels.{master_id, agent_id, party}
use Rattle.spec_refinement.specs.SeenWorlds.{master_seen, side_of}
use Rattle.schedule_replay.proofs.Peers.{agent_runs, agent_quiet}
use Rattle.schedule_replay.proofs.quiet.is_agent_quiet.Goals as goal

pub returns : goal.returns
returns c w m stands agents =
    let number = c.args.machine.0 in
    let r = agent_runs c.parties_run.ensures.agents w c.args.agents.now number c.in-Some.agent.now agents c.in-Some.ensures in
    let reported : has_number number m.reported ≡ true = ap (has_number number) (sym (c.reported.ensures.stands (master_seen w m) stands)) ∙ sym c.has.ensures ∙ c.if-not-has.false in
    let peer = party (agent_id number) r.agent.boot in
    agent_quiet w m number c.are_at_rest.result r.agent r.runs reported
    (c.are_at_rest.ensures w.net m peer (c.master_end.ensures (master_seen w m) stands) (c.agent_end.ensures r.agent.boot (side_of w.net peer master_id) r.stands.up))
