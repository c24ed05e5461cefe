use Rattle.std.proofs.Common.{sym, ◌∙◌, arith}
use Rattle.spec_world.specs.Quiet.{is_agent_quiet}
use Rattle.schedule_replay.proofs.Lists.{all_below, not_below}
use Rattle.schedule_replay.proofs.quiet.are_agents_quiet.Goals as goal

pub returns-then-not-is_agent_quiet : goal.returns-then-not-is_agent_quiet
returns-then-not-is_agent_quiet c w m stands agents =
    sym (not_below (is_agent_quiet w m) c.args.machines c.loop-machine.machine c.loop-machine-test.true (sym (c.is_agent_quiet.ensures w m stands agents) ∙ c.if-not-is_agent_quiet.true))

pub returns : goal.returns
returns c w m stands agents =
    let end = c.loop-machine-test.false in
    sym (all_below (is_agent_quiet w m) c.args.machines (λ k lt. c.loop-machine.invariant w m stands agents k (omega (arith, lt, end))))
