use Rattle.std.proofs.Common.{◌≡◌, ◌≤◌, ◌++◌, length, map, take, drop}
use Rattle.fuxi_master.specs.Resyncs.{agent_forgotten}
use Rattle.fuxi_master.proofs.sending.resync_agents.Given as goal

abbrev pub invariant-loop-number : goal.invariant-loop-number
invariant-loop-number l = record {
  within : l.number ≤ length l.fn.agents.items;
  now : l.agents.items ≡ map agent_forgotten (take l.number l.fn.agents.items) ++ drop l.number l.fn.agents.items;
}
