-- What is seen of the values that a step works on.
use Rattle.std.specs.Prelude.{◌≡◌}
use Rattle.fuxi_terms.specs.Rows.{row_total}
use Rattle.agent_core.specs.declared.agent.Core.{Core}
use Rattle.agent_core.specs.AgentCores.{AgentCore, IsAgentCore}

abbrev pub core_of : Core → AgentCore
core_of c = record { machine = c.machine.0; has = c.limit.has.q; up = c.up; steps = c.steps }

-- between steps; the total is that of the received row
pub record IsWhole (c : Core) : Type 0 where
  pub core : IsAgentCore (core_of c)
  pub total : c.total.q ≡ row_total c.up.incoming.received
