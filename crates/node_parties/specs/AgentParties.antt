-- Which parties of a node an agent is.
use Rattle.agent_core.specs.AgentCores.{AgentCore, StandsFor}
use Rattle.node_core.specs.Roles.{Role, OfAgent, OfApp, OfMaster}

-- it stands for agents alone
abbrev pub StandsAs : AgentCore → Role → Type 0
StandsAs a (OfAgent r) = StandsFor a r
StandsAs a (OfApp r) = ⊥
StandsAs a (OfMaster h r) = ⊥
