-- What an agent answers, said of every agent by itself that it stands for.
use Rattle.std.specs.Prelude.{◌≡◌, ◌+◌, List, map}
use Rattle.party_ledgers.specs.declared.packets.Heard.{Heard}
use Rattle.party_ledgers.specs.declared.packets.Packet.{Packet}
use Rattle.spec_roles.specs.Agents.{AgentRole, agent_hears_alone, agent_turn, agent_resynced}
use Rattle.peer_channel.specs.Parcels.{parcel_is}
use Rattle.agent_core.specs.AgentCores.{AgentCore, StandsFor}

-- the agent by itself hears the packet, and the new one stands for it then
pub record Answers (new : AgentCore) (x : Packet) (heard : Heard) (r : AgentRole) : Type 0 where
  pub role : StandsFor new (agent_hears_alone r (parcel_is x)).role
  pub fresh : heard.fresh ≡ (agent_hears_alone r (parcel_is x)).fresh
  pub says : heard.what ≡ (agent_hears_alone r (parcel_is x)).what

abbrev pub AnswersAlike : Packet → AgentCore → AgentCore → Heard → Type 0
AnswersAlike x old new heard = (r : AgentRole) → StandsFor old r → Answers new x heard r

-- the packets are those that the agent by itself sends
abbrev pub SendsAlike : AgentCore → List Packet → Type 0
SendsAlike a packets = (r : AgentRole) → StandsFor a r → map parcel_is packets ≡ agent_turn r

abbrev pub ResyncsAlike : AgentCore → AgentCore → Type 0
ResyncsAlike old new = (r : AgentRole) → StandsFor old r → StandsFor new (agent_resynced r)

-- one step more of the same agent
pub record Steps (old new : AgentCore) : Type 0 where
  pub steps : new.steps ≡ old.steps + 1
  pub machine : new.machine ≡ old.machine
  pub has : new.has ≡ old.has
  pub boot : new.up.outgoing.own ≡ old.up.outgoing.own
