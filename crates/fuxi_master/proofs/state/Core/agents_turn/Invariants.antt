use Rattle.std.proofs.Common.{◌≡◌, ◌≤◌, ◌++◌, length, map}
use Rattle.std.specs.List.{AllByRecursion, flat_map}
use Rattle.fuxi_terms.specs.Lists.{below}
use Rattle.peer_channel.specs.Parcels.{IsSent}
use Rattle.spec_net.specs.Channels.{agent_id}
use Rattle.spec_roles.specs.MasterRoles.{MasterRole}
use Rattle.peer_channel.specs.Parcels.{parcel_is}
use Rattle.fuxi_master.specs.Cores.{StandsFor}
use Rattle.fuxi_master.specs.Seen.{core_of}
use Rattle.fuxi_master.proofs.TurnPackets.{sent_to}
use Rattle.fuxi_master.proofs.state.Core.agents_turn.Given as goal

abbrev pub invariant-loop-number : goal.invariant-loop-number
invariant-loop-number l = record {
  within : l.number ≤ length l.self.agents.items;
  sends : (r : MasterRole) → StandsFor (core_of l.self) r → map parcel_is l.packets ≡ map parcel_is l.fn.packets ++ flat_map (sent_to r) (map agent_id (below l.number));
  formed : AllByRecursion IsSent l.fn.packets → AllByRecursion IsSent l.packets;
}
