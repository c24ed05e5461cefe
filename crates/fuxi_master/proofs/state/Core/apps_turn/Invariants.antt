use Rattle.std.proofs.Common.{◌≡◌, ◌++◌, map, take}
use Rattle.std.specs.List.{AllByRecursion, flat_map}
use Rattle.peer_channel.specs.Parcels.{IsSent}
use Rattle.spec_net.specs.Channels.{app_id}
use Rattle.spec_roles.specs.MasterRoles.{MasterRole}
use Rattle.peer_channel.specs.Parcels.{parcel_is}
use Rattle.fuxi_master.specs.Cores.{StandsFor}
use Rattle.fuxi_master.specs.Seen.{core_of}
use Rattle.fuxi_master.proofs.TurnPackets.{sent_to, numbers_in}
use Rattle.fuxi_master.proofs.state.Core.apps_turn.Given as goal

abbrev pub invariant-loop-index : goal.invariant-loop-index
invariant-loop-index l = record {
  sends : (r : MasterRole) → StandsFor (core_of l.self) r → map parcel_is l.packets ≡ map parcel_is l.fn.packets ++ flat_map (sent_to r) (map app_id (numbers_in (take l.index l.self.allotment.table.jobs)));
  formed : AllByRecursion IsSent l.fn.packets → AllByRecursion IsSent l.packets;
}
