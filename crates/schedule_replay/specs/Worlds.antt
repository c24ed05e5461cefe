-- What runs a schedule, and the worlds that it stands for.
use Rattle.std.specs.Prelude.{◌≡◌, ℕ, ◌*◌, ◌^◌, true, List, map}
use Rattle.std.specs.List.{AllByRecursion}
use Rattle.fuxi_terms.specs.Cluster.{ClusterRecord, is_valid_cluster}
use Rattle.party_ledgers.specs.declared.packets.Packet.{Packet}
use Rattle.peer_channel.specs.Parcels.{parcel_is, IsSent}
use Rattle.spec_refinement.specs.SeenWorlds.{parcel_of}
use Rattle.spec_world.specs.World.{World}
use Rattle.spec_world.specs.Good.{Good}
use Rattle.schedule_replay.specs.PacketPools.{Stored, Keeps}
use Rattle.schedule_replay.specs.Held.{Held, IsOpen}
use Rattle.agent_core.specs.AgentCores.{AgentCore}
use Rattle.app_master.specs.AppCores.{AppCore}
use Rattle.fuxi_master.specs.Cores.{MasterRecord}
use Rattle.running_parties.specs.Slots.{SlotsRecord, AreWithin as PartiesWithin}
use Rattle.running_parties.specs.Peers.{AreAgentsOf, AreAppsOf, agent_steps, app_steps}
use Rattle.running_parties.specs.RunningMasters.{AreMastersOf, master_steps}
use Rattle.spec_world.specs.Orders.{IsInOrder}

-- the cluster, the hard state on its disk, the cores that run, the frames of all packets that were sent, and the number of events
pub record WorldRecord : Type 0 where
  pub cluster : ClusterRecord
  pub checkpoint : Held
  pub masters : SlotsRecord MasterRecord
  pub agents : SlotsRecord AgentCore
  pub apps : SlotsRecord AppCore
  pub pool : Stored
  pub events : ℕ

-- the frames are, in their order, those of the packets of a world with what they hold
pub record KeepsPackets (w : World) (p : Stored) : Type 0 where
  pub packets : List Packet
  pub kept : Keeps p packets
  pub sent : AllByRecursion IsSent packets
  pub same : map parcel_is packets ≡ map (parcel_of w.net) w.net.packets

-- A world to which inputs lead: a good one, on a valid cluster, whose parties stand in the order of their numbers
pub record IsWorld (w : World) : Type 0 where
  pub valid : is_valid_cluster w.cluster ≡ true
  pub good : Good w
  pub order : IsInOrder w

-- What runs stands for a world: one core for each party that runs and no other, each with what the party has; the last boots; the hard state, for which
-- the file on the disk stands, with nothing pending; the frames of the packets; and the number of events
pub record StandsFor (r : WorldRecord) (w : World) : Type 0 where
  pub cluster : r.cluster ≡ w.cluster
  pub hard : r.checkpoint.hard.value ≡ w.hard
  pub rests : IsOpen r.checkpoint
  pub masters : AreMastersOf w r.masters
  pub agents : AreAgentsOf w r.agents
  pub apps : AreAppsOf w r.apps
  pub packets : KeepsPackets w r.pool
  pub events : r.events ≡ w.events

-- an event is at most so many steps of one core: it delivers no packet twice, and there are at most 1,000,000
abbrev pub event_steps : ℕ
event_steps = 2 ^ 20

-- no core took more steps than this
pub record AreWithin (n : ℕ) (r : WorldRecord) : Type 0 where
  pub masters : PartiesWithin master_steps n r.masters
  pub agents : PartiesWithin agent_steps n r.agents
  pub apps : PartiesWithin app_steps n r.apps

-- It stands for a world to which an input led, whatever happened to it
pub record IsReached (r : WorldRecord) : Type 0 where
  pub world : World
  pub is : IsWorld world
  pub stands : StandsFor r world
  pub within : AreWithin (r.events * event_steps) r
