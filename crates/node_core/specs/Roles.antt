-- The party of a node by itself: what it hears, which packets it is allowed, and what it sends in a connection.
use Rattle.std.specs.Prelude.{◌≡◌, ℕ, Bool, true, false, ◌&&◌, List, [], ◌++◌, map, Option, Some, None}
use Rattle.std.specs.List.{AllByRecursion, flat_map}
use Rattle.fuxi_io.specs.Disks.{Told as Moments}
use Rattle.schedule_unit.specs.declared.party.Party.{Party}
use Rattle.schedule_unit.specs.declared.party.Role.TheVariants.{Master, Agent, App}
use Rattle.party_ledgers.specs.declared.packets.Kind.TheVariants.{End}
use Rattle.party_ledgers.specs.declared.packets.Body.TheVariants.{Nothing}
use Rattle.party_ledgers.specs.declared.packets.Packet.{Packet}
use Rattle.party_ledgers.specs.Packets.{is_number_of}
use Rattle.wire_frames.specs.Frames.{frame}
use Rattle.spec_net.specs.Net.{Id, same_id}
use Rattle.spec_net.specs.Channels.{master_id, agent_id, app_id, is_master}
use Rattle.spec_net.specs.Sides.{Parcel, turn_parcels}
use Rattle.spec_roles.specs.Agents.{AgentRole, agent_hears_alone, agent_turn}
use Rattle.spec_roles.specs.Apps.{AppRole, app_hears_alone, app_turn}
use Rattle.spec_roles.specs.HardState.{HardState}
use Rattle.spec_roles.specs.MasterSteps.{master_party, talks}
use Rattle.spec_roles.specs.MasterRoles.{MasterRole, master_hears_alone, report_excess}
use Rattle.peer_channel.specs.Parcels.{id_of, parcel_is, IsSent}

-- an agent, an application, or a master with its hard state
pub data Role : Type 0 where
  OfAgent : (agent : AgentRole) → Role
  OfApp : (app : AppRole) → Role
  OfMaster : (hard : HardState) → (master : MasterRole) → Role

abbrev pub id_in : Party → Id
id_in p = id_of p.role p.number

-- the party after a packet that is no End; no packet changes a hard state
abbrev pub heard : Role → Packet → Role
heard (OfAgent r) x = OfAgent (agent_hears_alone r (parcel_is x)).role
heard (OfApp r) x = OfApp (app_hears_alone r (parcel_is x)).role
heard (OfMaster h r) x = OfMaster h (master_hears_alone (report_excess r.cluster r.state) r (parcel_is x)).role

-- the other party of a connection is this one, or none is known yet
abbrev pub may_be : Option Party → Id → Bool
may_be None id = true
may_be (Some peer) id = same_id (id_in peer) id

-- A connection allows an agent or an application the packets of the master for it, and a master those of one agent or application that
-- it talks to; peer: the sender of the last packet.
abbrev pub allowed : Role → Option Party → Packet → Bool
allowed (OfAgent r) peer x = same_id (id_in x.to) (agent_id r.machine) && is_master (id_in x.from)
allowed (OfApp r) peer x = same_id (id_in x.to) (app_id r.job) && is_master (id_in x.from)
allowed (OfMaster h r) peer x = same_id (id_in x.to) master_id && (talks r.cluster r.state (id_in x.from) && may_be peer (id_in x.from))

-- An agent and an application send to their master alone. A master does not dial; it sends to an agent or application that it talks to.
abbrev pub may_send : Role → Option Party → Bool
may_send (OfAgent r) peer = true
may_send (OfApp r) peer = true
may_send (OfMaster h r) None = false
may_send (OfMaster h r) (Some peer) = talks r.cluster r.state (id_in peer) && is_number_of peer.role peer.number

-- what it sends to the peer of a connection
abbrev pub turn : Role → Option Party → List Parcel
turn (OfAgent r) peer = agent_turn r
turn (OfApp r) peer = app_turn r
turn (OfMaster h r) None = []
turn (OfMaster h r) (Some peer) = turn_parcels (master_party r.state) (id_in peer) (r.sides (id_in peer))

abbrev pub end_packet : Party → Party → Packet
end_packet from to = record { from = from; to = to; kind = End; place = record { inc = 0; seq = 0 }; body = Nothing }

abbrev pub master_of : ℕ → Party
master_of epoch = record { role = Master; number = 0; inc = epoch }

-- the packet that ends what it sends: from this party to the peer, by the incarnation that it knows
abbrev pub end_of : Role → Option Party → Packet
end_of (OfAgent r) peer = end_packet (record { role = Agent; number = r.machine; inc = r.boot }) (master_of r.up.link.known)
end_of (OfApp r) peer = end_packet (record { role = App; number = r.job; inc = r.boot }) (master_of r.up.link.known)
end_of (OfMaster h r) None = end_packet (master_of r.state.epoch) (master_of 0)
end_of (OfMaster h r) (Some peer) = end_packet (master_of r.state.epoch) (record { role = peer.role; number = peer.number; inc = (r.sides (id_in peer)).link.known })

-- these bytes are the frames of its turn to the peer, and that of the End packet
pub record IsTurn (r : Role) (peer : Option Party) (bytes : List ℕ) : Type 0 where
  pub packets : List Packet
  pub each : AllByRecursion IsSent packets
  pub says : map parcel_is packets ≡ turn r peer
  pub frames : bytes ≡ flat_map frame packets ++ frame (end_of r peer)

-- what holds of every disk of some length and with some moments holds still
abbrev pub Keeps : (ℕ → Option Moments → Type 0) → (ℕ → Option Moments → Type 0) → Type 0
Keeps before after = (size : ℕ) (told : Option Moments) → before size told → after size told
