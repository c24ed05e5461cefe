-- What runs at the start stands for the empty world.
use Rattle.std.proofs.Common.{◌≡◌, ◌*◌, true, [], refl, sym, subst}
use Rattle.fuxi_terms.specs.Cluster.{ClusterRecord, is_valid_cluster}
use Rattle.spec_roles.specs.HardState.{empty_hard}
use Rattle.spec_world.specs.World.{empty_world}
use Rattle.spec_world.specs.Good.{Good}
use Rattle.spec_world.specs.Orders.{IsInOrder}
use Rattle.schedule_replay.specs.PacketPools.{Keeps, no_frames}
use Rattle.schedule_replay.specs.Held.{IsOpen}
use Rattle.running_parties.specs.Slots.{AreWithin as PartiesWithin}
use Rattle.running_parties.specs.Peers.{AreAgentsOf, AreAppsOf, agent_steps, app_steps}
use Rattle.running_parties.specs.RunningMasters.{AreMastersOf, master_steps}
use Rattle.schedule_replay.specs.Worlds.{WorldRecord, IsReached, IsWorld, StandsFor, AreWithin, event_steps}

pub is_empty_world : (c : ClusterRecord) → is_valid_cluster c ≡ true → Good (empty_world c) → IsInOrder (empty_world c) → IsWorld (empty_world c)
is_empty_world c valid good order = record { valid = valid; good = good; order = order }

pub stands_for_empty : (c : ClusterRecord) (r : WorldRecord) → r.cluster ≡ c → r.checkpoint.hard.value ≡ empty_hard → IsOpen r.checkpoint → AreMastersOf (empty_world c) r.masters → AreAgentsOf (empty_world c) r.agents → AreAppsOf (empty_world c) r.apps
    → r.pool ≡ no_frames → r.events ≡ 0 → StandsFor r (empty_world c)
stands_for_empty c r cluster hard rests masters agents apps pool events = record {
  cluster = cluster;
  hard = hard;
  rests = rests;
  masters = masters;
  agents = agents;
  apps = apps;
  packets = record { packets = []; kept = subst (λ p. Keeps p []) (sym pool) (record { stored = refl; each = tt }); sent = tt; same = refl };
  events = events;
}

-- no core took a step
pub starts_reached : (c : ClusterRecord) (r : WorldRecord) → IsWorld (empty_world c) → StandsFor r (empty_world c) → PartiesWithin master_steps 0 r.masters → PartiesWithin agent_steps 0 r.agents → PartiesWithin app_steps 0 r.apps → r.events ≡ 0 → IsReached r
starts_reached c r is stands masters agents apps events = record {
  world = empty_world c;
  is = is;
  stands = stands;
  within = subst (λ n. AreWithin (n * event_steps) r) (sym events) (record { masters = masters; agents = agents; apps = apps });
}
