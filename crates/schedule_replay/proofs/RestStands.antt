-- What one party leaves of a world, and that the rest stands for the world after it.
use Rattle.std.proofs.Common.{◌≡◌, ℕ, false, List, [], ◌++◌, map, refl, sym, ◌∙◌, ap, subst, append-nil}
use Rattle.std.proofs.lemmas.List.{map-append}
use Rattle.fuxi_terms.proofs.Alls.{all_append}
use Rattle.party_ledgers.specs.declared.packets.Packet.{Packet}
use Rattle.peer_channel.specs.Parcels.{parcel_is, IsSent}
use Rattle.spec_net.specs.Sides.{Parcel}
use Rattle.spec_world.specs.World.{World}
use Rattle.schedule_replay.specs.PacketPools.{Stored, Keeps}
use Rattle.schedule_replay.specs.Held.{Held, IsOpen}
use Rattle.agent_core.specs.AgentCores.{AgentCore}
use Rattle.app_master.specs.AppCores.{AppCore}
use Rattle.fuxi_master.specs.Cores.{MasterRecord}
use Rattle.spec_refinement.specs.SeenParties.{Kind, Masters, Agents, Apps, Role, is_same, Acts}
use Rattle.running_parties.specs.Slots.{SlotsRecord, ActIn, AreOf, Stays}
use Rattle.running_parties.specs.Peers.{AgentStands, AppStands}
use Rattle.running_parties.specs.RunningMasters.{MasterStands, AreMastersOf}
use Rattle.schedule_replay.specs.Worlds.{WorldRecord, KeepsPackets, StandsFor}
use Rattle.schedule_replay.specs.Moves.{AgentsPart, AppsPart, KeepsMore, Leaves, MastersPart, SentMore}
use Rattle.schedule_replay.proofs.MovesLemmas.{agents_once, apps_once, masters_once}

-- no packet more
pub keeps_none : (p : Stored) → KeepsMore p p []
keeps_none p = record { kept = λ xs k. subst (Keeps p) (sym (append-nil xs)) k; all = tt }

pub kept_after : (w w' : World) (sent : List Packet) (old new : Stored) → SentMore w w' sent → KeepsPackets w old → KeepsMore old new sent → KeepsPackets w' new
kept_after w w' sent old new packets k more = record {
  packets = k.packets ++ sent;
  kept = more.kept k.packets k.kept;
  sent = all_append IsSent k.packets sent k.sent more.all;
  same = map-append parcel_is k.packets sent ∙ ap (λ ps. ps ++ map parcel_is sent) k.same ∙ sym packets;
}

-- The laws of those who do not act, as they are called for
abbrev pub OthersStand : {P : Type 0} → (P → Role → Type 0) → Type 0
OthersStand {P} stands = (w w' : World) (k : Kind) (x : SlotsRecord P) → Stays w w' k → AreOf stands k w x → AreOf stands k w' x

-- what those of another kind see stays
pub stays : (w w' : World) (k : Kind) (n : ℕ) (r : Role) (sent : List Parcel) (j : Kind) → Acts w w' k n r sent → ((m : ℕ) → is_same k n j m ≡ false) → Stays w w' j
stays w w' k n r sent j acts apart = record { seen = λ m. acts.others j m (apart m); boots = λ m. acts.boots j m (apart m) }

masters_acted : OthersStand AgentStands → OthersStand AppStands → (w w' : World) (n : ℕ) (sent : List Packet) (old : WorldRecord) (x : SlotsRecord MasterRecord) (p : Stored) → StandsFor old w → ActIn MasterStands Masters w w' n x sent → KeepsMore old.pool p sent → StandsFor (record old { masters = x; pool = p }) w'
masters_acted agents_stand apps_stand w w' n sent old x p s a more = record {
  cluster = s.cluster ∙ sym a.acts.cluster;
  hard = s.hard ∙ sym a.hard;
  rests = s.rests;
  masters = a.stand;
  agents = agents_stand w w' Agents old.agents (stays w w' Masters n a.role _ Agents a.acts (λ m. refl)) s.agents;
  apps = apps_stand w w' Apps old.apps (stays w w' Masters n a.role _ Apps a.acts (λ m. refl)) s.apps;
  packets = kept_after w w' sent old.pool p a.acts.packets s.packets more;
  events = s.events ∙ sym a.acts.events;
}

pub masters_part : OthersStand AgentStands → OthersStand AppStands → MastersPart
masters_part agents_stand apps_stand = record {
  acts = masters_acted agents_stand apps_stand;
  quiet = λ w w' n old x s a. masters_acted agents_stand apps_stand w w' n [] old x old.pool s a (keeps_none old.pool);
  frames = λ old x. refl;
  stays = λ w old x s h. record { cluster = s.cluster; hard = s.hard; rests = s.rests; masters = h; agents = s.agents; apps = s.apps; packets = s.packets; events = s.events };
  stand = λ w old s. s.masters;
  moves = λ old x h. masters_once old old.checkpoint x old.pool h;
  once = λ old x p h. masters_once old old.checkpoint x p h;
}

agents_acted : OthersStand MasterStands → OthersStand AppStands → (w w' : World) (n : ℕ) (sent : List Packet) (old : WorldRecord) (x : SlotsRecord AgentCore) (p : Stored) → StandsFor old w → ActIn AgentStands Agents w w' n x sent → KeepsMore old.pool p sent → StandsFor (record old { agents = x; pool = p }) w'
agents_acted masters_stand apps_stand w w' n sent old x p s a more = record {
  cluster = s.cluster ∙ sym a.acts.cluster;
  hard = s.hard ∙ sym a.hard;
  rests = s.rests;
  masters = masters_stand w w' Masters old.masters (stays w w' Agents n a.role _ Masters a.acts (λ m. refl)) s.masters;
  agents = a.stand;
  apps = apps_stand w w' Apps old.apps (stays w w' Agents n a.role _ Apps a.acts (λ m. refl)) s.apps;
  packets = kept_after w w' sent old.pool p a.acts.packets s.packets more;
  events = s.events ∙ sym a.acts.events;
}

pub agents_part : OthersStand MasterStands → OthersStand AppStands → AgentsPart
agents_part masters_stand apps_stand = record {
  acts = agents_acted masters_stand apps_stand;
  quiet = λ w w' n old x s a. agents_acted masters_stand apps_stand w w' n [] old x old.pool s a (keeps_none old.pool);
  frames = λ old x. refl;
  stays = λ w old x s h. record { cluster = s.cluster; hard = s.hard; rests = s.rests; masters = s.masters; agents = h; apps = s.apps; packets = s.packets; events = s.events };
  stand = λ w old s. s.agents;
  moves = λ old x h. agents_once old x old.pool h;
  once = agents_once;
}

apps_acted : OthersStand MasterStands → OthersStand AgentStands → (w w' : World) (n : ℕ) (sent : List Packet) (old : WorldRecord) (x : SlotsRecord AppCore) (p : Stored) → StandsFor old w → ActIn AppStands Apps w w' n x sent → KeepsMore old.pool p sent → StandsFor (record old { apps = x; pool = p }) w'
apps_acted masters_stand agents_stand w w' n sent old x p s a more = record {
  cluster = s.cluster ∙ sym a.acts.cluster;
  hard = s.hard ∙ sym a.hard;
  rests = s.rests;
  masters = masters_stand w w' Masters old.masters (stays w w' Apps n a.role _ Masters a.acts (λ m. refl)) s.masters;
  agents = agents_stand w w' Agents old.agents (stays w w' Apps n a.role _ Agents a.acts (λ m. refl)) s.agents;
  apps = a.stand;
  packets = kept_after w w' sent old.pool p a.acts.packets s.packets more;
  events = s.events ∙ sym a.acts.events;
}

pub apps_part : OthersStand MasterStands → OthersStand AgentStands → AppsPart
apps_part masters_stand agents_stand = record {
  acts = apps_acted masters_stand agents_stand;
  quiet = λ w w' n old x s a. apps_acted masters_stand agents_stand w w' n [] old x old.pool s a (keeps_none old.pool);
  frames = λ old x. refl;
  stays = λ w old x s h. record { cluster = s.cluster; hard = s.hard; rests = s.rests; masters = s.masters; agents = s.agents; apps = h; packets = s.packets; events = s.events };
  stand = λ w old s. s.apps;
  moves = λ old x h. apps_once old x old.pool h;
  once = apps_once;
}

-- the hard state may be another, and the masters
pub orders_leave : OthersStand AgentStands → OthersStand AppStands → (w w' : World) (old : WorldRecord) (held : Held) (masters : SlotsRecord MasterRecord) → StandsFor old w → Leaves w w' → AreMastersOf w' masters → held.hard.value ≡ w'.hard → IsOpen held
    → StandsFor (record old { checkpoint = held; masters = masters }) w'
orders_leave agents_stand apps_stand w w' old held masters s leaves stand hard rests = record {
  cluster = s.cluster ∙ sym leaves.cluster;
  hard = hard;
  rests = rests;
  masters = stand;
  agents = agents_stand w w' Agents old.agents leaves.agents s.agents;
  apps = apps_stand w w' Apps old.apps leaves.apps s.apps;
  packets = kept_after w w' [] old.pool old.pool leaves.packets s.packets (keeps_none old.pool);
  events = s.events ∙ sym leaves.events;
}

-- a master that acted and sent nothing leaves so much
pub leaves_by : (w w' : World) (e : ℕ) (r : Role) → Acts w w' Masters e r [] → Leaves w w'
leaves_by w w' e r acts = record {
  agents = stays w w' Masters e r [] Agents acts (λ m. refl);
  apps = stays w w' Masters e r [] Apps acts (λ m. refl);
  packets = acts.packets;
  cluster = acts.cluster;
  events = acts.events;
}
