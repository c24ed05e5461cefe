-- Between the calls: what a function makes of what runs, said of each world that it stands for.
use Rattle.std.specs.Prelude.{◌≡◌, ℕ, ◌+◌, ◌<◌, ◌≤◌, ◌++◌, List, [], ◌∷◌, map, slice_get, Option, Some, None, Result, Ok, Err}
use Rattle.std.specs.List.{AllByRecursion}
use Rattle.fuxi_terms.specs.Limits.{most_steps}
use Rattle.party_ledgers.specs.declared.packets.Packet.{Packet}
use Rattle.party_ledgers.specs.declared.packets.Heard.{Heard}
use Rattle.peer_channel.specs.Parcels.{parcel_is, IsSent}
use Rattle.spec_net.specs.Net.{Packet as WrittenPacket}
use Rattle.spec_world.specs.World.{World, Step}
use Rattle.spec_roles.specs.MasterSteps.{BansMachine}
use Rattle.spec_world.specs.Outputs.{Line, Refused, Judged, Lost, Came}
use Rattle.spec_world.specs.Events.{addressed, commanded, deliver_one, heard_by, heard_line}
use Rattle.spec_refinement.specs.SeenWorlds.{parcel_of}
use Rattle.schedule_replay.specs.PacketPools.{Stored, Keeps, limit_of as pool_limit}
use Rattle.schedule_replay.specs.declared.fault.PoolFault.{PoolFault}
use Rattle.schedule_replay.specs.declared.fault.PoolFault.TheVariants as pool
use Rattle.wire_frames.specs.Streams.{HasFrame}
use Rattle.agent_core.specs.AgentCores.{AgentCore}
use Rattle.app_master.specs.AppCores.{AppCore}
use Rattle.fuxi_master.specs.Cores.{MasterRecord}
use Rattle.spec_refinement.specs.SeenParties.{Kind, Masters, Agents, Apps, Role, turn_of, resync_of}
use Rattle.running_parties.specs.Slots.{SlotsRecord, AreOf, AreWithin as PartiesWithin, ActIn, Stays}
use Rattle.running_parties.specs.Peers.{AgentStands, AppStands, agent_steps, app_steps}
use Rattle.running_parties.specs.RunningMasters.{MasterStands, master_steps}
use Rattle.schedule_text.specs.declared.refusal.Refusal.{Refusal}
use Rattle.schedule_text.specs.Printing.{as_refusal}
use Rattle.schedule_replay.specs.declared.turns.Told.{Told}
use Rattle.schedule_replay.specs.declared.turns.Told.TheVariants.{Turn, Resync}
use Rattle.schedule_replay.specs.declared.stop.WorldStop.{WorldStop}
use Rattle.schedule_replay.specs.declared.stop.WorldStop.TheVariants.{TooManyPackets, PoolBytes, OutOfMemory}
use Rattle.schedule_replay.specs.ReplayTexts.{lines_text}
use Rattle.schedule_replay.specs.Worlds.{WorldRecord, IsWorld, StandsFor, AreWithin, event_steps}
use Rattle.schedule_replay.specs.WorldSteps.{IsDone, limit_of, Stops}

-- it stands for a world, and each core may take a step
pub record CanMove (r : WorldRecord) : Type 0 where
  pub world : World
  pub is : IsWorld world
  pub stands : StandsFor r world
  pub steps : ℕ
  pub few : steps < most_steps
  pub within : AreWithin steps r

-- and each core may take as many as an event may
pub record CanMoveLong (r : WorldRecord) : Type 0 where
  pub world : World
  pub is : IsWorld world
  pub stands : StandsFor r world
  pub steps : ℕ
  pub few : steps + event_steps ≤ most_steps
  pub within : AreWithin steps r

-- a step of the world, as a function of worlds, is done
abbrev pub Does : (World → Step) → WorldRecord → WorldRecord → List ℕ → List ℕ → Type 0
Does f old new before after = (w : World) → IsWorld w → StandsFor old w → IsDone (f w) new before after

-- it is not, for this reason
abbrev pub Fails : (World → Step) → WorldRecord → WorldStop → Type 0
Fails f old stop = (w : World) → IsWorld w → StandsFor old w → Stops (limit_of w (f w).world) stop

-- a reason that says nothing of packets
abbrev pub WantsMemory : WorldStop → Type 0
WantsMemory stop = (limit : Option WorldStop) → Stops limit stop

-- no core took more than one step, and the cluster and the number of events are the same
pub record MovesOnce (old new : WorldRecord) : Type 0 where
  pub steps : (n : ℕ) → AreWithin n old → AreWithin (n + 1) new
  pub events : new.events ≡ old.events
  pub cluster : new.cluster ≡ old.cluster

-- nor more than an event may take
pub record MovesUpTo (old new : WorldRecord) : Type 0 where
  pub steps : (n : ℕ) → AreWithin n old → AreWithin (n + event_steps) new
  pub events : new.events ≡ old.events
  pub cluster : new.cluster ≡ old.cluster

-- a step of the world is done, or it is not
pub record IsActed (f : World → Step) (old new : WorldRecord) (before after : List ℕ) : Type 0 where
  pub does : Does f old new before after
  pub moves : MovesUpTo old new

abbrev pub Acts : (World → Step) → WorldRecord → WorldRecord → List ℕ → List ℕ → Result (Unit {0}) WorldStop → Type 0
Acts f old new before after (Ok done) = IsActed f old new before after
Acts f old new before after (Err stop) = Fails f old stop

-- a step of the world that is one move and sends no packet is done, or memory was refused
pub record IsActedOnce (f : World → Step) (old new : WorldRecord) (before after : List ℕ) : Type 0 where
  pub does : Does f old new before after
  pub moves : MovesOnce old new
  pub pool : new.pool ≡ old.pool

abbrev pub ActsOnce : (World → Step) → WorldRecord → WorldRecord → List ℕ → List ℕ → Result (Unit {0}) WorldStop → Type 0
ActsOnce f old new before after (Ok done) = IsActedOnce f old new before after
ActsOnce f old new before after (Err stop) = WantsMemory stop

-- the line of a refusal, where there is one
abbrev pub refusal_lines : Option Refusal → List Line
refusal_lines None = []
refusal_lines (Some refusal) = Refused (as_refusal refusal) ∷ []

-- the frames of these packets of a turn are kept behind the others
pub record KeepsMore (old new : Stored) (sent : List Packet) : Type 0 where
  pub kept : (xs : List Packet) → Keeps old xs → Keeps new (xs ++ sent)
  pub all : AllByRecursion IsSent sent

-- these packets were sent from one world to the next
abbrev pub SentMore : World → World → List Packet → Type 0
SentMore w w' sent = map (parcel_of w'.net) w'.net.packets ≡ map (parcel_of w.net) w.net.packets ++ map parcel_is sent

-- the parties of one kind among all that runs: what one of them does, all that runs then does
pub record IsPart (P : Type 0) (stands : P → Role → Type 0) (steps : P → ℕ) (k : Kind) (of : WorldRecord → SlotsRecord P) (put : SlotsRecord P → WorldRecord → WorldRecord) : Type 0 where
  pub acts : (w w' : World) (n : ℕ) (sent : List Packet) (old : WorldRecord) (x : SlotsRecord P) (p : Stored) → StandsFor old w → ActIn stands k w w' n x sent → KeepsMore old.pool p sent → StandsFor (record (put x old) { pool = p }) w'
  pub stays : (w : World) (old : WorldRecord) (x : SlotsRecord P) → StandsFor old w → AreOf stands k w x → StandsFor (put x old) w
  pub stand : (w : World) (old : WorldRecord) → StandsFor old w → AreOf stands k w (of old)
  pub quiet : (w w' : World) (n : ℕ) (old : WorldRecord) (x : SlotsRecord P) → StandsFor old w → ActIn stands k w w' n x [] → StandsFor (put x old) w'
  pub frames : (old : WorldRecord) (x : SlotsRecord P) → (put x old).pool ≡ old.pool
  pub moves : (old : WorldRecord) (x : SlotsRecord P) → ((n : ℕ) → PartiesWithin steps n (of old) → PartiesWithin steps (n + 1) x) → MovesOnce old (put x old)
  pub once : (old : WorldRecord) (x : SlotsRecord P) (p : Stored) → ((n : ℕ) → PartiesWithin steps n (of old) → PartiesWithin steps (n + 1) x) → MovesOnce old (record (put x old) { pool = p })

-- what one party of any kind does by itself, said of all that runs, whatever part its kind is
abbrev pub ActsAsPart : {P : Type 0} → (World → Kind → ℕ → Step) → (P → Role → Type 0) → (P → ℕ) → ℕ → SlotsRecord P → SlotsRecord P → Stored → Stored → List ℕ → List ℕ → Result (Unit {0}) WorldStop → Type 0
ActsAsPart {P} f stands steps n old new pool kept before after result = (k : Kind) (of : WorldRecord → SlotsRecord P) (put : SlotsRecord P → WorldRecord → WorldRecord) (r : WorldRecord)
    → IsPart P stands steps k of put → of r ≡ old → r.pool ≡ pool → Acts (λ w. f w k n) r (record (put new r) { pool = kept }) before after result

-- what a party is told
abbrev pub told_of : Told → World → Kind → ℕ → Step
told_of Turn w k n = turn_of w k n
told_of Resync w k n = resync_of w k n

abbrev pub with_masters : SlotsRecord MasterRecord → WorldRecord → WorldRecord
with_masters x r = record r { masters = x }

abbrev pub with_agents : SlotsRecord AgentCore → WorldRecord → WorldRecord
with_agents x r = record r { agents = x }

abbrev pub with_apps : SlotsRecord AppCore → WorldRecord → WorldRecord
with_apps x r = record r { apps = x }

abbrev pub MastersPart : Type 0
MastersPart = IsPart MasterRecord MasterStands master_steps Masters (λ r. r.masters) with_masters

abbrev pub AgentsPart : Type 0
AgentsPart = IsPart AgentCore AgentStands agent_steps Agents (λ r. r.agents) with_agents

abbrev pub AppsPart : Type 0
AppsPart = IsPart AppCore AppStands app_steps Apps (λ r. r.apps) with_apps

-- What the start, the stop or a command of a master leaves of a world: the agents and the applications see what they saw, and no packet is sent
pub record Leaves (w w' : World) : Type 0 where
  pub agents : Stays w w' Agents
  pub apps : Stays w w' Apps
  pub packets : SentMore w w' []
  pub cluster : w'.cluster ≡ w.cluster
  pub events : w'.events ≡ w.events

-- as what a packet was heard, if by anybody
abbrev pub heard_lines : ℕ → Option Heard → List Line
heard_lines number None = Lost number ∷ []
heard_lines number (Some heard) = Came number heard.fresh heard.what ∷ []

-- the limit on packets that the pool names is that of the world
abbrev pub StopsAs : PoolFault → WorldStop → Type 0
StopsAs (pool.TooManyPackets kept) stop = stop ≡ TooManyPackets kept
StopsAs (pool.PoolBytes kept) stop = stop ≡ PoolBytes kept
StopsAs pool.OutOfMemory stop = stop ≡ OutOfMemory

-- the first limit that these packets would pass, with the bytes of frames that there are; memory lacks only where they would pass none
abbrev pub StopsFor : Stored → List Packet → WorldStop → Type 0
StopsFor p sent (TooManyPackets kept) = pool_limit p sent ≡ Some (pool.TooManyPackets kept)
StopsFor p sent (PoolBytes kept) = (pool_limit p sent ≡ Some (pool.PoolBytes kept)) × AllByRecursion HasFrame sent
StopsFor p sent OutOfMemory = pool_limit p sent ≡ None

-- A packet of the world is heard by the party that it is for, if that runs, as the world hears it
pub record IsHeardIn (w : World) (x : WrittenPacket) (new : WorldRecord) (heard : Option Heard) : Type 0 where
  pub stands : StandsFor new (addressed w x)
  pub lines : (number : ℕ) → heard_lines number heard ≡ heard_line number (heard_by w x) ∷ []

abbrev pub HearsIn : Packet → WorldRecord → WorldRecord → Option Heard → Type 0
HearsIn packet old new heard = (w : World) (which : ℕ) (x : WrittenPacket) → IsWorld w → StandsFor old w → slice_get w.net.packets which ≡ Some x → parcel_is packet ≡ parcel_of w.net x → IsHeardIn w x new heard

-- in one move, and none is sent
pub record IsHeardBy (packet : Packet) (old new : WorldRecord) (heard : Option Heard) : Type 0 where
  pub hears : HearsIn packet old new heard
  pub once : MovesOnce old new
  pub pool : new.pool ≡ old.pool

-- the packet of a number is heard, whatever text is written of it
pub record IsHeardAs (number : ℕ) (heard : Option Heard) (old new : WorldRecord) : Type 0 where
  pub does : (before after : List ℕ) → after ≡ before ++ lines_text (heard_lines number heard) → Does (deliver_one number) old new before after
  pub once : MovesOnce old new
  pub pool : new.pool ≡ old.pool

-- a part of an event is done: the world after it is again one to which inputs lead
pub record IsThrough (s : Step) (now : WorldRecord) (before after : List ℕ) : Type 0 where
  pub is : IsWorld s.world
  pub stands : StandsFor now s.world
  pub text : after ≡ before ++ lines_text s.lines

abbrev pub GoesThrough : (World → Step) → WorldRecord → WorldRecord → List ℕ → List ℕ → Type 0
GoesThrough f old now before after = (w : World) → IsWorld w → StandsFor old w → IsThrough (f w) now before after

-- and no core took more than so many steps, while the packets stayed
pub record TookSteps (n : ℕ) (old now : WorldRecord) : Type 0 where
  pub steps : (k : ℕ) → AreWithin k old → AreWithin (k + n) now
  pub events : now.events ≡ old.events
  pub cluster : now.cluster ≡ old.cluster
  pub pool : now.pool ≡ old.pool

-- one ban of a judgement, whatever the command answers, with the votes for it
abbrev pub ban_one : ℕ → ℕ → ℕ → World → Step
ban_one e m votes w = record { world = (commanded w e (BansMachine m)).world; lines = Judged m votes ∷ [] }
