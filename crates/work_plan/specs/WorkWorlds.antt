-- When what runs stands for the written world: the agent with its peers, the applications, and the packets.
use Rattle.std.specs.Prelude.{◌≡◌, ℕ, ◌<◌, ◌≤◌, true, false, nat_eq, List, [], length, map, Option, Some, None, IsSome, get_or}
use Rattle.std.specs.List.{AllByRecursion}
use Rattle.fuxi_terms.specs.Limits.{most_units}
use Rattle.fuxi_terms.specs.Tallies.{TallyRecord, ChangeRecord, empty_tally}
use Rattle.full_sync.specs.Turns.{Endpoint}
use Rattle.schedule_unit.specs.declared.party.Role.{Role}
use Rattle.schedule_unit.specs.declared.party.Role.TheVariants as role
use Rattle.spec_net.specs.Net.{Party, Id, Link, unknown, at_index}
use Rattle.work_plan.specs.Crews.{workers_of, crew_of}
use Rattle.work_plan.specs.PlanKeys.{most_workers, named}
use Rattle.work_plan.specs.RunAfter.{run_after}
use Rattle.work_plan.specs.declared.squad.Member.{Member}
use Rattle.work_plan.specs.Ends.{IsEnd, Brought, histories, packet_of, party_of}
use Rattle.work_plan.specs.declared.ends.Parcel.{Parcel}
use Rattle.work_plan.specs.WorkRuns.{most_work_packets}
use Rattle.work_plan.specs.WorkSettling.{running_of}
use Rattle.work_plan.specs.WorkStates.{IsReached as IsReachedThere, AllRun}
use Rattle.work_plan.specs.AgentWithApps.{World, agent_id, app_id, agent_link, app_link}
use Rattle.work_plan.specs.declared.parts.Peer.{Peer}
use Rattle.work_plan.specs.declared.parts.Agent.{Agent}
use Rattle.work_plan.specs.declared.working.Working.{Working}

abbrev pub Crew : Type 0
Crew = Option (List (List Member))

abbrev pub agent_of : ℕ → Party
agent_of b = record { id = agent_id; inc = b }

-- the plan in force of an application, by the link to it and the plan before
abbrev pub force_at : histories → ℕ → Link → TallyRecord → TallyRecord
force_at hs a l plan = elim (nat_eq l.seq 0) [ true ↦ plan | false ↦ at_index empty_tally (hs (record { id = app_id a; inc = l.known }) agent_id) l.seq ]

-- who runs of each unit, once it is settled
abbrev pub settled_work : (ℕ → List ℕ) → TallyRecord → (ℕ → ℕ) → ℕ → List ℕ
settled_work work plan counts u = run_after (work u) (named u plan.entries) (counts u)

-- What the agent has of an application, in its boot: the end of the link; the last ledger that was sent names those that run; the plan that is in force
-- as long as none came; the counts; and who runs
pub record HasPeer (p : Peer) (crew : Crew) (b a : ℕ) (l : Link) (hs : histories) (plan : TallyRecord) (counts : ℕ → ℕ) (work : ℕ → List ℕ) : Type 0 where
  pub ends : IsEnd p.ends (agent_of b) (app_id a) l hs
  pub told : p.ends.outgoing.present ≡ running_of work
  pub before : nat_eq l.seq 0 ≡ true → p.plan ≡ plan
  pub counted : (u : ℕ) → get_or p.counts u 0 ≡ counts u
  pub none : (u : ℕ) → most_units ≤ u → counts u ≡ 0
  pub admitted : IsSome crew
  pub runs : (u : ℕ) → workers_of (crew_of crew u) ≡ work u
  pub small : (u : ℕ) → AllByRecursion (λ n. n < most_workers) (work u)

-- the same behind an event: this plan is in force, and all run by it
pub record IsPeer (p : Peer) (crew : Crew) (b a : ℕ) (l : Link) (hs : histories) (plan : TallyRecord) (counts : ℕ → ℕ) (work : ℕ → List ℕ) : Type 0 where
  pub has : HasPeer p crew b a l hs plan counts work
  pub force : force_at hs a l plan ≡ plan
  pub rests : (u : ℕ) → settled_work work plan counts u ≡ work u

-- an application that the agent has nothing of
pub record IsNoPeer (crew : Crew) (b a : ℕ) (l : Link) (hs : histories) (plan : TallyRecord) (counts : ℕ → ℕ) (work : ℕ → List ℕ) : Type 0 where
  pub link : l ≡ unknown
  pub history : hs (agent_of b) (app_id a) ≡ []
  pub no_plan : plan ≡ empty_tally
  pub no_counts : (u : ℕ) → counts u ≡ 0
  pub no_crew : crew ≡ None
  pub no_work : (u : ℕ) → work u ≡ []

abbrev pub PeerAt : Option Peer → Crew → ℕ → ℕ → Link → histories → TallyRecord → (ℕ → ℕ) → (ℕ → List ℕ) → Type 0
PeerAt (Some p) crew b a l hs plan counts work = IsPeer p crew b a l hs plan counts work
PeerAt None crew b a l hs plan counts work = IsNoPeer crew b a l hs plan counts work

-- the agent runs, and has of each application what the written one has
pub record IsAgent (g : Agent) (w : World) : Type 0 where
  pub boot : g.boot ≡ w.agent
  pub runs : nat_eq w.agent 0 ≡ false
  pub peers : (a : ℕ) → PeerAt (get_or g.peers.items a None) (get_or g.workers a None) w.agent a (agent_link w a) w.net.histories (w.plans a) (w.counts a) (w.work a)

abbrev pub AgentAt : Option Agent → World → Type 0
AgentAt (Some g) w = IsAgent g w
AgentAt None w = w.agent ≡ 0

-- it stands for a written agent
abbrev pub IsHeld : Agent → Type 0
IsHeld g = (w : World) × IsAgent g w

abbrev pub IsHeldAgent : Option Agent → Type 0
IsHeldAgent agent = (w : World) × AgentAt agent w

-- an application in its boot, with its link to the agent
pub record IsApp (d : Endpoint TallyRecord ChangeRecord TallyRecord) (b a : ℕ) (l : Link) (hs : histories) : Type 0 where
  pub ends : IsEnd d (record { id = app_id a; inc = b }) agent_id l hs
  pub runs : nat_eq b 0 ≡ false

abbrev pub AppAt : Option (Endpoint TallyRecord ChangeRecord TallyRecord) → ℕ → ℕ → Link → histories → Type 0
AppAt (Some d) b a l hs = IsApp d b a l hs
AppAt None b a l hs = b ≡ 0

-- in a world
abbrev pub IsAppOf : Endpoint TallyRecord ChangeRecord TallyRecord → World → ℕ → Type 0
IsAppOf d w a = IsApp d (w.apps a) a (app_link w a) w.net.histories

abbrev pub AppOf : Option (Endpoint TallyRecord ChangeRecord TallyRecord) → World → ℕ → Type 0
AppOf o w a = AppAt o (w.apps a) a (app_link w a) w.net.histories

-- boots that never were have sent nothing
pub record IsFresh (w : World) : Type 0 where
  pub agent : (b : ℕ) → (q : Id) → w.agent < b → w.net.histories (agent_of b) q ≡ []
  pub apps : (a b : ℕ) → w.apps a < b → w.net.histories (record { id = app_id a; inc = b }) agent_id ≡ []

-- a packet goes from the agent to an application, or from one to the agent
abbrev pub Between : Role → Parcel → Type 0
Between role.Master x = ⊥
Between role.Agent x = ((party_of x.from).id ≡ app_id x.from.number) × ((party_of x.to).id ≡ agent_id)
Between role.App x = ((party_of x.from).id ≡ agent_id) × ((party_of x.to).id ≡ app_id x.to.number)

abbrev pub IsBetween : Parcel → Type 0
IsBetween x = Between x.to.role x

-- all applications that run, and no others
abbrev pub AppsAt : List (Option (Endpoint TallyRecord ChangeRecord TallyRecord)) → World → Type 0
AppsAt apps w = (a : ℕ) → AppOf (get_or apps a None) w a

-- the packets that were sent, and nothing was sent by who never was
pub record Carries (sent : List Parcel) (w : World) : Type 0 where
  pub fresh : IsFresh w
  pub packets : map packet_of sent ≡ w.net.packets
  pub brought : AllByRecursion (Brought w.net.histories) sent
  pub between : AllByRecursion IsBetween sent

pub record Stands (r : Working) (w : World) : Type 0 where
  pub events : r.events ≡ w.events
  pub agent : AgentAt r.agent w
  pub apps : AppsAt r.apps.items w
  pub carries : Carries r.packets.items w

-- it stands for some world
abbrev pub IsKept : Working → Type 0
IsKept r = (w : World) × Stands r w

-- it stands for a world to which events lead, with at most as many packets as there may be
pub record IsReached (r : Working) : Type 0 where
  pub world : World
  pub is : IsReachedThere world
  pub stands : Stands r world
  pub few : length r.packets.items ≤ most_work_packets

-- so it stands for one in which, where an agent runs, all run as planned and are told
pub record IsPlanned (r : Working) : Type 0 where
  pub world : World
  pub is : IsReachedThere world
  pub stands : Stands r world
  pub planned : nat_eq world.agent 0 ≡ false → AllRun world
