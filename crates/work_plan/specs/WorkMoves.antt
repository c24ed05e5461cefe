-- What the agent makes of what it is told of one application, and the applications of theirs.
use Rattle.std.specs.Prelude.{◌≡◌, ◌≢◌, ℕ, ◌+◌, ◌-◌, true, false, not, nat_eq, nat_lt, ◌&&◌, List, [], ◌∷◌, ◌++◌, length, map, Option, Some, None, get_or}
use Rattle.std.specs.List.{AllByRecursion}
use Rattle.fuxi_terms.specs.Tallies.{TallyRecord, ChangeRecord, empty_tally}
use Rattle.full_sync.specs.Turns.{Endpoint, new_endpoint}
use Rattle.delta_channel.specs.Standing.{StandsFor}
use Rattle.spec_net.specs.Net.{Link, Packet, set_at, with_links}
use Rattle.work_plan.specs.Ends.{Brought, histories, packet_of, patched_names}
use Rattle.work_plan.specs.declared.ends.Parcel.{Parcel}
use Rattle.work_plan.specs.declared.hearing.Heard.{Heard}
use Rattle.work_plan.specs.WorkEvents.{deliver, deliveries, hear_running, heard_at, set_to, with_net}
use Rattle.work_plan.specs.WorkLines.{Line, Came, Lost, lines_text}
use Rattle.work_plan.specs.WorkSettling.{settled_all}
use Rattle.work_plan.specs.AgentWithApps.{World, agent_id, app_id, agent_party}
use Rattle.work_plan.specs.Settles.{Crews, IsPublished}
use Rattle.schedule_unit.specs.declared.party.Role.TheVariants as role
use Rattle.work_plan.specs.declared.working.Working.{Working}
use Rattle.work_plan.specs.WorkWorlds.{IsAgent, AgentAt, AppsAt, Stands, IsPeer, Between, IsBetween, agent_of, force_at, settled_work}
use Rattle.work_plan.specs.declared.parts.Agent.{Agent}
use Rattle.work_plan.specs.declared.parts.Peer.{Peer}

-- so many workers of a unit may run now
pub record CountsPeer (app unit count : ℕ) (old new : Peer) (before after : Crews) : Type 0 where
  pub others : (a : ℕ) → a ≢ app → get_or after a None ≡ get_or before a None
  pub peer : (b : ℕ) → (l : Link) → (hs hs' : histories) → (plan : TallyRecord) → (counts : ℕ → ℕ) → (work : ℕ → List ℕ)
      → IsPeer old (get_or before app None) b app l hs plan counts work
      → IsPublished hs hs' b app l (settled_work work (force_at hs app l plan) (set_to counts unit count))
      → IsPeer new (get_or after app None) b app l hs' (force_at hs app l plan) (set_to counts unit count) (settled_work work (force_at hs app l plan) (set_to counts unit count))

-- the plan that came is kept where the sender is new
pub record KeepsPlan (from : ℕ) (old new : Peer) : Type 0 where
  pub plan : new.plan ≡ elim (nat_lt old.ends.incoming.place.inc from && not (nat_eq old.ends.incoming.place.seq 0)) [ true ↦ old.ends.incoming.received | false ↦ old.plan ]
  pub ends : new.ends ≡ old.ends
  pub counts : new.counts ≡ old.counts

-- how a packet of the application was heard, and what the agent has of it then
pub record HeardPeer (x : Packet) (heard : Heard) (new : Peer) (after : Crews) (b a : ℕ) (l : Link) (hs : histories) (plan : TallyRecord) (counts : ℕ → ℕ) (work : ℕ → List ℕ) : Type 0 where
  pub fresh : heard.fresh ≡ (hear_running b (length (hs (agent_of b) (app_id a))) l x).fresh
  pub what : heard.what ≡ (hear_running b (length (hs (agent_of b) (app_id a))) l x).what
  pub peer : (hs' : histories) → let l' = (hear_running b (length (hs (agent_of b) (app_id a))) l x).link in
      IsPublished hs hs' b a l' (settled_work work (force_at hs a l' plan) counts)
      → IsPeer new (get_or after a None) b a l' hs' (force_at hs a l' plan) counts (settled_work work (force_at hs a l' plan) counts)

pub record HearsPeer (app : ℕ) (x : Parcel) (heard : Heard) (old new : Peer) (before after : Crews) : Type 0 where
  pub others : (a : ℕ) → a ≢ app → get_or after a None ≡ get_or before a None
  pub peer : (b : ℕ) → (l : Link) → (hs : histories) → (plan : TallyRecord) → (counts : ℕ → ℕ) → (work : ℕ → List ℕ)
      → IsPeer old (get_or before app None) b app l hs plan counts work → Brought hs x → (packet_of x).from.id ≡ app_id app → (packet_of x).to.id ≡ agent_id
      → HeardPeer (packet_of x) heard new after b app l hs plan counts work

-- how the agent heard a packet of an application, and what it is then
pub record HeardAgent (x : Packet) (heard : Heard) (new : Agent) (w : World) : Type 0 where
  pub fresh : heard.fresh ≡ (heard_at w (agent_party w) x).fresh
  pub what : heard.what ≡ (heard_at w (agent_party w) x).what
  pub agent : IsAgent new (settled_all (with_net w (with_links w.net (set_at w.net.links (agent_party w) x.from.id (heard_at w (agent_party w) x).link))))

abbrev pub HearsAgent : Parcel → Heard → Agent → Agent → Type 0
HearsAgent x heard old new = (w : World) → IsAgent old w → Brought w.net.histories x → (packet_of x).from.id ≡ app_id x.from.number → (packet_of x).to.id ≡ agent_id → HeardAgent (packet_of x) heard new w

-- an application starts in a boot
pub record StartsApp (app boot : ℕ) (old new : List (Option (Endpoint TallyRecord ChangeRecord TallyRecord))) : Type 0 where
  pub here : get_or new app None ≡ Some (new_endpoint empty_tally empty_tally boot)
  pub stands : StandsFor empty_tally patched_names (new_endpoint {W = TallyRecord} empty_tally empty_tally boot).outgoing (empty_tally ∷ [])
  pub others : (a : ℕ) → a ≢ app → get_or new a None ≡ get_or old a None

-- packets stand behind those that were sent, with what they bring, between the agent and an application
pub record Sends (old new : List Parcel) (hs : histories) (packets : List Packet) : Type 0 where
  pub sent : map packet_of new ≡ map packet_of old ++ packets
  pub brought : AllByRecursion (Brought hs) old → AllByRecursion (Brought hs) new
  pub between : AllByRecursion IsBetween old → AllByRecursion IsBetween new

-- how a packet was heard, as it is printed
abbrev pub heard_line : ℕ → Option Heard → Line
heard_line k None = Lost k
heard_line k (Some heard) = Came k heard.fresh heard.what

-- a packet is delivered to the agent, or to an application, or to the one of them that it is for
abbrev pub HearsAtAgent : Parcel → Option Heard → Option Agent → Option Agent → Type 0
HearsAtAgent x heard old new = (k : ℕ) → (w : World) → AgentAt old w → Brought w.net.histories x → Between role.Agent x
    → AgentAt new (deliver w k (Some (packet_of x))).world × ((deliver w k (Some (packet_of x))).lines ≡ heard_line k heard ∷ [])

abbrev pub HearsAtApp : Parcel → Option Heard → List (Option (Endpoint TallyRecord ChangeRecord TallyRecord)) → List (Option (Endpoint TallyRecord ChangeRecord TallyRecord)) → Type 0
HearsAtApp x heard old new = (k : ℕ) → (w : World) → AppsAt old w → Brought w.net.histories x → Between role.App x
    → AppsAt new (deliver w k (Some (packet_of x))).world × ((deliver w k (Some (packet_of x))).lines ≡ heard_line k heard ∷ [])

pub record HearsOne (x : Parcel) (heard : Option Heard) (old new : Option Agent) (before after : List (Option (Endpoint TallyRecord ChangeRecord TallyRecord))) (k : ℕ) (w : World) : Type 0 where
  pub agent : AgentAt new (deliver w k (Some (packet_of x))).world
  pub apps : AppsAt after (deliver w k (Some (packet_of x))).world
  pub lines : (deliver w k (Some (packet_of x))).lines ≡ heard_line k heard ∷ []

-- what the agent has of an application in its boot before it is told of it
pub record IsNew (boot : ℕ) (p : Peer) : Type 0 where
  pub ends : p.ends ≡ new_endpoint empty_tally empty_tally boot
  pub stands : StandsFor empty_tally patched_names p.ends.outgoing (empty_tally ∷ [])
  pub plan : p.plan ≡ empty_tally
  pub counts : (u : ℕ) → get_or p.counts u 0 ≡ 0

-- some packets of a range were delivered: what is left leads on to the same
pub record Delivers (first last number : ℕ) (new : Working) (before now : List ℕ) (w : World) : Type 0 where
  pub world : World
  pub stands : Stands new world
  pub same : (deliveries w first (last - first + 1)).world ≡ (deliveries world number (last + 1 - number)).world
  pub text : before ++ lines_text (deliveries w first (last - first + 1)).lines ≡ now ++ lines_text (deliveries world number (last + 1 - number)).lines
