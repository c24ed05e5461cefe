-- The agent and the applications, where the agent settles.
use Rattle.std.proofs.Common.{◌≡◌, ℕ, ◌<◌, true, false, nat_eq, List, Option, Some, None, get_or, refl, sym, ◌∙◌, ap, arith}
use Rattle.std.specs.Prelude.{◌&&◌}
use Rattle.std.proofs.lemmas.Bool.Decides.{nat_tests}
use Rattle.fuxi_terms.specs.Tallies.{TallyRecord, ChangeRecord}
use Rattle.fuxi_terms.proofs.Alls.{all_more}
use Rattle.fuxi_terms.proofs.Booleans.{nat_itself}
use Rattle.full_sync.specs.Turns.{Endpoint}
use Rattle.spec_net.specs.Net.{Party, Id, same_party}
use Rattle.work_plan.specs.Ends.{Brought}
use Rattle.work_plan.specs.declared.ends.Parcel.{Parcel}
use Rattle.work_plan.specs.WorkSettling.{published, running_of, in_force, work_after, histories_after, settled_all, settled}
use Rattle.work_plan.specs.AgentWithApps.{World, agent_id, app_id, agent_party, app_party, agent_link, app_link}
use Rattle.work_plan.specs.Settles.{IsPublished}
use Rattle.work_plan.specs.WorkWorlds.{IsAgent, AgentAt, IsAppOf, AppOf, AppsAt, Carries, IsFresh, PeerAt, agent_of}
use Rattle.work_plan.specs.declared.parts.Agent.{Agent}
use Rattle.work_plan.proofs.HistoriesGrow.{Grown, brought_grows, end_grows, published_grown, same_grown}
use Rattle.work_plan.proofs.Peers.{at_settled}

-- the agent's history towards an application
pub own_after : (w : World) (a : ℕ) → histories_after w (agent_party w) (app_id a) ≡ published (w.net.histories (agent_party w) (app_id a)) (running_of (work_after w a))
own_after w a = ap (λ b. elim b as (λ _. List TallyRecord) [ true ↦ published (w.net.histories (agent_party w) (app_id a)) (running_of (work_after w a)) | false ↦ w.net.histories (agent_party w) (app_id a) ]) (itself w.agent)
  where
    itself : (n : ℕ) → ((true && nat_eq n n) && true) ≡ true
    itself n = ap (λ b. b && true) (nat_itself n)

pub grown_after : (w : World) (p : Party) (q : Id) → Grown (w.net.histories p q) (histories_after w p q)
grown_after w p q = elim (same_party p (agent_party w) && nat_eq q.role 3) as (λ b. Grown (w.net.histories p q) (elim b as (λ _. List TallyRecord) [ true ↦ published (w.net.histories p q) (running_of (work_after w q.number)) | false ↦ w.net.histories p q ])) [
  | true ↦ published_grown (w.net.histories p q) (running_of (work_after w q.number))
  | false ↦ same_grown (w.net.histories p q) (w.net.histories p q) refl
]

pub published_after : (w : World) (a : ℕ) → IsPublished w.net.histories (histories_after w) w.agent a (agent_link w a) (work_after w a)
published_after w a = record { own = own_after w a; theirs = refl }

-- where no event touches anything that the agent has
pub peer_after : (o : Option _) (crew : _) (w : World) (a : ℕ) → PeerAt o crew w.agent a (agent_link w a) w.net.histories (w.plans a) (w.counts a) (w.work a) → PeerAt o crew w.agent a (agent_link w a) (histories_after w) (in_force w a) (w.counts a) (work_after w a)
peer_after o crew w a h = at_settled w.agent a (agent_link w a) w.net.histories (histories_after w) (w.plans a) (w.counts a) (w.work a) (published_after w a) o crew h

pub agent_settles : (g : Agent) (w : World) → IsAgent g w → IsAgent g (settled_all w)
agent_settles g w h = record { boot = h.boot; runs = h.runs; peers = λ a. peer_after (get_or g.peers.items a None) (get_or g.workers a None) w a (h.peers a) }

-- a world that settles or not
pub settled_where : (w : World) (P : World → Type 0) → (nat_eq w.agent 0 ≡ true → P w) → (nat_eq w.agent 0 ≡ false → P (settled_all w)) → P (settled w)
settled_where w P none some = elim (nat_eq w.agent 0) as (λ b. nat_eq w.agent 0 ≡ b → P (elim b as (λ _. World) [ true ↦ w | false ↦ settled_all w ])) [ true ↦ none | false ↦ some ] refl

pub at_agent_settles : (o : Option Agent) (w : World) → AgentAt o w → AgentAt o (settled w)
at_agent_settles (Some g) w h = settled_where w (IsAgent g) (λ t. let bad : true ≡ false = sym t ∙ h.runs in cc) (λ _. agent_settles g w h)
at_agent_settles None w h = settled_where w (λ v. v.agent ≡ 0) (λ _. h) (λ _. h)

app_settles : (d : Endpoint TallyRecord ChangeRecord TallyRecord) (w : World) (a : ℕ) → IsAppOf d w a → IsAppOf d (settled_all w) a
app_settles d w a h = record {
  ends = end_grows d (app_party w a) agent_id (app_link w a) w.net.histories (histories_after w) h.ends refl (grown_after w (record { id = agent_id; inc = (app_link w a).known }) (app_id a));
  runs = h.runs;
}

at_app_settles : (o : Option (Endpoint TallyRecord ChangeRecord TallyRecord)) (w : World) (a : ℕ) → AppOf o w a → AppOf o (settled_all w) a
at_app_settles (Some d) w a h = app_settles d w a h
at_app_settles None w a h = h

pub apps_settle : (apps : List (Option (Endpoint TallyRecord ChangeRecord TallyRecord))) (w : World) → AppsAt apps w → AppsAt apps (settled w)
apps_settle apps w h a = settled_where w (λ v. AppOf (get_or apps a None) v a) (λ _. h a) (λ _. at_app_settles (get_or apps a None) w a (h a))

fresh_settles : (w : World) → IsFresh w → IsFresh (settled_all w)
fresh_settles w h = record {
  agent = λ b q lt. other b q lt (let f : nat_eq b w.agent ≡ false = grind (arith, nat_tests, lt) in f) ∙ h.agent b q lt;
  apps = λ a b lt. h.apps a b lt;
}
  where
    other : (b : ℕ) (q : Id) → w.agent < b → nat_eq b w.agent ≡ false → histories_after w (agent_of b) q ≡ w.net.histories (agent_of b) q
    other b q lt f = ap (λ t. elim (t && nat_eq q.role 3) as (λ _. List TallyRecord) [ true ↦ published (w.net.histories (agent_of b) q) (running_of (work_after w q.number)) | false ↦ w.net.histories (agent_of b) q ]) f

pub carries_settle : (packets : List Parcel) (w : World) → Carries packets w → Carries packets (settled w)
carries_settle packets w h = settled_where w (Carries packets) (λ _. h) (λ _. record {
  fresh = fresh_settles w h.fresh;
  packets = h.packets;
  brought = all_more (Brought w.net.histories) (Brought (histories_after w)) (brought_grows w.net.histories (histories_after w) (grown_after w)) packets h.brought;
  between = h.between;
})

pub events_settle : (w : World) → (settled w).events ≡ w.events
events_settle w = settled_where w (λ v. v.events ≡ w.events) (λ _. refl) (λ _. refl)
