-- What the agent has of an application, where an event does not touch it.
use Rattle.std.proofs.Common.{◌≡◌, ℕ, true, false, nat_eq, List, [], ◌∷◌, map, Option, Some, None, refl, sym, ◌∙◌, ap, subst}
use Rattle.std.specs.List.{flat_map}
use Rattle.fuxi_terms.specs.Tallies.{TallyRecord, ChangeRecord}
use Rattle.full_sync.specs.Turns.{Endpoint}
use Rattle.spec_net.specs.Net.{Link}
use Rattle.work_plan.specs.PlanKeys.{named, worker_key}
use Rattle.work_plan.specs.RunAfter.{run_after}
use Rattle.work_plan.specs.Ends.{IsEnd, histories}
use Rattle.work_plan.specs.WorkSettling.{running_of, with_names}
use Rattle.work_plan.specs.AgentWithApps.{agent_id, app_id, all_units, present}
use Rattle.work_plan.specs.Settles.{IsPublished}
use Rattle.work_plan.specs.WorkWorlds.{Crew, HasPeer, IsPeer, IsNoPeer, PeerAt, agent_of, force_at, settled_work}
use Rattle.work_plan.specs.declared.parts.Peer.{Peer}
use Rattle.work_plan.proofs.HistoriesGrow.{Grown, end_grows, present_is, published_same, received_is, same_grown}

pub force_grows : (d : Endpoint TallyRecord ChangeRecord TallyRecord) (b a : ℕ) (l : Link) (hs hs' : histories) (plan : TallyRecord) → IsEnd d (agent_of b) (app_id a) l hs → IsEnd d (agent_of b) (app_id a) l hs' → force_at hs' a l plan ≡ force_at hs a l plan
force_grows d b a l hs hs' plan e e' =
    ap (λ t. elim (nat_eq l.seq 0) as (λ _. TallyRecord) [ true ↦ plan | false ↦ t ]) (received_is d (agent_of b) (app_id a) l hs' e' ∙ sym (received_is d (agent_of b) (app_id a) l hs e))

module _ (b a : ℕ) (l : Link) (hs hs' : histories) (theirs : Grown (hs (record { id = app_id a; inc = l.known }) agent_id) (hs' (record { id = app_id a; inc = l.known }) agent_id)) (plan : TallyRecord) (counts : ℕ → ℕ) (work : ℕ → List ℕ) where
  pub has_grows : (p : Peer) (crew : Crew) → hs' (agent_of b) (app_id a) ≡ hs (agent_of b) (app_id a) → HasPeer p crew b a l hs plan counts work → HasPeer p crew b a l hs' plan counts work
  has_grows p crew own h = record {
    ends = end_grows p.ends (agent_of b) (app_id a) l hs hs' h.ends own theirs;
    told = h.told;
    before = h.before;
    counted = h.counted;
    none = h.none;
    admitted = h.admitted;
    runs = h.runs;
    small = h.small;
  }

  pub peer_grows : (p : Peer) (crew : Crew) → hs' (agent_of b) (app_id a) ≡ hs (agent_of b) (app_id a) → IsPeer p crew b a l hs plan counts work → IsPeer p crew b a l hs' plan counts work
  peer_grows p crew own h =
      let has = has_grows p crew own h.has in
      record { has = has; force = force_grows p.ends b a l hs hs' plan h.has.ends has.ends ∙ h.force; rests = h.rests }

  pub at_grows : (o : Option Peer) (crew : Crew) → hs' (agent_of b) (app_id a) ≡ hs (agent_of b) (app_id a) → PeerAt o crew b a l hs plan counts work → PeerAt o crew b a l hs' plan counts work
  at_grows (Some p) crew own h = peer_grows p crew own h
  at_grows None crew own h = record { link = h.link; history = own ∙ h.history; no_plan = h.no_plan; no_counts = h.no_counts; no_crew = h.no_crew; no_work = h.no_work }

-- nobody runs where no place is
nobody_named : (us : List ℕ) → flat_map (λ u. map (worker_key u) []) us ≡ []
nobody_named [] = refl
nobody_named (u ∷ us) = nobody_named us

pub no_names : (running_of (λ u. [])).entries ≡ []
no_names = ap with_names (nobody_named all_units)

module _ (b a : ℕ) (l : Link) (hs hs' : histories) (plan : TallyRecord) (counts : ℕ → ℕ) (work : ℕ → List ℕ) (published : IsPublished hs hs' b a l (settled_work work (force_at hs a l plan) counts)) where
  pub peer_settled : (p : Peer) (crew : Crew) → IsPeer p crew b a l hs plan counts work → IsPeer p crew b a l hs' (force_at hs a l plan) counts (settled_work work (force_at hs a l plan) counts)
  peer_settled p crew h =
      let force : plan ≡ force_at hs a l plan = sym h.force in
      let same : work ≡ settled_work work (force_at hs a l plan) counts = (λ i u. sym (h.rests u) i) ∙ ap (λ t. settled_work work t counts) force in
      let told = ap (λ (t : TallyRecord). t.entries) (present_is p.ends (agent_of b) (app_id a) l hs h.has.ends ∙ h.has.told ∙ ap running_of same) in
      let own : hs' (agent_of b) (app_id a) ≡ hs (agent_of b) (app_id a) = published.own ∙ published_same (hs (agent_of b) (app_id a)) (running_of (settled_work work (force_at hs a l plan) counts)) told in
      let here = peer_grows b a l hs hs' (same_grown _ _ published.theirs) plan counts work p crew own h in
      subst (λ ws. IsPeer p crew b a l hs' (force_at hs a l plan) counts ws) same (subst (λ t. IsPeer p crew b a l hs' t counts work) force here)

  pub no_peer_settled : (crew : Crew) → IsNoPeer crew b a l hs plan counts work → IsNoPeer crew b a l hs' (force_at hs a l plan) counts (settled_work work (force_at hs a l plan) counts)
  no_peer_settled crew h =
      let nobody : (u : ℕ) → settled_work work (force_at hs a l plan) counts u ≡ [] = λ u i. run_after (h.no_work u i) (named u (force_at hs a l plan).entries) (h.no_counts u i) in
      let told : (present (hs (agent_of b) (app_id a))).entries ≡ (running_of (settled_work work (force_at hs a l plan) counts)).entries =
      ap (λ k. (present k).entries) h.history ∙ sym (ap (λ ws. (running_of ws).entries) (λ i u. nobody u i) ∙ no_names) in
      record {
        link = h.link;
        history = published.own ∙ published_same (hs (agent_of b) (app_id a)) (running_of (settled_work work (force_at hs a l plan) counts)) told ∙ h.history;
        no_plan = ap (λ k. force_at hs a k plan) h.link ∙ h.no_plan;
        no_counts = h.no_counts;
        no_crew = h.no_crew;
        no_work = nobody;
      }

  pub at_settled : (o : Option Peer) (crew : Crew) → PeerAt o crew b a l hs plan counts work → PeerAt o crew b a l hs' (force_at hs a l plan) counts (settled_work work (force_at hs a l plan) counts)
  at_settled (Some p) crew h = peer_settled p crew h
  at_settled None crew h = no_peer_settled crew h
