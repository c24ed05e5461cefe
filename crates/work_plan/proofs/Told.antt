-- The agent is told of one application: all others stay as they are.
use Rattle.std.proofs.Common.{◌≡◌, ◌≢◌, ℕ, zero, suc, ◌<◌, Bool, true, false, nat_eq, List, [], ◌∷◌, length, Option, Some, None, get_or, refl, sym, ◌∙◌, ap, subst, arith}
use Rattle.std.specs.Prelude.{◌&&◌}
use Rattle.std.specs.List.{AllByRecursion}
use Rattle.std.proofs.lemmas.Bool.Decides.{nat_tests}
use Rattle.fuxi_terms.specs.Tallies.{TallyRecord, ChangeRecord, empty_tally}
use Rattle.fuxi_terms.proofs.Booleans.{eq_turned, nat_itself, number_is}
use Rattle.delta_channel.specs.Standing.{StandsFor}
use Rattle.full_sync.specs.Turns.{Endpoint}
use Rattle.spec_net.specs.Net.{Heard as HeardThere, Id, Link, Packet, set_at, with_links}
use Rattle.work_plan.specs.Crews.{nobody, workers_of}
use Rattle.work_plan.specs.PlanKeys.{most_workers, named}
use Rattle.work_plan.specs.RunAfter.{run_after}
use Rattle.work_plan.specs.declared.squad.Member.{Member}
use Rattle.work_plan.specs.declared.ends.Parcel.{Parcel}
use Rattle.work_plan.specs.declared.hearing.Heard.{Heard}
use Rattle.work_plan.specs.Ends.{Brought, IsEnd, histories, packet_of, patched_names}
use Rattle.work_plan.specs.WorkEvents.{hear_running, row_set, set_to, with_net}
use Rattle.work_plan.specs.WorkSettling.{histories_after, running_of, settled_all}
use Rattle.work_plan.specs.AgentWithApps.{World, agent_id, app_id, agent_link, agent_party}
use Rattle.work_plan.specs.WorkMoves.{CountsPeer, HeardAgent, HeardPeer, HearsPeer, IsNew}
use Rattle.work_plan.specs.Settles.{IsPublished}
use Rattle.work_plan.specs.WorkWorlds.{Crew, IsAgent, IsNoPeer, IsPeer, PeerAt, agent_of, force_at, settled_work}
use Rattle.work_plan.specs.declared.parts.Agent.{Agent}
use Rattle.work_plan.specs.declared.parts.Peer.{Peer}
use Rattle.work_plan.proofs.Agents.{peer_after, published_after}
use Rattle.work_plan.proofs.Events.{new_end, party_itself}
use Rattle.work_plan.proofs.Peers.{no_names}

-- An application of which the agent has nothing is given room
none_at : (xs : List (List Member)) (u : ℕ) → AllByRecursion (λ ms. ms ≡ []) xs → get_or xs u [] ≡ []
none_at [] u h = refl
none_at (x ∷ xs) zero h = h.0
none_at (x ∷ xs) (suc u) h = none_at xs u h.1

new_peer : (p : Peer) (b a : ℕ) (l : Link) (hs : histories) (plan : TallyRecord) (counts : ℕ → ℕ) (work : ℕ → List ℕ) → IsNew b p → IsNoPeer None b a l hs plan counts work → IsPeer p (Some nobody) b a l hs plan counts work
new_peer p b a l hs plan counts work n h = record {
  has = record {
    ends = subst (λ e. IsEnd e (agent_of b) (app_id a) l hs) (sym n.ends) (new_end b (agent_of b) (app_id a) l hs refl refl h.link h.history (subst (λ (e : Endpoint TallyRecord ChangeRecord TallyRecord). StandsFor empty_tally patched_names e.outgoing (empty_tally ∷ [])) n.ends n.stands));
    told = ap (λ (e : Endpoint TallyRecord ChangeRecord TallyRecord). e.outgoing.present) n.ends ∙ sym (ap running_of (λ i u. h.no_work u i) ∙ (λ i. record { head = 0; entries = no_names i }));
    before = λ t. n.plan ∙ sym h.no_plan;
    counted = λ u. n.counts u ∙ sym (h.no_counts u);
    none = λ u le. h.no_counts u;
    admitted = refl;
    runs = λ u. ap workers_of (none_at nobody u (refl, (refl, (refl, (refl, (refl, (refl, (refl, (refl, tt))))))))) ∙ sym (h.no_work u);
    small = λ u. subst (AllByRecursion (λ m. m < most_workers)) (sym (h.no_work u)) tt;
  };
  force = ap (λ k. force_at hs a k plan) h.link;
  rests = λ u. (λ i. run_after (h.no_work u i) (named u plan.entries) (h.no_counts u i)) ∙ sym (h.no_work u);
}

apart : (c a : ℕ) → nat_eq c a ≡ false → c ≢ a
apart c a t = λ e. let bad : nat_eq c a ≡ true = grind (arith, nat_tests, e) in let both : true ≡ false = sym bad ∙ t in cc

module _ (g g' : Agent) (w : World) (a : ℕ) (h : IsAgent g w) (boot : g'.boot ≡ g.boot) where
  pub room_made : (p : Peer) → get_or g.workers a None ≡ None → IsNew g.boot p → get_or g'.peers.items a None ≡ Some p → ((c : ℕ) → c ≢ a → get_or g'.peers.items c None ≡ get_or g.peers.items c None)
      → get_or g'.workers a None ≡ Some nobody → ((c : ℕ) → c ≢ a → get_or g'.workers c None ≡ get_or g.workers c None) → IsAgent g' w
  room_made p none new here others room rest = record { boot = boot ∙ h.boot; runs = h.runs; peers = λ c. at c (nat_eq c a) refl }
    where
      made : (o : Option Peer) → PeerAt o None w.agent a (agent_link w a) w.net.histories (w.plans a) (w.counts a) (w.work a) → PeerAt (Some p) (Some nobody) w.agent a (agent_link w a) w.net.histories (w.plans a) (w.counts a) (w.work a)
      made (Some q) k = let bad : ◌≡◌ {A = Bool} false true = k.has.admitted in absurd (let no : ⊥ = cc in no)
      made None k = new_peer p w.agent a (agent_link w a) w.net.histories (w.plans a) (w.counts a) (w.work a) (subst (λ b. IsNew b p) h.boot new) k

      now : PeerAt (get_or g'.peers.items a None) (get_or g'.workers a None) w.agent a (agent_link w a) w.net.histories (w.plans a) (w.counts a) (w.work a)
      now = subst (λ (x : Option Peer × Crew). PeerAt x.0 x.1 w.agent a (agent_link w a) w.net.histories (w.plans a) (w.counts a) (w.work a)) (λ i. (sym here i, sym room i))
          (made (get_or g.peers.items a None) (subst (λ (k : Crew). PeerAt (get_or g.peers.items a None) k w.agent a (agent_link w a) w.net.histories (w.plans a) (w.counts a) (w.work a)) none (h.peers a)))

      at : (c : ℕ) (t : Bool) → nat_eq c a ≡ t → PeerAt (get_or g'.peers.items c None) (get_or g'.workers c None) w.agent c (agent_link w c) w.net.histories (w.plans c) (w.counts c) (w.work c)
      at c true t = subst (λ n. PeerAt (get_or g'.peers.items n None) (get_or g'.workers n None) w.agent n (agent_link w n) w.net.histories (w.plans n) (w.counts n) (w.work n)) (sym (number_is c a t)) now
      at c false t = subst (λ (x : Option Peer × Crew). PeerAt x.0 x.1 w.agent c (agent_link w c) w.net.histories (w.plans c) (w.counts c) (w.work c)) (λ i. (sym (others c (apart c a t)) i, sym (rest c (apart c a t)) i)) (h.peers c)

  -- a peer that is there changes, and the agent settles
  module _ (p p' : Peer) (was : get_or g.peers.items a None ≡ Some p) (here : get_or g'.peers.items a None ≡ Some p') (others : (c : ℕ) → c ≢ a → get_or g'.peers.items c None ≡ get_or g.peers.items c None) where
    there : IsPeer p (get_or g.workers a None) w.agent a (agent_link w a) w.net.histories (w.plans a) (w.counts a) (w.work a)
    there = subst (λ (o : Option Peer). PeerAt o (get_or g.workers a None) w.agent a (agent_link w a) w.net.histories (w.plans a) (w.counts a) (w.work a)) was (h.peers a)

    -- what stands of the others, of a world that has the same of them
    rest : ((c : ℕ) → c ≢ a → get_or g'.workers c None ≡ get_or g.workers c None) → (c : ℕ) → nat_eq c a ≡ false → PeerAt (get_or g'.peers.items c None) (get_or g'.workers c None) w.agent c (agent_link w c) w.net.histories (w.plans c) (w.counts c) (w.work c)
    rest crews c t = subst (λ (x : Option Peer × Crew). PeerAt x.0 x.1 w.agent c (agent_link w c) w.net.histories (w.plans c) (w.counts c) (w.work c)) (λ i. (sym (others c (apart c a t)) i, sym (crews c (apart c a t)) i)) (h.peers c)

    module _ (u n : ℕ) (s : CountsPeer a u n p p' g.workers g'.workers) where
      abbrev counted_world : World
      counted_world = row_set a u n w

      counts_here : counted_world.counts a ≡ set_to (w.counts a) u n
      counts_here = ap (λ t. elim t as (λ _. ℕ → ℕ) [ true ↦ set_to (w.counts a) u n | false ↦ w.counts a ]) (nat_itself a)

      counts_there : (c : ℕ) → nat_eq c a ≡ false → counted_world.counts c ≡ w.counts c
      counts_there c t = ap (λ b. elim b as (λ _. ℕ → ℕ) [ true ↦ set_to (w.counts a) u n | false ↦ w.counts c ]) t

      abbrev CountedPeers : ℕ → Type 0
      CountedPeers c = PeerAt (get_or g'.peers.items c None) (get_or g'.workers c None) counted_world.agent c (agent_link (settled_all counted_world) c) (settled_all counted_world).net.histories ((settled_all counted_world).plans c) ((settled_all counted_world).counts c) ((settled_all counted_world).work c)

      counted_here : CountedPeers a
      counted_here =
          let force = force_at w.net.histories a (agent_link w a) (w.plans a) in
          let published : IsPublished w.net.histories (histories_after counted_world) w.agent a (agent_link w a) (settled_work (w.work a) force (set_to (w.counts a) u n)) =
          subst (λ k. IsPublished w.net.histories (histories_after counted_world) w.agent a (agent_link w a) (settled_work (w.work a) force k)) counts_here (published_after counted_world a) in
          let made = s.peer w.agent (agent_link w a) w.net.histories (histories_after counted_world) (w.plans a) (w.counts a) (w.work a) there published in
          subst (λ (o : Option Peer). PeerAt o (get_or g'.workers a None) w.agent a (agent_link w a) (histories_after counted_world) force (counted_world.counts a) (settled_work (w.work a) force (counted_world.counts a))) (sym here)
          (subst (λ k. IsPeer p' (get_or g'.workers a None) w.agent a (agent_link w a) (histories_after counted_world) force k (settled_work (w.work a) force k)) (sym counts_here) made)

      counted_at : (c : ℕ) (t : Bool) → nat_eq c a ≡ t → CountedPeers c
      counted_at c true t = subst CountedPeers (sym (number_is c a t)) counted_here
      counted_at c false t = peer_after (get_or g'.peers.items c None) (get_or g'.workers c None) counted_world c (subst (λ k. PeerAt (get_or g'.peers.items c None) (get_or g'.workers c None) w.agent c (agent_link w c) w.net.histories (w.plans c) k (w.work c)) (sym (counts_there c t)) (rest s.others c t))

      pub agent_counts : IsAgent g' (settled_all counted_world)
      agent_counts = record { boot = boot ∙ h.boot; runs = h.runs; peers = λ c. counted_at c (nat_eq c a) refl }

    module _ (x : Parcel) (heard : Heard) (s : HearsPeer a x heard p p' g.workers g'.workers) (brought : Brought w.net.histories x) (from : (packet_of x).from.id ≡ app_id a) (to : (packet_of x).to.id ≡ agent_id) where
      abbrev y : Packet
      y = packet_of x

      abbrev heard_as : Id → HeardThere
      heard_as q = hear_running w.agent (length (w.net.histories (agent_party w) q)) (w.net.links (agent_party w) q) y

      abbrev world_of : Id → World
      world_of q = with_net w (with_links w.net (set_at w.net.links (agent_party w) q (heard_as q).link))

      abbrev Whole : Id → Type 0
      Whole q = (heard.fresh ≡ (heard_as q).fresh) × (heard.what ≡ (heard_as q).what) × IsAgent g' (settled_all (world_of q))

      abbrev v : World
      v = world_of (app_id a)

      told : HeardPeer y heard p' g'.workers w.agent a (agent_link w a) w.net.histories (w.plans a) (w.counts a) (w.work a)
      told = s.peer w.agent (agent_link w a) w.net.histories (w.plans a) (w.counts a) (w.work a) there brought from to

      link_here : agent_link v a ≡ (heard_as (app_id a)).link
      link_here = ap (λ b. elim b as (λ _. Link) [ true ↦ (heard_as (app_id a)).link | false ↦ agent_link w a ]) (λ i. party_itself (agent_party w) i && nat_itself a i)

      link_there : (c : ℕ) → nat_eq c a ≡ false → agent_link v c ≡ agent_link w c
      link_there c t = ap (λ b. elim b as (λ _. Link) [ true ↦ (heard_as (app_id a)).link | false ↦ agent_link w c ]) (λ i. party_itself (agent_party w) i && (eq_turned a c ∙ t) i)

      abbrev Peers : ℕ → Type 0
      Peers c = PeerAt (get_or g'.peers.items c None) (get_or g'.workers c None) v.agent c (agent_link (settled_all v) c) (settled_all v).net.histories ((settled_all v).plans c) ((settled_all v).counts c) ((settled_all v).work c)

      heard_here : Peers a
      heard_here =
          let hs = w.net.histories in
          let published = subst (λ m. IsPublished hs (histories_after v) w.agent a m (settled_work (w.work a) (force_at hs a m (w.plans a)) (w.counts a))) link_here (published_after v a) in
          let made = told.peer (histories_after v) published in
          subst (λ (o : Option Peer). PeerAt o (get_or g'.workers a None) w.agent a (agent_link v a) (histories_after v) (force_at hs a (agent_link v a) (w.plans a)) (w.counts a) (settled_work (w.work a) (force_at hs a (agent_link v a) (w.plans a)) (w.counts a))) (sym here)
          (subst (λ m. IsPeer p' (get_or g'.workers a None) w.agent a m (histories_after v) (force_at hs a m (w.plans a)) (w.counts a) (settled_work (w.work a) (force_at hs a m (w.plans a)) (w.counts a))) (sym link_here) made)

      heard_at_each : (c : ℕ) (t : Bool) → nat_eq c a ≡ t → Peers c
      heard_at_each c true t = subst Peers (sym (number_is c a t)) heard_here
      heard_at_each c false t = peer_after (get_or g'.peers.items c None) (get_or g'.workers c None) v c (subst (λ m. PeerAt (get_or g'.peers.items c None) (get_or g'.workers c None) w.agent c m w.net.histories (w.plans c) (w.counts c) (w.work c)) (sym (link_there c t)) (rest s.others c t))

      whole : Whole (app_id a)
      whole = (told.fresh, told.what, record { boot = boot ∙ h.boot; runs = h.runs; peers = λ c. heard_at_each c (nat_eq c a) refl })

      pub agent_hears : HeardAgent y heard g' w
      agent_hears = let all = subst Whole (sym from) whole in record { fresh = all.0; what = all.1; agent = all.2 }
