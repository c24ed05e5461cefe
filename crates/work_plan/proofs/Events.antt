-- What each event leaves of the agent, the applications and the packets, before the agent settles.
use Rattle.std.proofs.Common.{◌≡◌, ◌≢◌, ℕ, ◌<◌, Bool, true, false, nat_eq, List, [], ◌∷◌, length, Option, Some, None, get_or, refl, sym, ◌∙◌, ap, subst, arith}
use Rattle.std.specs.Prelude.{◌&&◌}
use Rattle.std.proofs.lemmas.Bool.Decides.{nat_tests}
use Rattle.fuxi_terms.specs.Tallies.{TallyRecord, ChangeRecord, empty_tally}
use Rattle.fuxi_terms.proofs.Alls.{all_more}
use Rattle.fuxi_terms.proofs.Booleans.{both_true, number_is, nat_itself, eq_turned}
use Rattle.delta_channel.specs.Standing.{StandsFor}
use Rattle.full_sync.specs.Turns.{Endpoint, new_endpoint}
use Rattle.spec_net.specs.Net.{Party, Id, Link, same_id, same_party, set_at, unknown}
use Rattle.work_plan.specs.Ends.{IsEnd, Brought, Sets, histories, patched_names}
use Rattle.work_plan.specs.declared.ends.Parcel.{Parcel}
use Rattle.work_plan.specs.WorkEvents.{agent_starts, app_starts, plan_set, plan_with}
use Rattle.work_plan.specs.WorkSettling.{histories_after, in_force, published, settled_all, work_after}
use Rattle.work_plan.specs.AgentWithApps.{World, agent_id, app_id, app_party, agent_link, app_link, present}
use Rattle.work_plan.specs.WorkMoves.{StartsApp}
use Rattle.work_plan.specs.WorkWorlds.{IsAgent, AgentAt, IsAppOf, AppAt, AppOf, AppsAt, Carries, IsFresh, Crew, PeerAt, agent_of}
use Rattle.work_plan.specs.declared.parts.Agent.{Agent}
use Rattle.work_plan.specs.declared.parts.Peer.{Peer}
use Rattle.work_plan.proofs.HistoriesGrow.{Grown, brought_grows, end_grows, present_is, published_grown, same_grown}
use Rattle.work_plan.proofs.Peers.{at_grows, no_peer_settled}
use Rattle.work_plan.proofs.Agents.{published_after}

abbrev Ends : Type 0
Ends = Endpoint TallyRecord ChangeRecord TallyRecord

-- a test of two numbers that are not one
pub differ : (a b : ℕ) → (a ≡ b → ⊥) → nat_eq a b ≡ false
differ a b f = by (nat_eq a b) refl
  where
    by : (t : Bool) → nat_eq a b ≡ t → t ≡ false
    by true t = absurd (f (number_is a b t))
    by false t = refl

pub id_is : (p q : Id) → same_id p q ≡ true → p ≡ q
id_is p q t = let parts = both_true (nat_eq p.role q.role) (nat_eq p.number q.number) t in λ i. record { role = number_is p.role q.role parts.0 i; number = number_is p.number q.number parts.1 i }

pub party_is : (p q : Party) → same_party p q ≡ true → p ≡ q
party_is p q t = let parts = both_true (same_id p.id q.id) (nat_eq p.inc q.inc) t in λ i. record { id = id_is p.id q.id parts.0 i; inc = number_is p.inc q.inc parts.1 i }

pub id_itself : (p : Id) → same_id p p ≡ true
id_itself p = λ i. nat_itself p.role i && nat_itself p.number i

pub party_itself : (p : Party) → same_party p p ≡ true
party_itself p = λ i. id_itself p.id i && nat_itself p.inc i

-- an end that was just begun
pub new_end : (b : ℕ) (p : Party) (q : Id) (l : Link) (hs : histories) → b ≡ p.inc → same_id q p.id ≡ false → l ≡ unknown → hs p q ≡ [] → StandsFor empty_tally patched_names (new_endpoint {W = TallyRecord} empty_tally empty_tally b).outgoing (empty_tally ∷ []) → IsEnd (new_endpoint empty_tally empty_tally b) p q l hs
new_end b p q l hs own apart link none stands = subst (λ k. IsEnd (new_endpoint empty_tally empty_tally b) p q k hs) (sym link) (record {
  own = own;
  also = own;
  apart = apart;
  place = refl;
  acked = refl;
  last = ap length (sym none);
  stands = subst (λ h. StandsFor empty_tally patched_names (new_endpoint {W = TallyRecord} empty_tally empty_tally b).outgoing (empty_tally ∷ h)) (sym none) stands;
  entry = refl;
})

-- The agent starts
pub agent_started : (g : Agent) (b : ℕ) (w : World) → g.boot ≡ b → g.peers.items ≡ [] → g.workers ≡ [] → w.agent < b → IsFresh w → IsAgent g (settled_all (agent_starts b w))
agent_started g b w boot peers workers lt fresh =
    let v = agent_starts b w in
    record {
      boot = boot;
      runs = grind (arith, nat_tests, lt);
      peers = λ a.
          let link : agent_link v a ≡ unknown = ap (λ t. elim t as (λ _. Link) [ true ↦ unknown | false ↦ w.net.links (agent_of b) (app_id a) ]) (party_itself (agent_of b)) in
          let nothing = no_peer_settled b a (agent_link v a) v.net.histories _ (v.plans a) (v.counts a) (v.work a) (published_after v a) None
          (record { link = link; history = fresh.agent b (app_id a) lt; no_plan = refl; no_counts = λ u. refl; no_crew = refl; no_work = λ u. refl }) in
          subst (λ (x : List (Option Peer) × List Crew). PeerAt (get_or x.0 a None) (get_or x.1 a None) b a (agent_link v a) (histories_after v) (in_force v a) (v.counts a) (work_after v a)) (λ i. (sym peers i, sym workers i)) nothing;
    }

-- An application starts
pub app_started : (apps apps' : List (Option Ends)) (a b : ℕ) (w : World) → StartsApp a b apps apps' → w.apps a < b → IsFresh w → AppsAt apps w → AppsAt apps' (app_starts a b w)
app_started apps apps' a b w s lt fresh h c = at (nat_eq c a) refl
  where
    here : AppOf (get_or apps' a None) (app_starts a b w) a
    here =
        let v = app_starts a b w in
        let boot : v.apps a ≡ b = ap (λ t. elim t as (λ _. ℕ) [ true ↦ b | false ↦ w.apps a ]) (nat_itself a) in
        let same : same_party (record { id = app_id a; inc = b }) (record { id = app_id a; inc = v.apps a }) ≡ true = ap (λ n. same_party (record { id = app_id a; inc = b }) (record { id = app_id a; inc = n })) boot ∙ party_itself (record { id = app_id a; inc = b }) in
        let link : app_link v a ≡ unknown = ap (λ t. elim t as (λ _. Link) [ true ↦ unknown | false ↦ w.net.links (record { id = app_id a; inc = v.apps a }) agent_id ]) same in
        let none : w.net.histories (record { id = app_id a; inc = v.apps a }) agent_id ≡ [] = ap (λ n. w.net.histories (record { id = app_id a; inc = n }) agent_id) boot ∙ fresh.apps a b lt in
        let positive : nat_eq b 0 ≡ false = grind (arith, nat_tests, lt) in
        subst (λ o. AppAt o (v.apps a) a (app_link v a) v.net.histories) (sym s.here) (record {
          ends = new_end b (record { id = app_id a; inc = v.apps a }) agent_id (app_link v a) w.net.histories (sym boot) refl link none s.stands;
          runs = ap (λ n. nat_eq n 0) boot ∙ positive;
        })

    at : (t : Bool) → nat_eq c a ≡ t → AppOf (get_or apps' c None) (app_starts a b w) c
    at true t = subst (λ n. AppOf (get_or apps' n None) (app_starts a b w) n) (sym (number_is c a t)) here
    at false t =
        let v = app_starts a b w in
        let boot : v.apps c ≡ w.apps c = ap (λ t. elim t as (λ _. ℕ) [ true ↦ b | false ↦ w.apps c ]) t in
        let other : nat_eq a c ≡ false = eq_turned a c ∙ t in
        let link : app_link v c ≡ app_link w c = ap (λ t. elim (t && nat_eq b (v.apps c)) as (λ _. Link) [ true ↦ unknown | false ↦ w.net.links (record { id = app_id c; inc = v.apps c }) agent_id ]) other ∙ ap (λ n. w.net.links (record { id = app_id c; inc = n }) agent_id) boot in
        let apart : c ≡ a → ⊥ = λ e. let bad : nat_eq c a ≡ true = grind (arith, nat_tests, e) in let both : true ≡ false = sym bad ∙ t in cc in
        subst (λ o. AppAt o (v.apps c) c (app_link v c) v.net.histories) (sym (s.others c apart)) (subst (λ (x : ℕ × Link). AppAt (get_or apps c None) x.0 c x.1 w.net.histories) (λ i. (sym boot i, sym link i)) (h c))

pub fresh_app_started : (a b : ℕ) (w : World) → w.apps a < b → IsFresh w → IsFresh (app_starts a b w)
fresh_app_started a b w lt h = record { agent = h.agent; apps = λ c n. at c n (nat_eq c a) refl }
  where
    at : (c n : ℕ) (t : Bool) → nat_eq c a ≡ t → elim t as (λ _. ℕ) [ true ↦ b | false ↦ w.apps c ] < n → w.net.histories (record { id = app_id c; inc = n }) agent_id ≡ []
    at c n true t less = let same = number_is c a t in ap (λ k. w.net.histories (record { id = app_id k; inc = n }) agent_id) same ∙ h.apps a n (omega (arith, lt, less))
    at c n false t less = h.apps c n less

-- A history to which a ledger is published
pub set_grown : (hs : histories) (p : Party) (q : Id) (t : TallyRecord) (p' : Party) (q' : Id) → Grown (hs p' q') (set_at hs p q (published (hs p q) t) p' q')
set_grown hs p q t p' q' = at (same_party p p' && same_id q q') refl
  where
    at : (b : Bool) → (same_party p p' && same_id q q') ≡ b → Grown (hs p' q') (elim b as (λ _. List TallyRecord) [ true ↦ published (hs p q) t | false ↦ hs p' q' ])
    at true e = let parts = both_true (same_party p p') (same_id q q') e in subst (λ h. Grown h (published (hs p q) t)) (λ i. hs (party_is p p' parts.0 i) (id_is q q' parts.1 i)) (published_grown (hs p q) t)
    at false e = same_grown (hs p' q') (hs p' q') refl

-- An application's plan changes
module _ (a u n : ℕ) (wanted : Bool) (w : World) where
  abbrev planned : World
  planned = plan_set a u n wanted w

  plan_grown : (p : Party) (q : Id) → Grown (w.net.histories p q) (planned.net.histories p q)
  plan_grown p q = set_grown w.net.histories (app_party w a) agent_id (plan_with (present (w.net.histories (app_party w a) agent_id)) u n wanted) p q

  pub agent_planned : (o : Option Agent) → AgentAt o w → AgentAt o planned
  agent_planned (Some g) h = record {
    boot = h.boot;
    runs = h.runs;
    peers = λ c. at_grows w.agent c (agent_link w c) w.net.histories planned.net.histories (plan_grown (record { id = app_id c; inc = (agent_link w c).known }) agent_id) (w.plans c) (w.counts c) (w.work c) (get_or g.peers.items c None) (get_or g.workers c None) refl (h.peers c);
  }
  agent_planned None h = h

  pub app_planned : (old new : Ends) → Sets (plan_with old.outgoing.present u n wanted) old new → IsAppOf old w a → IsAppOf new planned a
  app_planned old new s h =
      let p = app_party w a in
      let hs = w.net.histories in
      let here : (same_party p p && same_id agent_id agent_id) ≡ true = λ i. party_itself p i && true in
      let is : planned.net.histories p agent_id ≡ published (hs p agent_id) (plan_with old.outgoing.present u n wanted) =
      ap (λ t. elim t as (λ _. List TallyRecord) [ true ↦ published (hs p agent_id) (plan_with (present (hs p agent_id)) u n wanted) | false ↦ hs p agent_id ]) here
      ∙ ap (λ t. published (hs p agent_id) (plan_with t u n wanted)) (present_is old p agent_id (app_link w a) hs h.ends) in
      record { ends = s.ends p agent_id (app_link w a) hs planned.net.histories h.ends is refl; runs = h.runs }

  other_app : (o : Option Ends) (c : ℕ) → nat_eq c a ≡ false → AppOf o w c → AppOf o planned c
  other_app (Some d) c t h =
      let p = app_party w c in
      let other : nat_eq a c ≡ false = eq_turned a c ∙ t in
      let hs = w.net.histories in
      let own : planned.net.histories p agent_id ≡ hs p agent_id =
      ap (λ t. elim ((t && nat_eq (w.apps a) (w.apps c)) && true) as (λ _. List TallyRecord) [ true ↦ published (hs (app_party w a) agent_id) (plan_with (present (hs (app_party w a) agent_id)) u n wanted) | false ↦ hs p agent_id ]) other in
      record { ends = end_grows d p agent_id (app_link w c) hs planned.net.histories h.ends own (plan_grown (record { id = agent_id; inc = (app_link w c).known }) (app_id c)); runs = h.runs }
  other_app None c t h = h

  pub apps_planned : (apps apps' : List (Option Ends)) (old new : Ends) → Sets (plan_with old.outgoing.present u n wanted) old new → get_or apps a None ≡ Some old → get_or apps' a None ≡ Some new
      → ((c : ℕ) → c ≢ a → get_or apps' c None ≡ get_or apps c None) → AppsAt apps w → AppsAt apps' planned
  apps_planned apps apps' old new s was is others h c = at (nat_eq c a) refl
    where
      at : (t : Bool) → nat_eq c a ≡ t → AppOf (get_or apps' c None) planned c
      at true t = subst (λ k. AppOf (get_or apps' k None) planned k) (sym (number_is c a t)) (subst (λ o. AppOf o planned a) (sym is) (app_planned old new s (subst (λ o. AppOf o w a) was (h a))))
      at false t = subst (λ o. AppOf o planned c) (sym (others c (λ e. let bad : nat_eq c a ≡ true = grind (arith, nat_tests, e) in let both : true ≡ false = sym bad ∙ t in cc))) (other_app (get_or apps c None) c t (h c))

  fresh_planned : IsFresh w → IsFresh planned
  fresh_planned h = record { agent = h.agent; apps = λ c b lt. at c b lt (nat_eq a c) refl }
    where
      at : (c b : ℕ) → w.apps c < b → (t : Bool) → nat_eq a c ≡ t → planned.net.histories (record { id = app_id c; inc = b }) agent_id ≡ []
      at c b lt true t =
          let same = number_is a c t in
          let older : nat_eq (w.apps a) b ≡ false = let less : w.apps a < b = subst (λ k. w.apps k < b) (sym same) lt in grind (arith, nat_tests, less) in
          (λ i. elim ((t i && older i) && true) as (λ _. List TallyRecord) [ true ↦ published (w.net.histories (app_party w a) agent_id) (plan_with (present (w.net.histories (app_party w a) agent_id)) u n wanted) | false ↦ w.net.histories (record { id = app_id c; inc = b }) agent_id ]) ∙ h.apps c b lt
      at c b lt false t = (λ i. elim ((t i && nat_eq (w.apps a) b) && true) as (λ _. List TallyRecord) [ true ↦ published (w.net.histories (app_party w a) agent_id) (plan_with (present (w.net.histories (app_party w a) agent_id)) u n wanted) | false ↦ w.net.histories (record { id = app_id c; inc = b }) agent_id ]) ∙ h.apps c b lt

  pub carries_planned : (packets : List Parcel) → Carries packets w → Carries packets planned
  carries_planned packets h = record {
    fresh = fresh_planned h.fresh;
    packets = h.packets;
    brought = all_more (Brought w.net.histories) (Brought planned.net.histories) (brought_grows w.net.histories planned.net.histories plan_grown) packets h.brought;
    between = h.between;
  }
