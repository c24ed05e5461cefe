-- A packet is delivered.
use Rattle.std.proofs.Common.{◌≡◌, ◌≢◌, ℕ, Bool, true, false, nat_eq, List, [], ◌∷◌, length, Option, Some, None, get_or, refl, sym, ◌∙◌, ap, subst, arith}
use Rattle.std.specs.Prelude.{◌&&◌}
use Rattle.std.proofs.lemmas.Bool.Decides.{nat_tests}
use Rattle.fuxi_terms.specs.Tallies.{TallyRecord, ChangeRecord}
use Rattle.fuxi_terms.proofs.Booleans.{eq_turned, number_is}
use Rattle.full_sync.specs.Turns.{Endpoint}
use Rattle.spec_net.specs.Net.{Id, Link, Packet, Heard as HeardThere, Party as WrittenParty, set_at, with_links}
use Rattle.work_plan.specs.declared.ends.Parcel.{Parcel}
use Rattle.work_plan.specs.declared.hearing.Heard.{Heard}
use Rattle.work_plan.specs.Ends.{HearsAs, IsEnd}
use Rattle.work_plan.specs.WorkEvents.{Step, boot_of, deliver, done, hear_running, heard_at, hears, with_net}
use Rattle.work_plan.specs.WorkLines.{Came, Lost}
use Rattle.work_plan.specs.WorkSettling.{settled}
use Rattle.work_plan.specs.AgentWithApps.{World, agent_id, agent_party, app_id, app_link, app_party}
use Rattle.work_plan.specs.WorkMoves.{HeardAgent, heard_line}
use Rattle.work_plan.specs.WorkWorlds.{AgentAt, AppAt, AppOf, AppsAt, Carries, IsAgent, IsAppOf}
use Rattle.work_plan.specs.declared.parts.Agent.{Agent}
use Rattle.work_plan.proofs.Agents.{apps_settle, at_agent_settles, carries_settle, events_settle, settled_where}
use Rattle.work_plan.proofs.Events.{party_itself}

abbrev Ends : Type 0
Ends = Endpoint TallyRecord ChangeRecord TallyRecord

-- the packet is delivered to this party
abbrev pub step_at : World → ℕ → Packet → Id → Step
step_at w k y q = elim (nat_eq (boot_of w q) 0) as (λ _. Step) [ true ↦ done w (Lost k ∷ []) | false ↦ hears w k (record { id = q; inc = boot_of w q }) y ]

-- whoever hears it, or nobody does
pub either_way : (w : World) (k : ℕ) (y : Packet) (P : World → Type 0) → P (settled w) → ((p : WrittenParty) → P (settled (with_net w (with_links w.net (set_at w.net.links p y.from.id (heard_at w p y).link))))) → P (deliver w k (Some y)).world
either_way w k y P lost heard = by (nat_eq (boot_of w y.to.id) 0)
  where
    by : (b : Bool) → P (elim b as (λ _. Step) [ true ↦ done w (Lost k ∷ []) | false ↦ hears w k (record { id = y.to.id; inc = boot_of w y.to.id }) y ]).world
    by true = lost
    by false = heard (record { id = y.to.id; inc = boot_of w y.to.id })

linked : (w : World) (links : WrittenParty → Id → Link) → World
linked w links = with_net w (with_links w.net links)

pub carries_delivered : (packets : List Parcel) (w : World) (k : ℕ) (y : Packet) → Carries packets w → Carries packets (deliver w k (Some y)).world
carries_delivered packets w k y h = either_way w k y (Carries packets) (carries_settle packets w h)
    (λ p. carries_settle packets (with_net w (with_links w.net (set_at w.net.links p y.from.id (heard_at w p y).link))) (record { fresh = record { agent = h.fresh.agent; apps = h.fresh.apps }; packets = h.packets; brought = h.brought; between = h.between }))

pub events_delivered : (w : World) (k : ℕ) (y : Packet) → (deliver w k (Some y)).world.events ≡ w.events
events_delivered w k y = either_way w k y (λ v. v.events ≡ w.events) (events_settle w) (λ p. events_settle (with_net w (with_links w.net (set_at w.net.links p y.from.id (heard_at w p y).link))))

-- To the agent
module _ (w : World) (k : ℕ) (y : Packet) (to : y.to.id ≡ agent_id) where
  pub apps_stay : (apps : List (Option Ends)) → AppsAt apps w → AppsAt apps (deliver w k (Some y)).world
  apps_stay apps h = subst (λ q. AppsAt apps (step_at w k y q).world) (sym to) (by (nat_eq w.agent 0))
    where
      by : (b : Bool) → AppsAt apps (elim b as (λ _. Step) [ true ↦ done w (Lost k ∷ []) | false ↦ hears w k (agent_party w) y ]).world
      by true = apps_settle apps w h
      by false = apps_settle apps (with_net w (with_links w.net (set_at w.net.links (agent_party w) y.from.id (heard_at w (agent_party w) y).link))) h

  pub agent_lost : w.agent ≡ 0 → AgentAt None (deliver w k (Some y)).world × ((deliver w k (Some y)).lines ≡ heard_line k None ∷ [])
  agent_lost none =
      let t : nat_eq w.agent 0 ≡ true = grind (arith, nat_tests, none) in
      subst (λ q. AgentAt None (step_at w k y q).world × ((step_at w k y q).lines ≡ Lost k ∷ [])) (sym to)
      (subst (λ b. AgentAt None (elim b as (λ _. Step) [ true ↦ done w (Lost k ∷ []) | false ↦ hears w k (agent_party w) y ]).world × ((elim b as (λ _. Step) [ true ↦ done w (Lost k ∷ []) | false ↦ hears w k (agent_party w) y ]).lines ≡ Lost k ∷ [])) (sym t)
      (at_agent_settles None w none, refl))

  pub agent_heard : (heard : Heard) (g g' : Agent) → IsAgent g w → HeardAgent y heard g' w → AgentAt (Some g') (deliver w k (Some y)).world × ((deliver w k (Some y)).lines ≡ heard_line k (Some heard) ∷ [])
  agent_heard heard g g' h s =
      let v = with_net w (with_links w.net (set_at w.net.links (agent_party w) y.from.id (heard_at w (agent_party w) y).link)) in
      let now : IsAgent g' (settled v) = settled_where v (IsAgent g') (λ t. let bad : true ≡ false = sym t ∙ h.runs in cc) (λ _. s.agent) in
      subst (λ q. AgentAt (Some g') (step_at w k y q).world × ((step_at w k y q).lines ≡ Came k heard.fresh heard.what ∷ [])) (sym to)
      (subst (λ b. AgentAt (Some g') (elim b as (λ _. Step) [ true ↦ done w (Lost k ∷ []) | false ↦ hears w k (agent_party w) y ]).world × ((elim b as (λ _. Step) [ true ↦ done w (Lost k ∷ []) | false ↦ hears w k (agent_party w) y ]).lines ≡ Came k heard.fresh heard.what ∷ [])) (sym h.runs)
      (now, λ i. Came k (sym s.fresh i) (sym s.what i) ∷ []))

-- To an application
module _ (w : World) (k : ℕ) (y : Packet) (a : ℕ) (to : y.to.id ≡ app_id a) where
  pub agent_stays : (o : Option Agent) → AgentAt o w → AgentAt o (deliver w k (Some y)).world
  agent_stays o h = subst (λ q. AgentAt o (step_at w k y q).world) (sym to) (by (nat_eq (w.apps a) 0))
    where
      same : (o : Option Agent) → AgentAt o w → AgentAt o (with_net w (with_links w.net (set_at w.net.links (app_party w a) y.from.id (heard_at w (app_party w a) y).link)))
      same (Some g) h = record { boot = h.boot; runs = h.runs; peers = h.peers }
      same None h = h

      by : (b : Bool) → AgentAt o (elim b as (λ _. Step) [ true ↦ done w (Lost k ∷ []) | false ↦ hears w k (app_party w a) y ]).world
      by true = at_agent_settles o w h
      by false = at_agent_settles o (with_net w (with_links w.net (set_at w.net.links (app_party w a) y.from.id (heard_at w (app_party w a) y).link))) (same o h)

  pub app_lost : (apps : List (Option Ends)) → get_or apps a None ≡ None → AppsAt apps w → AppsAt apps (deliver w k (Some y)).world × ((deliver w k (Some y)).lines ≡ heard_line k None ∷ [])
  app_lost apps none h =
      let zero_is : w.apps a ≡ 0 = subst (λ o. AppOf o w a) none (h a) in
      let t : nat_eq (w.apps a) 0 ≡ true = grind (arith, nat_tests, zero_is) in
      subst (λ q. AppsAt apps (step_at w k y q).world × ((step_at w k y q).lines ≡ Lost k ∷ [])) (sym to)
      (subst (λ b. AppsAt apps (elim b as (λ _. Step) [ true ↦ done w (Lost k ∷ []) | false ↦ hears w k (app_party w a) y ]).world × ((elim b as (λ _. Step) [ true ↦ done w (Lost k ∷ []) | false ↦ hears w k (app_party w a) y ]).lines ≡ Lost k ∷ [])) (sym t)
      (apps_settle apps w h, refl))

  module _ (apps apps' : List (Option Ends)) (d d' : Ends) (heard : Heard) (was : get_or apps a None ≡ Some d) (here : get_or apps' a None ≡ Some d') (others : (c : ℕ) → c ≢ a → get_or apps' c None ≡ get_or apps c None) (h : AppsAt apps w) (from : y.from.id ≡ agent_id)
      (s : HearsAs d' heard (app_party w a) agent_id (app_link w a) w.net.histories y) where
    there : IsAppOf d w a
    there = subst (λ o. AppOf o w a) was (h a)

    abbrev as_heard : Id → HeardThere
    as_heard f = hear_running (w.apps a) (length (w.net.histories (app_party w a) f)) (w.net.links (app_party w a) f) y

    abbrev world_of : Id → World
    world_of f = with_net w (with_links w.net (set_at w.net.links (app_party w a) f (as_heard f).link))

    abbrev v : World
    v = world_of agent_id

    link_here : app_link v a ≡ (as_heard agent_id).link
    link_here = ap (λ b. elim b as (λ _. Link) [ true ↦ (as_heard agent_id).link | false ↦ app_link w a ]) (λ i. party_itself (app_party w a) i && true)

    apart : (c : ℕ) → nat_eq c a ≡ false → c ≢ a
    apart c t = λ e. let bad : nat_eq c a ≡ true = grind (arith, nat_tests, e) in let both : true ≡ false = sym bad ∙ t in cc

    link_there : (c : ℕ) → nat_eq c a ≡ false → app_link v c ≡ app_link w c
    link_there c t = ap (λ b. elim ((b && nat_eq (w.apps a) (w.apps c)) && true) as (λ _. Link) [ true ↦ (as_heard agent_id).link | false ↦ app_link w c ]) (eq_turned a c ∙ t)

    at : (c : ℕ) (t : Bool) → nat_eq c a ≡ t → AppOf (get_or apps' c None) v c
    at c true t = subst (λ n. AppOf (get_or apps' n None) v n) (sym (number_is c a t)) (subst (λ o. AppOf o v a) (sym here)
        (record { ends = subst (λ l. IsEnd d' (app_party w a) agent_id l w.net.histories) (sym link_here) s.ends; runs = there.runs }))
    at c false t = subst (λ o. AppOf o v c) (sym (others c (apart c t))) (subst (λ l. AppAt (get_or apps c None) (w.apps c) c l w.net.histories) (sym (link_there c t)) (h c))

    abbrev Whole : Id → Type 0
    Whole f = AppsAt apps' (settled (world_of f)) × (Came k (as_heard f).fresh (as_heard f).what ∷ [] ≡ Came k heard.fresh heard.what ∷ [])

    whole : Whole agent_id
    whole = (apps_settle apps' v (λ c. at c (nat_eq c a) refl), λ i. Came k (sym s.fresh i) (sym s.what i) ∷ [])

    pub app_heard : AppsAt apps' (deliver w k (Some y)).world × ((deliver w k (Some y)).lines ≡ heard_line k (Some heard) ∷ [])
    app_heard =
        subst (λ q. AppsAt apps' (step_at w k y q).world × ((step_at w k y q).lines ≡ Came k heard.fresh heard.what ∷ [])) (sym to)
        (subst (λ b. AppsAt apps' (elim b as (λ _. Step) [ true ↦ done w (Lost k ∷ []) | false ↦ hears w k (app_party w a) y ]).world × ((elim b as (λ _. Step) [ true ↦ done w (Lost k ∷ []) | false ↦ hears w k (app_party w a) y ]).lines ≡ Came k heard.fresh heard.what ∷ [])) (sym there.runs)
        (subst Whole (sym from) whole))

pub app_is : (apps : List (Option Ends)) (w : World) (a : ℕ) (d : Ends) → get_or apps a None ≡ Some d → AppsAt apps w → IsAppOf d w a
app_is apps w a d was h = subst (λ o. AppOf o w a) was (h a)
