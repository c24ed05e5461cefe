-- Every world to which events lead runs as planned.
use Rattle.std.proofs.Common.{◌≡◌, ℕ, zero, suc, ◌+◌, ◌-◌, ◌<◌, ◌≤◌, Bool, true, false, cond, nat_eq, nat_lt, List, [], ◌∷◌, ◌++◌, length, Option, Some, None, slice_get, refl, sym, ◌∙◌, ap, subst, arith}
use Rattle.std.specs.Prelude.{◌&&◌}
use Rattle.std.specs.List.{AllByRecursion}
use Rattle.std.specs.Option.{unwrap_or}
use Rattle.std.proofs.lemmas.List.{length-append}
use Rattle.std.proofs.lemmas.Bool.Decides.{nat_tests}
use Rattle.fuxi_terms.specs.Counts.{AreCounts, is_same}
use Rattle.fuxi_terms.specs.Keys.{key_cmp}
use Rattle.fuxi_terms.specs.Limits.{most_units}
use Rattle.fuxi_terms.specs.Tallies.{TallyRecord, empty_tally}
use Rattle.fuxi_terms.proofs.Booleans.{both_true, number_is, nat_itself}
use Rattle.fuxi_terms.proofs.CountsLemmas.{counts-set_count}
use Rattle.fuxi_terms.proofs.KeyOrders.{key_total, same_key}
use Rattle.fuxi_terms.proofs.Lists.{all_push}
use Rattle.fuxi_terms.proofs.SameEntries.{same_entries}
use Rattle.spec_net.specs.Net.{Id, Party, Link, Packet, at_index, same_id, same_party, set_at}
use Rattle.work_plan.specs.Crews.{Distinct}
use Rattle.work_plan.specs.PlanKeys.{most_workers, greatest_named, worker_key, named}
use Rattle.work_plan.specs.declared.event.WorkEvent.{WorkEvent}
use Rattle.work_plan.specs.declared.event.WorkEvent.TheVariants as event
use Rattle.work_plan.specs.AgentWithApps.{World, agent_id, app_id, agent_party, app_party, agent_link, plan_received, present}
use Rattle.work_plan.specs.WorkSettling.{published, running_of, in_force, work_after, histories_after, settled_all, settled}
use Rattle.work_plan.specs.WorkEvents.{Step, done, counted, with_net, agent_starts, app_starts, row_set, plan_with, plan_set, agent_packets, app_packets, hears, deliver, deliveries, boot_of, heard_at, act}
use Rattle.work_plan.specs.WorkLines.{Lost}
use Rattle.work_plan.specs.GivenEvents.{IsGiven}
use Rattle.work_plan.specs.WorkStates.{RunsAsPlanned, IsReached, AtStart, After}
use Rattle.work_plan.proofs.RunAfterLemmas.{runs_distinct, runs_within, runs_many}

-- each plan that was sent is a ledger of names
pub record IsNames (t : TallyRecord) : Type 0 where
  pub counts : AreCounts key_cmp greatest_named t.entries

pub record PlansSent (w : World) : Type 0 where
  pub each : (p : Party) (q : Id) → p.id.role ≡ 3 → AllByRecursion IsNames (w.net.histories p q)

-- the state between two events, where an agent runs: each plan in force is one, it is the last that came, all run as planned, and the last
-- ledger that an application is sent names those that run for it
pub record IsRunning (w : World) : Type 0 where
  pub plans : (a : ℕ) → IsNames (w.plans a)
  pub force : (a : ℕ) → in_force w a ≡ w.plans a
  pub runs : (a u : ℕ) → RunsAsPlanned w a u
  pub told : (a : ℕ) → (present (w.net.histories (agent_party w) (app_id a))).entries ≡ (running_of (w.work a)).entries

pub record IsState (w : World) : Type 0 where
  pub sent : PlansSent w
  pub running : nat_eq w.agent 0 ≡ false → IsRunning w

-- what an event may leave, before the agent settles
pub record MaySettle (w : World) : Type 0 where
  pub sent : PlansSent w
  pub plans : nat_eq w.agent 0 ≡ false → (a : ℕ) → IsNames (w.plans a)
  pub distinct : nat_eq w.agent 0 ≡ false → (a u : ℕ) → Distinct (w.work a u)

no_names : IsNames empty_tally
no_names = record { counts = record { sorted = tt; positive = tt; within = tt } }

names_at : (h : List TallyRecord) (n : ℕ) → AllByRecursion IsNames h → IsNames (at_index empty_tally h n)
names_at h zero all = no_names
names_at h (suc n) all = by h n all
  where
    by : (h : List TallyRecord) (n : ℕ) → AllByRecursion IsNames h → IsNames (unwrap_or (slice_get h n) empty_tally)
    by [] n all = no_names
    by (t ∷ ts) zero all = all.0
    by (t ∷ ts) (suc n) all = by ts n all.1

-- the plan in force is a ledger of names
force_names : (w : World) → PlansSent w → ((a : ℕ) → IsNames (w.plans a)) → (a : ℕ) → IsNames (in_force w a)
force_names w sent plans a = elim (nat_eq (agent_link w a).seq 0) as (λ b. IsNames (elim b as (λ _. TallyRecord) [ true ↦ w.plans a | false ↦ plan_received w a ])) [
  | true ↦ plans a
  | false ↦ names_at (w.net.histories (record { id = app_id a; inc = (agent_link w a).known }) agent_id) (agent_link w a).seq (sent.each (record { id = app_id a; inc = (agent_link w a).known }) agent_id refl)
]

-- a plan names each worker of a unit once
module _ (once : (t : TallyRecord) (u : ℕ) → IsNames t → Distinct (named u t.entries)) where
  -- the last entry, once it is published
  last_is : (h : List TallyRecord) (t : TallyRecord) → at_index empty_tally (h ++ t ∷ []) (length (h ++ t ∷ [])) ≡ t
  last_is h t = ap (at_index empty_tally (h ++ t ∷ [])) (length-append h (t ∷ []) ∙ one_more (length h)) ∙ ap (λ o. unwrap_or o empty_tally) (got h)
    where
      one_more : (n : ℕ) → n + 1 ≡ suc n
      one_more n = omega arith

      got : (h : List TallyRecord) → slice_get (h ++ t ∷ []) (length h) ≡ Some t
      got [] = refl
      got (x ∷ xs) = got xs

  published_told : (h : List TallyRecord) (t : TallyRecord) → (present (published h t)).entries ≡ t.entries
  published_told h t = elim (is_same key_cmp (present h).entries t.entries) as (λ b. is_same key_cmp (present h).entries t.entries ≡ b → (present (elim b as (λ _. List TallyRecord) [ true ↦ h | false ↦ h ++ t ∷ [] ])).entries ≡ t.entries) [
    | true ↦ λ same. same_entries key_cmp same_key (present h).entries t.entries same
    | false ↦ λ _. ap (λ (x : TallyRecord). x.entries) (last_is h t)
  ] refl

  at_agent : (w : World) (a : ℕ) → histories_after w (agent_party w) (app_id a) ≡ published (w.net.histories (agent_party w) (app_id a)) (running_of (work_after w a))
  at_agent w a = ap (λ b. elim b as (λ _. List TallyRecord) [ true ↦ published (w.net.histories (agent_party w) (app_id a)) (running_of (work_after w a)) | false ↦ w.net.histories (agent_party w) (app_id a) ]) (itself w.agent)
    where
      itself : (n : ℕ) → ((true && nat_eq n n) && true) ≡ true
      itself n = ap (λ b. b && true) (nat_itself n)

  of_app : (w : World) (p : Party) (q : Id) → p.id.role ≡ 3 → histories_after w p q ≡ w.net.histories p q
  of_app w p q r = elim (same_party p (agent_party w) && nat_eq q.role 3) as (λ b. (same_party p (agent_party w) && nat_eq q.role 3) ≡ b → elim b as (λ _. List TallyRecord) [ true ↦ published (w.net.histories p q) (running_of (work_after w q.number)) | false ↦ w.net.histories p q ] ≡ w.net.histories p q) [
    | true ↦ λ t.
        let same = (both_true (same_party p (agent_party w)) (nat_eq q.role 3) t).0 in
        let ids = (both_true (same_id p.id agent_id) (nat_eq p.inc w.agent) same).0 in
        let role = number_is p.id.role 2 (both_true (nat_eq p.id.role 2) (nat_eq p.id.number 0) ids).0 in
        absurd (let f : 2 ≡ 3 = sym role ∙ r in omega (arith, f))
    | false ↦ λ _. refl
  ] refl

  settles : (w : World) → MaySettle w → IsState (settled w)
  settles w m = elim (nat_eq w.agent 0) as (λ b. nat_eq w.agent 0 ≡ b → IsState (elim b as (λ _. World) [ true ↦ w | false ↦ settled_all w ])) [
    | true ↦ λ t. record { sent = m.sent; running = λ f. let bad : true ≡ false = sym t ∙ f in cc }
    | false ↦ λ t.
        let plans = force_names w m.sent (m.plans t) in
        record {
          sent = record { each = λ p q r. subst (AllByRecursion IsNames) (sym (of_app w p q r)) (m.sent.each p q r) };
          running = λ _. record {
            plans = plans;
            force = λ a. still w a;
            runs = λ a u.
                let d = m.distinct t a u in
                let o = once (in_force w a) u (plans a) in
                record {
                  distinct = runs_distinct (w.work a u) (named u (in_force w a).entries) (w.counts a u) d o;
                  wanted = runs_within (w.work a u) (named u (in_force w a).entries) (w.counts a u) d o;
                  many = runs_many (w.work a u) (named u (in_force w a).entries) (w.counts a u) d o;
                };
            told = λ a. ap (λ h. (present h).entries) (at_agent w a) ∙ published_told (w.net.histories (agent_party w) (app_id a)) (running_of (work_after w a));
          };
        }
  ] refl
    where
      still : (w : World) (a : ℕ) → in_force (settled_all w) a ≡ in_force w a
      still w a = elim (nat_eq (agent_link w a).seq 0) as (λ b. nat_eq (agent_link w a).seq 0 ≡ b → elim b as (λ _. TallyRecord) [ true ↦ in_force w a | false ↦ plan_received (settled_all w) a ] ≡ in_force w a) [
        | true ↦ λ _. refl
        | false ↦ λ t.
            ap (λ h. at_index empty_tally h (agent_link w a).seq) (of_app w (record { id = app_id a; inc = (agent_link w a).known }) agent_id refl)
            ∙ sym (ap (λ b. elim b as (λ _. TallyRecord) [ true ↦ w.plans a | false ↦ plan_received w a ]) t)
      ] refl

  may : (w : World) → IsState w → MaySettle w
  may w s = record { sent = s.sent; plans = λ t. (s.running t).plans; distinct = λ t a u. ((s.running t).runs a u).distinct }

  -- an application's plan with a worker named or not
  plan_names : (t : TallyRecord) (u n : ℕ) (wanted : Bool) → u < most_units → n < most_workers → IsNames t → IsNames (plan_with t u n wanted)
  plan_names t u n wanted lu ln h = record { counts = counts-set_count key_total greatest_named same_key t.entries (worker_key u n) (cond wanted 1 0) (fits wanted) h.counts }
    where
      fits : (b : Bool) → cond b 1 0 ≤ greatest_named (worker_key u n)
      fits true = grind (arith, nat_tests)
      fits false = omega arith

  published_names : (h : List TallyRecord) (t : TallyRecord) → AllByRecursion IsNames h → IsNames t → AllByRecursion IsNames (published h t)
  published_names h t all is = elim (is_same key_cmp (present h).entries t.entries) as (λ b. AllByRecursion IsNames (elim b as (λ _. List TallyRecord) [ true ↦ h | false ↦ h ++ t ∷ [] ])) [ true ↦ all | false ↦ all_push IsNames h t all is ]

  plan_may : (w : World) (a u n : ℕ) (wanted : Bool) → u < most_units → n < most_workers → IsState w → MaySettle (plan_set a u n wanted w)
  plan_may w a u n wanted lu ln s =
      let h = w.net.histories (app_party w a) agent_id in
      let own = s.sent.each (app_party w a) agent_id refl in
      let more = published_names h (plan_with (present h) u n wanted) own (plan_names (present h) u n wanted lu ln (names_at h (length h) own)) in
      record {
        sent = record { each = λ p q r. elim (same_party (app_party w a) p && same_id agent_id q) as (λ b. AllByRecursion IsNames (elim b as (λ _. List TallyRecord) [ true ↦ published h (plan_with (present h) u n wanted) | false ↦ w.net.histories p q ])) [ true ↦ more | false ↦ s.sent.each p q r ] };
        plans = λ t. (s.running t).plans;
        distinct = λ t a u. ((s.running t).runs a u).distinct;
      }

  agent_may : (b : ℕ) (w : World) → IsState w → MaySettle (agent_starts b w)
  agent_may b w s = record { sent = record { each = s.sent.each }; plans = λ _ a. no_names; distinct = λ _ a u. tt }

  app_may : (a b : ℕ) (w : World) → IsState w → MaySettle (app_starts a b w)
  app_may a b w s = let m = may w s in record { sent = record { each = s.sent.each }; plans = m.plans; distinct = m.distinct }

  row_may : (a u n : ℕ) (w : World) → IsState w → MaySettle (row_set a u n w)
  row_may a u n w s = let m = may w s in record { sent = record { each = s.sent.each }; plans = m.plans; distinct = m.distinct }

  same_may : (w : World) (links : Party → Id → Link) (packets : List Packet) → IsState w → MaySettle (with_net w (record { links = links; histories = w.net.histories; packets = packets }))
  same_may w links packets s = let m = may w s in record { sent = record { each = s.sent.each }; plans = m.plans; distinct = m.distinct }

  delivers : (w : World) (k : ℕ) (o : Option Packet) → IsState w → IsState (deliver w k o).world
  delivers w k None s = s
  delivers w k (Some x) s = elim (nat_eq (boot_of w x.to.id) 0) as (λ b. IsState (elim b as (λ _. Step) [ true ↦ done w (Lost k ∷ []) | false ↦ hears w k (record { id = x.to.id; inc = boot_of w x.to.id }) x ]).world) [
    | true ↦ settles w (may w s)
    | false ↦ settles _ (same_may w (set_at w.net.links (record { id = x.to.id; inc = boot_of w x.to.id }) x.from.id (heard_at w (record { id = x.to.id; inc = boot_of w x.to.id }) x).link) w.net.packets s)
  ]

  all_delivered : (n : ℕ) (w : World) (k : ℕ) → IsState w → IsState (deliveries w k n).world
  all_delivered zero w k s = s
  all_delivered (suc n) w k s = all_delivered n (deliver w k (slice_get w.net.packets (k - 1))).world (k + 1) (delivers w k (slice_get w.net.packets (k - 1)) s)

  -- an event that is refused, or not
  one_of : (b : Bool) (x y : Step) → IsState x.world → IsState y.world → IsState (elim b as (λ _. Step) [ true ↦ x | false ↦ y ]).world
  one_of true x y p q = p
  one_of false x y p q = q

  acts : (w : World) (e : WorkEvent) → IsGiven e → IsState w → IsState (act w e).world
  acts w (event.Agent b) g s = one_of (nat_lt w.agent b) _ _ (settles (agent_starts b w) (agent_may b w s)) s
  acts w (event.App a b) g s = one_of (nat_lt (w.apps a.0) b) _ _ (settles (app_starts a.0 b w) (app_may a.0 b w s)) s
  acts w (event.Row a u n) g s = one_of (nat_eq w.agent 0) _ _ s (settles (row_set a.0 u.0 n w) (row_may a.0 u.0 n w s))
  acts w (event.Plan a u n wanted) g s = one_of (nat_eq (w.apps a.0) 0) _ _ s (settles (plan_set a.0 u.0 n wanted w) (plan_may w a.0 u.0 n wanted g.1 g.2 s))
  acts w event.TurnAgent g s = one_of (nat_eq w.agent 0) _ _ s (settles _ (same_may w w.net.links (w.net.packets ++ agent_packets w) s))
  acts w (event.TurnApp a) g s = one_of (nat_eq (w.apps a.0) 0) _ _ s (settles _ (same_may w w.net.links (w.net.packets ++ app_packets w a.0) s))
  acts w (event.Deliver k) g s = one_of (nat_lt (length w.net.packets) k) _ _ s (delivers w k (slice_get w.net.packets (k - 1)) s)
  acts w (event.DeliverRange k l) g s = one_of (nat_lt (length w.net.packets) l) _ _ s (all_delivered (l - k + 1) w k s)
  acts w event.Show g s = s

  counts_state : (w : World) → IsState w → IsState (counted w)
  counts_state w s = record { sent = record { each = s.sent.each }; running = λ t. let r = s.running t in record { plans = r.plans; force = r.force; runs = λ a u. let k = r.runs a u in record { distinct = k.distinct; wanted = k.wanted; many = k.many }; told = r.told } }

  pub reached_state : (w : World) → IsReached w → IsState w
  reached_state w AtStart = record { sent = record { each = λ p q r. tt }; running = λ f. let bad : true ≡ false = f in cc }
  reached_state w (After v e r g) = acts (counted v) e g (counts_state v (reached_state v r))
