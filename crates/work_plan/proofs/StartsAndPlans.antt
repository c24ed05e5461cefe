-- What starts, counts and plans make of all that runs.
use Rattle.std.proofs.Common.{◌≡◌, ◌≢◌, ℕ, zero, suc, ◌+◌, ◌-◌, ◌<◌, ◌≤◌, Bool, true, false, cond, nat_eq, nat_lt, List, [], ◌++◌, length, Option, Some, None, Result, Ok, Err, OnOk, get_or, slice_get, refl, sym, ◌∙◌, ap, subst, arith, append-nil}
use Rattle.std.proofs.lemmas.Bool.Decides.{nat_tests}
use Rattle.fuxi_terms.specs.Tallies.{TallyRecord, ChangeRecord}
use Rattle.full_sync.specs.Turns.{Endpoint}
use Rattle.schedule_unit.specs.declared.party.AppNo.{AppNo}
use Rattle.schedule_unit.specs.declared.party.UnitNo.{UnitNo}
use Rattle.spec_net.specs.Net.{Packet}
use Rattle.work_plan.proofs.PacketDelivered.{events_delivered}
use Rattle.work_plan.specs.Ends.{Sets}
use Rattle.work_plan.specs.WorkEvents.{Step, act, agent_packets, agent_starts, app_packets, app_starts, counted, deliver, deliveries, done, plan_set, plan_with, refused, row_set, sends, with_net, work_step}
use Rattle.work_plan.specs.WorkLines.{NoPacket, NotRising, NotRunning}
use Rattle.work_plan.specs.WorkSettling.{settled, settled_all}
use Rattle.work_plan.specs.GivenEvents.{IsGiven}
use Rattle.work_plan.specs.WorkRuns.{most_work_packets}
use Rattle.work_plan.specs.WorkStates.{After}
use Rattle.work_plan.specs.AgentWithApps.{World, empty_world}
use Rattle.work_plan.specs.declared.event.WorkEvent.{WorkEvent}
use Rattle.work_plan.specs.declared.event.WorkEvent.TheVariants as event
use Rattle.work_plan.specs.WorkMoves.{StartsApp}
use Rattle.work_plan.specs.WorkSteps.{Acts, StepsTo, StopsAs, Takes, stopped}
use Rattle.work_plan.specs.declared.stop.WorkStop.{WorkStop}
use Rattle.work_plan.specs.declared.stop.WorkStop.TheVariants.{TooManyPackets, OutOfMemory}
use Rattle.work_plan.proofs.RangesDelivered.{as_many}
use Rattle.work_plan.specs.WorkWorlds.{AgentAt, AppOf, AppsAt, Carries, IsAgent, IsFresh, IsKept, IsReached, Stands}
use Rattle.work_plan.specs.declared.parts.Agent.{Agent}
use Rattle.work_plan.specs.declared.working.Working.{Working}
use Rattle.work_plan.proofs.Agents.{apps_settle, at_agent_settles, carries_settle, events_settle, settled_where}
use Rattle.work_plan.proofs.Events.{agent_planned, app_started, apps_planned, carries_planned, fresh_app_started}

abbrev Ends : Type 0
Ends = Endpoint TallyRecord ChangeRecord TallyRecord

-- an event that prints nothing, behind which the agent settles
quietly : (r : Working) (v : World) (before : List ℕ) → r.events ≡ v.events → AgentAt r.agent (settled v) → AppsAt r.apps.items v → Carries r.packets.items v → StepsTo (done v []) r before before
quietly r v before events agent apps carries = record {
  stands = record { events = events ∙ sym (events_settle v); agent = agent; apps = apps_settle r.apps.items v apps; carries = carries_settle r.packets.items v carries };
  text = sym (append-nil before);
}

all_settled : (g : Agent) (v : World) → nat_eq v.agent 0 ≡ false → IsAgent g (settled_all v) → IsAgent g (settled v)
all_settled g v runs h = settled_where v (IsAgent g) (λ t. let bad : true ≡ false = sym t ∙ runs in cc) (λ _. h)

pub agent_begun : (r r' : Working) (w : World) (b : ℕ) (g : Agent) (before : List ℕ) → Stands r w → w.agent < b → r'.events ≡ r.events → r'.agent ≡ Some g → IsAgent g (settled_all (agent_starts b w)) → r'.apps.items ≡ r.apps.items → r'.packets.items ≡ r.packets.items → StepsTo (act w (event.Agent b)) r' before before
agent_begun r r' w b g before s lt events is agent apps packets =
    let rises : nat_lt w.agent b ≡ true = grind (arith, nat_tests, lt) in
    let v = agent_starts b w in
    let runs : nat_eq b 0 ≡ false = grind (arith, nat_tests, lt) in
    let fresh : IsFresh v = record { agent = λ c q more. s.carries.fresh.agent c q (omega (arith, lt, more)); apps = s.carries.fresh.apps } in
    subst (λ t. StepsTo (elim t as (λ _. Step) [ true ↦ done v [] | false ↦ refused w (NotRising w.agent) ]) r' before before) (sym rises)
    (quietly r' v before (events ∙ s.events) (subst (λ o. AgentAt o (settled v)) (sym is) (all_settled g v runs agent)) (subst (λ xs. AppsAt xs v) (sym apps) s.apps)
    (subst (λ ps. Carries ps v) (sym packets) (record { fresh = fresh; packets = s.carries.packets; brought = s.carries.brought; between = s.carries.between })))

pub app_begun : (r r' : Working) (w : World) (app : AppNo) (b : ℕ) (before : List ℕ) → Stands r w → w.apps app.0 < b → r'.events ≡ r.events → r'.agent ≡ r.agent → StartsApp app.0 b r.apps.items r'.apps.items → r'.packets.items ≡ r.packets.items → StepsTo (act w (event.App app b)) r' before before
app_begun r r' w app b before s lt events agent starts packets =
    let rises : nat_lt (w.apps app.0) b ≡ true = grind (arith, nat_tests, lt) in
    let v = app_starts app.0 b w in
    subst (λ t. StepsTo (elim t as (λ _. Step) [ true ↦ done v [] | false ↦ refused w (NotRising (w.apps app.0)) ]) r' before before) (sym rises)
    (quietly r' v before (events ∙ s.events) (subst (λ o. AgentAt o (settled v)) (sym agent) (at_agent_settles r.agent v (same r.agent s.agent))) (app_started r.apps.items r'.apps.items app.0 b w starts lt s.carries.fresh s.apps)
    (subst (λ ps. Carries ps v) (sym packets) (record { fresh = fresh_app_started app.0 b w lt s.carries.fresh; packets = s.carries.packets; brought = s.carries.brought; between = s.carries.between })))
  where
    same : (o : Option Agent) → AgentAt o w → AgentAt o (app_starts app.0 b w)
    same (Some g) h = record { boot = h.boot; runs = h.runs; peers = h.peers }
    same None h = h

pub agent_counted : (r r' : Working) (w : World) (app : AppNo) (unit : UnitNo) (n : ℕ) (g : Agent) (before : List ℕ) → Stands r w → nat_eq w.agent 0 ≡ false → r'.events ≡ r.events → r'.agent ≡ Some g → IsAgent g (settled_all (row_set app.0 unit.0 n w)) → r'.apps.items ≡ r.apps.items → r'.packets.items ≡ r.packets.items
    → StepsTo (act w (event.Row app unit n)) r' before before
agent_counted r r' w app unit n g before s runs events is agent apps packets =
    let v = row_set app.0 unit.0 n w in
    subst (λ t. StepsTo (elim t as (λ _. Step) [ true ↦ refused w NotRunning | false ↦ done v [] ]) r' before before) (sym runs)
    (quietly r' v before (events ∙ s.events) (subst (λ o. AgentAt o (settled v)) (sym is) (all_settled g v runs agent)) (subst (λ xs. AppsAt xs v) (sym apps) s.apps)
    (subst (λ ps. Carries ps v) (sym packets) (record { fresh = record { agent = s.carries.fresh.agent; apps = s.carries.fresh.apps }; packets = s.carries.packets; brought = s.carries.brought; between = s.carries.between })))

pub app_planned : (r r' : Working) (w : World) (app : AppNo) (unit : UnitNo) (n : ℕ) (wanted : Bool) (old new : Ends) (before : List ℕ) → Stands r w → nat_eq (w.apps app.0) 0 ≡ false → r'.events ≡ r.events → r'.agent ≡ r.agent → Sets (plan_with old.outgoing.present unit.0 n wanted) old new
    → get_or r.apps.items app.0 None ≡ Some old → get_or r'.apps.items app.0 None ≡ Some new → ((c : ℕ) → c ≢ app.0 → get_or r'.apps.items c None ≡ get_or r.apps.items c None) → r'.packets.items ≡ r.packets.items → StepsTo (act w (event.Plan app unit n wanted)) r' before before
app_planned r r' w app unit n wanted old new before s runs events agent sets was is others packets =
    let v = plan_set app.0 unit.0 n wanted w in
    subst (λ t. StepsTo (elim t as (λ _. Step) [ true ↦ refused w NotRunning | false ↦ done v [] ]) r' before before) (sym runs)
    (quietly r' v before (events ∙ s.events) (subst (λ o. AgentAt o (settled v)) (sym agent) (at_agent_settles r.agent v (agent_planned app.0 unit.0 n wanted w r.agent s.agent)))
    (apps_planned app.0 unit.0 n wanted w r.apps.items r'.apps.items old new sets was is others s.apps)
    (subst (λ ps. Carries ps v) (sym packets) (carries_planned app.0 unit.0 n wanted w r.packets.items s.carries)))

pub stopped_well : {E : Type 0} (P : Type 0) (made : Result (Unit {0}) E) (told : Result (Unit {0}) WorkStop) → told ≡ stopped made → OnOk made P → OnOk told P
stopped_well P (Ok done) told e h = subst (λ r. OnOk r P) (sym e) h
stopped_well P (Err refusal) told e h = subst (λ r. OnOk r P) (sym e) tt

pub begun : (r : Working) → r.events ≡ 0 → r.agent ≡ None → r.apps.items ≡ [] → r.packets.items ≡ [] → Stands r empty_world
begun r events agent apps packets = record {
  events = events;
  agent = subst (λ o. AgentAt o empty_world) (sym agent) refl;
  apps = λ a. subst (λ (xs : List (Option Ends)). AppOf (get_or xs a None) empty_world a) (sym apps) refl;
  carries = subst (λ ps. Carries ps empty_world) (sym packets) (record { fresh = record { agent = λ b q lt. refl; apps = λ a b lt. refl }; packets = refl; brought = tt; between = tt });
}

-- an event counts
pub counted_stands : (r r' : Working) (w : World) → Stands r w → r'.events ≡ r.events + 1 → r'.agent ≡ r.agent → r'.apps.items ≡ r.apps.items → r'.packets.items ≡ r.packets.items → Stands r' (counted w)
counted_stands r r' w s events agent apps packets = record {
  events = events ∙ ap (λ n. n + 1) s.events;
  agent = subst (λ o. AgentAt o (counted w)) (sym agent) (same r.agent s.agent);
  apps = subst (λ xs. AppsAt xs (counted w)) (sym apps) s.apps;
  carries = subst (λ ps. Carries ps (counted w)) (sym packets) (record { fresh = record { agent = s.carries.fresh.agent; apps = s.carries.fresh.apps }; packets = s.carries.packets; brought = s.carries.brought; between = s.carries.between });
}
  where
    same : (o : Option Agent) → AgentAt o w → AgentAt o (counted w)
    same (Some g) h = record { boot = h.boot; runs = h.runs; peers = h.peers }
    same None h = h

module _ (r r1 : Working) (e : WorkEvent) (events : r1.events ≡ r.events + 1) (agent : r1.agent ≡ r.agent) (apps : r1.apps.items ≡ r.apps.items) (packets : r1.packets.items ≡ r.packets.items) where
  now : (w : World) → Stands r w → Stands r1 (counted w)
  now w s = counted_stands r r1 w s events agent apps packets

  pub step_taken : (r' : Working) (before after : List ℕ) → Acts (λ w. act w e) r1 r' before after → length r'.packets.items ≤ most_work_packets → (w : World) → Stands r w → Takes e r' before after w
  step_taken r' before after acts few w s =
      let t = acts (counted w) (now w s) in
      let many = as_many r' (work_step w e).world t.stands in
      let within : nat_lt most_work_packets (length (work_step w e).world.net.packets) ≡ false = grind (arith, nat_tests, many, few) in
      record { steps = t; within = ap (λ b. cond b (Some (length w.net.packets)) None) within }

  pub step_reached : (r' : Working) (before after : List ℕ) → Acts (λ w. act w e) r1 r' before after → length r'.packets.items ≤ most_work_packets → IsGiven e → IsReached r → IsReached r'
  step_reached r' before after acts few given h =
      let t = acts (counted h.world) (now h.world h.stands) in
      record { world = (work_step h.world e).world; is = After h.world e h.is given; stands = t.stands; few = few }

  pub step_stops : (stop : WorkStop) → StopsAs (λ w. act w e) r1 stop → StopsAs (λ w. work_step w e) r stop
  step_stops (TooManyPackets kept) h = λ w s. h (counted w) (now w s)
  step_stops OutOfMemory h = tt

  pub step_kept : IsReached r → IsKept r1
  step_kept h = (counted h.world, now h.world h.stands)

-- an event is one more
either_step : (b : Bool) (x y : Step) (n : ℕ) → x.world.events ≡ n → y.world.events ≡ n → (elim b as (λ _. Step) [ true ↦ x | false ↦ y ]).world.events ≡ n
either_step true x y n p q = p
either_step false x y n p q = q

delivered_events : (w : World) (k : ℕ) (o : Option Packet) → (deliver w k o).world.events ≡ w.events
delivered_events w k None = refl
delivered_events w k (Some y) = events_delivered w k y

range_events : (m : ℕ) (w : World) (k : ℕ) → (deliveries w k m).world.events ≡ w.events
range_events zero w k = refl
range_events (suc m) w k = range_events m (deliver w k (slice_get w.net.packets (k - 1))).world (k + 1) ∙ delivered_events w k (slice_get w.net.packets (k - 1))

act_events : (w : World) (e : WorkEvent) → (act w e).world.events ≡ w.events
act_events w (event.Agent b) = either_step (nat_lt w.agent b) (done (agent_starts b w) []) (refused w (NotRising w.agent)) w.events (events_settle (agent_starts b w)) refl
act_events w (event.App a b) = either_step (nat_lt (w.apps a.0) b) (done (app_starts a.0 b w) []) (refused w (NotRising (w.apps a.0))) w.events (events_settle (app_starts a.0 b w)) refl
act_events w (event.Row a u n) = either_step (nat_eq w.agent 0) (refused w NotRunning) (done (row_set a.0 u.0 n w) []) w.events refl (events_settle (row_set a.0 u.0 n w))
act_events w (event.Plan a u n wanted) = either_step (nat_eq (w.apps a.0) 0) (refused w NotRunning) (done (plan_set a.0 u.0 n wanted w) []) w.events refl (events_settle (plan_set a.0 u.0 n wanted w))
act_events w event.TurnAgent = either_step (nat_eq w.agent 0) (refused w NotRunning) (sends w (agent_packets w)) w.events refl (events_settle (with_net w (record { links = w.net.links; histories = w.net.histories; packets = w.net.packets ++ agent_packets w })))
act_events w (event.TurnApp a) = either_step (nat_eq (w.apps a.0) 0) (refused w NotRunning) (sends w (app_packets w a.0)) w.events refl (events_settle (with_net w (record { links = w.net.links; histories = w.net.histories; packets = w.net.packets ++ app_packets w a.0 })))
act_events w (event.Deliver k) = either_step (nat_lt (length w.net.packets) k) (refused w (NoPacket (length w.net.packets))) (deliver w k (slice_get w.net.packets (k - 1))) w.events refl (delivered_events w k (slice_get w.net.packets (k - 1)))
act_events w (event.DeliverRange k l) = either_step (nat_lt (length w.net.packets) l) (refused w (NoPacket (length w.net.packets))) (deliveries w k (l - k + 1)) w.events refl (range_events (l - k + 1) w k)
act_events w event.Show = refl

pub step_events : (r r1 : Working) (e : WorkEvent) → r1.events ≡ r.events + 1 → r1.agent ≡ r.agent → r1.apps.items ≡ r.apps.items → r1.packets.items ≡ r.packets.items → (r' : Working) (before after : List ℕ) → Acts (λ w. act w e) r1 r' before after → IsReached r → r'.events ≡ r.events + 1
step_events r r1 e events agent apps packets r' before after acts h =
    let t = acts (counted h.world) (counted_stands r r1 h.world h.stands events agent apps packets) in
    t.stands.events ∙ act_events (counted h.world) e ∙ ap (λ n. n + 1) (sym h.stands.events)
