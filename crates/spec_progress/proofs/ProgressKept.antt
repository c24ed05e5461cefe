-- What progress rests on holds in every state.
use Rattle.std.proofs.Common.{◌≡◌, ◌⊎◌, inl, inr, ℕ, ◌-◌, ◌<◌, ◌≤◌, Bool, true, false, cond, not, nat_eq, nat_lt, List, [], ◌∷◌, ◌++◌, length, map, Some, refl, sym, ◌∙◌, ap, subst, arith}
use Rattle.std.specs.Prelude.{⊤, ◌&&◌}
use Rattle.std.specs.Ordering.{nat_cmp, eq_by_cmp}
use Rattle.std.specs.Cmp.{nat_cmp_total}
use Rattle.std.specs.FinMap.Entries.{find, put, find-put}
use Rattle.std.proofs.lemmas.Bool.Decides.{nat_tests}
use Rattle.fuxi_terms.specs.Cluster.{ClusterRecord, has_machine}
use Rattle.fuxi_terms.specs.Limits.{most_masters}
use Rattle.fuxi_terms.specs.Jobs.{is_known, has_ended, eight_places, job_numbers, unit_count}
use Rattle.fuxi_terms.specs.Lists.{below}
use Rattle.fuxi_terms.specs.Numbers.{has_number, without_number}
use Rattle.fuxi_terms.proofs.Booleans.{either, either_case}
use Rattle.spec_net.specs.Net.{Net, Party, Id, Link, Packet, Starts, Turns, Resyncs, move, comes, heard_of, unknown, same_id, same_party}
use Rattle.spec_net.specs.Ledgers.{Ledger}
use Rattle.spec_net.specs.Channels.{master_id, agent_id, app_id, party, is_master, present, Offer, publish, to_master, send_all, resync_all, shape}
use Rattle.spec_net.specs.Sound.{PacketNames}
use Rattle.spec_net.proofs.NetLemmas.{party_is, set_at_all}
use Rattle.spec_net.proofs.BoundedLemmas.{found_within}
use Rattle.spec_net.proofs.PublishLemmas.{Leaves, leaves_nothing, leaves_then, comes_leaves, publish_leaves, publish_links, set_other, start_leaves, same_party_itself}
use Rattle.spec_roles.specs.Masters.{Master}
use Rattle.spec_roles.specs.HardState.{HardState, raised, submitted, finished, banned, unbanned, with_job}
use Rattle.spec_roles.specs.MasterSteps.{master_party, talks, peers, ready, ended_in, banned_in, new_master}
use Rattle.spec_roles.specs.Preemption.{preempted}
use Rattle.spec_roles.specs.Refusals.{Refusal, NotRising, TooManyMasters, NoMachine, NoJob, Ended}
use Rattle.spec_roles.specs.Agents.{joined_report}
use Rattle.spec_roles.specs.Apps.{changed_demand, command_key, command_number, joined_demand}
use Rattle.spec_roles.proofs.TransitionsLemmas.{ready_besides}
use Rattle.spec_world.specs.World.{World, Agent, App, top, set_boot, empty_world}
use Rattle.spec_world.specs.Parties.{offers, end_step, told, received, adopted_now, joined, agent_table, app_hears, carry}
use Rattle.spec_world.specs.Events.{Event, packet_of, given_back, agent_started, app_started, act, without_master}
use Rattle.spec_world.specs.Runs.{run}
use Rattle.spec_world.specs.Good.{Invariant}
use Rattle.spec_world.proofs.Invariant.{put_found, ready_epoch}
use Rattle.spec_world.proofs.InvariantKept.{at_start, events_hold, left_fence, not_refused, rising, told_same}
use Rattle.spec_world.proofs.LeftLemmas.{left_hard, still_runs}
use Rattle.spec_world.proofs.EventsWalk.{StepHolds, WorldKept, act_keeps_world, run_keeps_world, unasked}
use Rattle.spec_world.proofs.PartiesKept.{boots_rise}
use Rattle.spec_progress.specs.Reached.{AckReaches, AreReached}
use Rattle.spec_progress.specs.CalmStates.{CanProgress, IsDone}
use Rattle.spec_progress.proofs.ReachedLemmas.{comes_reached, joined_reached, publish_reached, resync_all_reached, send_all_reached, silent_reached, start_reached}
use Rattle.spec_progress.proofs.ReportsLemmas.{told_reports}
use Rattle.spec_progress.proofs.ReadyStays.{ready_stays}

-- with the invariant
pub record Progresses (w : World) : Type 0 where
  pub inv : Invariant w
  pub can : CanProgress w

-- a party that runs is not one that never ran
apart_above : (w : World) (p q : Party) → p.inc ≤ top w p.id → top w q.id < q.inc → same_party p q ≡ false
apart_above w p q le above = by (same_party p q) refl
  where
    by : (b : Bool) → same_party p q ≡ b → same_party p q ≡ false
    by true e = let same = party_is p q e in let lt : top w p.id < p.inc = subst (λ (r : Party). top w r.id < r.inc) (sym same) above in absurd (omega (arith, lt, le))
    by false e = e

fences : (w : World) (hard : HardState) (d : Id) → w.hard.fence ≤ hard.fence → top w d ≤ top (record w { hard = hard }) d
fences w hard d up = elim (same_id master_id d) as (λ t. cond t w.hard.fence (w.boots d) ≤ cond t hard.fence (w.boots d)) [ true ↦ up | false ↦ omega arith ]

-- a master whose links are as they were
done_same : (c : ClusterRecord) (net net' : Net Ledger) (M : Master) → ((m : ℕ) → net'.links (master_party M) (agent_id m) ≡ net.links (master_party M) (agent_id m)) → IsDone c net M → IsDone c net' M
done_same c net net' M same d = record { counted = d.counted; done = d.done; reports = λ m some. d.reports m (subst (λ (l : Link). 1 ≤ l.seq) (same m) some) }

-- A step of one party on the net: what is received from agents stays as it was
acted : (w : World) (net : Net Ledger) (p : Party) → CanProgress w → p.inc ≤ top w p.id → AreReached net → ((p' : Party) (q : Id) → same_party p p' ≡ false → net.links p' q ≡ w.net.links p' q)
    → ((e : ℕ) (M : Master) → find nat_cmp e w.masters ≡ Some M → (m : ℕ) → (net.links (master_party M) (agent_id m)).seq ≡ (w.net.links (master_party M) (agent_id m)).seq) → CanProgress (record w { net = net })
acted w net p h own reached others places = record {
  reached = reached;
  unstarted = λ p' q above. others p' q (apart_above w p p' own above) ∙ h.unstarted p' q above;
  masters = λ e M f. let d = h.masters e M f in record { counted = d.counted; done = d.done; reports = λ m some. d.reports m (let z = places e M f m in omega (arith, z, some)) };
  agents = h.agents;
  apps = h.apps;
}

-- what runs is not above the last boot or the fence
master_below : (w : World) (e : ℕ) (M : Master) → Invariant w → find nat_cmp e w.masters ≡ Some M → M.epoch ≤ w.hard.fence
master_below w e M inv f = let k = inv.masters e M f in let a = k.epoch in let b = k.ran in omega (arith, a, b)

put_itself : (k : ℕ) (M : Master) (es : List (ℕ × Master)) → find nat_cmp k (put nat_cmp k M es) ≡ Some M
put_itself k M es = find-put nat_cmp nat_cmp_total k k M es ∙ ap (λ b. cond b (Some M) (find nat_cmp k es)) (let t : eq_by_cmp nat_cmp k k ≡ true = grind (arith, nat_tests) in t)

-- The end of a master's step
ends : (w : World) (hard : HardState) (ran : List Party) (net : Net Ledger) (N : Master) (even_if_equal : List Id) → Progresses w → Invariant (end_step (record w { hard = hard; ran = ran }) net N even_if_equal) → w.hard.fence ≤ hard.fence → N.epoch ≤ hard.fence → 1 ≤ N.epoch
    → AreReached net → Leaves (master_party N) w.net net → ((m : ℕ) → 1 ≤ (net.links (master_party N) (agent_id m)).seq → has_number m N.reported ≡ true) → CanProgress (end_step (record w { hard = hard; ran = ran }) net N even_if_equal)
ends w hard ran net N even_if_equal h inv up own some reached l reports = record {
  reached = publish_reached net (master_party (ready w.cluster N)) (offers w.cluster net (ready w.cluster N) even_if_equal) reached;
  unstarted = λ p q above. ap (λ (ls : Party → Id → Link). ls p q) links ∙ l.links p q (apart p above) ∙ h.can.unstarted p q (let u = fences w hard p.id up in omega (arith, u, above));
  masters = λ e M f. by e M (put_found e (ready w.cluster N).epoch (ready w.cluster N) M w.masters f);
  agents = h.can.agents;
  apps = h.can.apps;
}
  where
    epoch : (ready w.cluster N).epoch ≡ N.epoch
    epoch = ready_epoch w.cluster N

    links : (publish net (master_party (ready w.cluster N)) (offers w.cluster net (ready w.cluster N) even_if_equal)).links ≡ net.links
    links = publish_links net (master_party (ready w.cluster N)) (offers w.cluster net (ready w.cluster N) even_if_equal)

    apart : (p : Party) → top (record w { hard = hard }) p.id < p.inc → same_party (master_party N) p ≡ false
    apart p above = apart_above (record w { hard = hard }) (master_party N) p own above

    rests : ready w.cluster (ready w.cluster N) ≡ ready w.cluster N
    rests = ready_stays w.cluster N (inv.masters (ready w.cluster N).epoch (ready w.cluster N) (put_itself (ready w.cluster N).epoch (ready w.cluster N) w.masters)).bounded

    by : (e : ℕ) (M : Master) → ((nat_eq (ready w.cluster N).epoch e ≡ false) × (find nat_cmp e w.masters ≡ Some M)) ⊎ ((e ≡ (ready w.cluster N).epoch) × (ready w.cluster N ≡ M)) → IsDone w.cluster (publish net (master_party (ready w.cluster N)) (offers w.cluster net (ready w.cluster N) even_if_equal)) M
    by e M (inl o) =
        let k = h.inv.masters e M o.1 in
        let other : same_party (master_party N) (master_party M) ≡ false = (λ i. nat_eq (sym epoch i) (k.epoch i)) ∙ o.0 in
        done_same w.cluster w.net (publish net (master_party (ready w.cluster N)) (offers w.cluster net (ready w.cluster N) even_if_equal)) M (λ m. ap (λ (ls : Party → Id → Link). ls (master_party M) (agent_id m)) links ∙ l.links (master_party M) (agent_id m) other) (h.can.masters e M o.1)
    by e M (inr o) = subst (IsDone w.cluster (publish net (master_party (ready w.cluster N)) (offers w.cluster net (ready w.cluster N) even_if_equal))) o.1 (record {
      counted = omega (arith, epoch, some);
      done = rests;
      reports = λ m there. subst (λ (ms : List ℕ). has_number m ms ≡ true) (sym (ready_besides w.cluster N).reported)
          (reports m (subst (λ n. 1 ≤ (net.links (party master_id n) (agent_id m)).seq) epoch (subst (λ (ls : Party → Id → Link). 1 ≤ (ls (master_party (ready w.cluster N)) (agent_id m)).seq) links there)));
    })

-- a command of a master
acts : (w : World) (hard : HardState) (e : ℕ) (M N : Master) (even_if_equal : List Id) → Progresses w → Invariant (end_step (record w { hard = hard }) w.net N even_if_equal) → w.hard.fence ≤ hard.fence → find nat_cmp e w.masters ≡ Some M → N.epoch ≡ M.epoch → N.reported ≡ M.reported
    → CanProgress (end_step (record w { hard = hard }) w.net N even_if_equal)
acts w hard e M N even_if_equal h inv up f epoch reported =
    let d = h.can.masters e M f in
    let below = master_below w e M h.inv f in
    let first = d.counted in
    ends w hard w.ran w.net N even_if_equal h inv up (omega (arith, epoch, below, up)) (omega (arith, epoch, first)) h.can.reached (leaves_nothing (master_party N) w.net)
    (λ m some. ap (has_number m) reported ∙ d.reports m (subst (λ n. 1 ≤ (w.net.links (party master_id n) (agent_id m)).seq) epoch some))

-- what a master hears
hears : (w : World) (e : ℕ) (M : Master) (k : ℕ) (x : Packet) → Progresses w → find nat_cmp e w.masters ≡ Some M → packet_of w k ≡ Some x
    → (let hd = heard_of w.net (master_party M) (talks w.cluster M) x in let l = received w.cluster M w.net x in Invariant (end_step w (comes w.net (master_party M) (talks w.cluster M) (Some x)) (told M hd x.from.id l) (adopted_now M hd x.from.id l)))
    → let hd = heard_of w.net (master_party M) (talks w.cluster M) x in let l = received w.cluster M w.net x in CanProgress (end_step w (comes w.net (master_party M) (talks w.cluster M) (Some x)) (told M hd x.from.id l) (adopted_now M hd x.from.id l))
hears w e M k x h f sent inv =
    let hd = heard_of w.net (master_party M) (talks w.cluster M) x in
    let l = received w.cluster M w.net x in
    let net = comes w.net (master_party M) (talks w.cluster M) (Some x) in
    let N = told M hd x.from.id l in
    let d = h.can.masters e M f in
    let below = master_below w e M h.inv f in
    let first = d.counted in
    let epoch : N.epoch ≡ M.epoch = (told_same M hd x.from.id l).epoch in
    ends w w.hard w.ran net N (adopted_now M hd x.from.id l) h inv (omega arith) (omega (arith, epoch, below)) (omega (arith, epoch, first))
    (comes_reached w.net (master_party M) (talks w.cluster M) x (found_within (λ y. AckReaches w.net.links y.kind y) w.net.packets (k - 1) x h.can.reached.packets sent) h.can.reached)
    (subst (λ n. Leaves (party master_id n) w.net net) (sym epoch) (comes_leaves w.net (master_party M) (talks w.cluster M) x))
    (λ m some. told_reports w.cluster w.net M x h.inv.sound (found_within (λ y. PacketNames shape w.net.histories y.kind y) w.net.packets (k - 1) x h.inv.sound.packets sent) m (d.reports m) (subst (λ n. 1 ≤ (net.links (party master_id n) (agent_id m)).seq) epoch some))

-- Links that turns and resyncs leave
sent_links : (net : Net Ledger) (p : Party) (qs : List Id) → (send_all net p qs).links ≡ net.links
sent_links net p [] = refl
sent_links net p (q ∷ qs) = sent_links (move net (Turns p q)) p qs

reset_others : (net : Net Ledger) (p : Party) (qs : List Id) (p' : Party) (q' : Id) → same_party p p' ≡ false → (resync_all net p qs).links p' q' ≡ net.links p' q'
reset_others net p [] p' q' e = refl
reset_others net p (q ∷ qs) p' q' e = reset_others (move net (Resyncs p q)) p qs p' q' e ∙ set_other net.links p q (record { known = (net.links p q).known; seq = (net.links p q).seq; acked = 0 }) p' q' e

reset_places : (net : Net Ledger) (p : Party) (qs : List Id) (p' : Party) (q' : Id) → ((resync_all net p qs).links p' q').seq ≡ (net.links p' q').seq
reset_places net p [] p' q' = refl
reset_places net p (q ∷ qs) p' q' = reset_places (move net (Resyncs p q)) p qs p' q'
    ∙ set_at_all (λ p' q' (k : Link). k.seq ≡ (net.links p' q').seq) net.links p q (record { known = (net.links p q).known; seq = (net.links p q).seq; acked = 0 }) refl (λ p' q'. refl) p' q'

turns : (w : World) (p : Party) (qs : List Id) → CanProgress w → p.inc ≤ top w p.id → CanProgress (record w { net = send_all w.net p qs })
turns w p qs h own = acted w (send_all w.net p qs) p h own (send_all_reached w.net p qs h.reached) (λ p' q _. ap (λ (ls : Party → Id → Link). ls p' q) (sent_links w.net p qs)) (λ e M f m. ap (λ (ls : Party → Id → Link). (ls (master_party M) (agent_id m)).seq) (sent_links w.net p qs))

resyncs : (w : World) (p : Party) (qs : List Id) → CanProgress w → p.inc ≤ top w p.id → CanProgress (record w { net = resync_all w.net p qs })
resyncs w p qs h own = acted w (resync_all w.net p qs) p h own (resync_all_reached w.net p qs h.reached) (reset_others w.net p qs) (λ e M f m. reset_places w.net p qs (master_party M) (agent_id m))

-- What agents and applications do
pub joined_leaves : (net : Net Ledger) (p : Party) (x : Packet) (ledger : Ledger) → Leaves p net (joined net p x ledger)
joined_leaves net p x ledger =
    let n = comes net p is_master (Some x) in
    let l = comes_leaves net p is_master x in
    either (Leaves p net) (heard_of net p is_master x).fresh (publish n p (to_master ledger)) n (λ _. leaves_then p net n (publish n p (to_master ledger)) l (publish_leaves n p (to_master ledger))) (λ _. l)

joins : (w : World) (p : Party) (k : ℕ) (x : Packet) (ledger : Ledger) → Progresses w → p.inc ≤ top w p.id → nat_eq p.id.role 1 ≡ false → packet_of w k ≡ Some x → CanProgress (record w { net = joined w.net p x ledger })
joins w p k x ledger h own role sent =
    let l = joined_leaves w.net p x ledger in
    acted w (joined w.net p x ledger) p h.can own (joined_reached w.net p x ledger (found_within (λ y. AckReaches w.net.links y.kind y) w.net.packets (k - 1) x h.can.reached.packets sent) h.can.reached) l.links
    (λ e M f m. ap (λ (l : Link). l.seq) (l.links (master_party M) (agent_id m) (ap (λ b. (b && nat_eq p.id.number 0) && nat_eq p.inc M.epoch) role)))

asked : (w : World) (p : Party) (os : List Offer) → CanProgress w → p.inc ≤ top w p.id → CanProgress (record w { net = publish w.net p os })
asked w p os h own = acted w (publish w.net p os) p h own (publish_reached w.net p os h.reached) (publish_leaves w.net p os).links (λ e M f m. ap (λ (ls : Party → Id → Link). (ls (master_party M) (agent_id m)).seq) (publish_links w.net p os))

-- A start. Whoever never ran knows nobody, so no link changes
start_same : (w : World) (p : Party) → CanProgress w → top w p.id < p.inc → (p' : Party) (q : Id) → (move w.net (Starts p)).links p' q ≡ w.net.links p' q
start_same w p h above p' q = either_case (λ (l : Link). l ≡ w.net.links p' q) (same_party p p') unknown (w.net.links p' q)
    (λ e. sym (h.unstarted p' q (subst (λ (r : Party). top w r.id < r.inc) (party_is p p' e) above))) (λ _. refl)

master_starts : (w : World) (e : ℕ) → Progresses w → w.hard.fence < e
    → Invariant (end_step (record w { hard = raised w.hard e; ran = w.ran ++ party master_id e ∷ [] }) (move w.net (Starts (party master_id e))) (new_master (raised w.hard e) e) (map app_id (job_numbers w.hard.jobs)))
    → CanProgress (end_step (record w { hard = raised w.hard e; ran = w.ran ++ party master_id e ∷ [] }) (move w.net (Starts (party master_id e))) (new_master (raised w.hard e) e) (map app_id (job_numbers w.hard.jobs)))
master_starts w e h lt inv =
    let p = party master_id e in
    ends w (raised w.hard e) (w.ran ++ p ∷ []) (move w.net (Starts p)) (new_master (raised w.hard e) e) (map app_id (job_numbers w.hard.jobs)) h inv (omega (arith, lt)) (omega arith) (omega (arith, lt))
    (start_reached w.net (move w.net (Starts p)).links (start_same w p h.can lt) h.can.reached) (start_leaves w.net p)
    (λ m some. let z : ((move w.net (Starts p)).links p (agent_id m)).seq ≡ 0 = ap (λ b. (elim b as (λ _. Link) [ true ↦ unknown | false ↦ w.net.links p (agent_id m) ]).seq) (same_party_itself p) in absurd (omega (arith, z, some)))

started_can : (w w' : World) (d : Id) (b : ℕ) → CanProgress w → same_id master_id d ≡ false → w.boots d < b → w'.cluster ≡ w.cluster → w'.hard ≡ w.hard → w'.boots ≡ set_boot w.boots d b → w'.net ≡ move w.net (Starts (party d b)) → w'.masters ≡ w.masters
    → ((m : ℕ) (g : Agent) → find nat_cmp m w'.agents ≡ Some g → 1 ≤ g.boot) → ((a : ℕ) (g : App) → find nat_cmp a w'.apps ≡ Some g → 1 ≤ g.boot) → CanProgress w'
started_can w w' d b h other lt cluster hard boots net masters agents apps = record {
  reached = subst AreReached (sym net) (start_reached w.net (move w.net (Starts p)).links same h.reached);
  unstarted = λ p' q above. ap (λ (n : Net Ledger). n.links p' q) net ∙ same p' q ∙ h.unstarted p' q (let u = up p'.id in omega (arith, u, above));
  masters = λ e M f. subst (λ c. IsDone c w'.net M) (sym cluster) (done_same w.cluster w.net w'.net M (λ m. ap (λ (n : Net Ledger). n.links (master_party M) (agent_id m)) net ∙ same (master_party M) (agent_id m)) (h.masters e M (ap (λ ms. find nat_cmp e ms) (sym masters) ∙ f)));
  agents = agents;
  apps = apps;
}
  where
    p : Party
    p = party d b

    above_all : top w d < b
    above_all = let t : top w d ≡ w.boots d = ap (λ t. cond t w.hard.fence (w.boots d)) other in omega (arith, t, lt)

    same : (p' : Party) (q : Id) → (move w.net (Starts (party d b))).links p' q ≡ w.net.links p' q
    same = start_same w (party d b) h above_all

    up : (q : Id) → top w q ≤ top w' q
    up q = elim (same_id master_id q) as (λ t. cond t w.hard.fence (w.boots q) ≤ cond t w'.hard.fence (w'.boots q)) [
      | true ↦ let e = ap (λ (h : HardState). h.fence) hard in omega (arith, e)
      | false ↦ let r = boots_rise w.boots d b lt q in let e = ap (λ (f : Id → ℕ). f q) boots in omega (arith, r, e)
    ]

agent_starts : (w : World) (m b : ℕ) → CanProgress w → w.boots (agent_id m) < b → CanProgress (agent_started w m b)
agent_starts w m b h lt = started_can w (agent_started w m b) (agent_id m) b h refl lt refl refl refl refl refl (λ k g f. by k g (put_found k m (record { boot = b }) g w.agents f)) h.apps
  where
    by : (k : ℕ) (g : Agent) → ((nat_eq m k ≡ false) × (find nat_cmp k w.agents ≡ Some g)) ⊎ ((k ≡ m) × (record { boot = b } ≡ g)) → 1 ≤ g.boot
    by k g (inl o) = h.agents k g o.1
    by k g (inr o) = subst (λ (y : Agent). 1 ≤ y.boot) o.1 (omega (arith, lt))

app_starts : (w : World) (a b : ℕ) → CanProgress w → w.boots (app_id a) < b → CanProgress (app_started w a b)
app_starts w a b h lt = started_can w (app_started w a b) (app_id a) b h refl lt refl refl refl refl refl h.agents (λ k g f. by k g (put_found k a (record { boot = b; units = unit_count w.hard.jobs a; carried = [] }) g w.apps f))
  where
    by : (k : ℕ) (g : App) → ((nat_eq a k ≡ false) × (find nat_cmp k w.apps ≡ Some g)) ⊎ ((k ≡ a) × (record { boot = b; units = unit_count w.hard.jobs a; carried = [] } ≡ g)) → 1 ≤ g.boot
    by k g (inl o) = h.apps k g o.1
    by k g (inr o) = subst (λ (y : App). 1 ≤ y.boot) o.1 (omega (arith, lt))

stopped : (w : World) (e : ℕ) (hard : HardState) → CanProgress w → w.hard.fence ≤ hard.fence → CanProgress (without_master w e hard)
stopped w e hard h up = record {
  reached = h.reached;
  unstarted = λ p q above. h.unstarted p q (let u = fences w hard p.id up in omega (arith, u, above));
  masters = λ q M f. h.masters q M (still_runs e q M w.masters f).1;
  agents = h.agents;
  apps = h.apps;
}

-- an application behind what it heard
abbrev pub heard_app : World → ℕ → App → Packet → App
heard_app w a g x = let p = party (app_id a) g.boot in record g { carried = cond (heard_of w.net p is_master x).fresh (carry w.net p g.units (below (length w.cluster.machines)) g.carried) g.carried }

app_heard : (w : World) (a : ℕ) (g : App) (k : ℕ) (x : Packet) → Progresses w → find nat_cmp a w.apps ≡ Some g → packet_of w k ≡ Some x → CanProgress (app_hears w a g x)
app_heard w a g k x h f sent =
    let p = party (app_id a) g.boot in
    let j = joins w p k x (joined_demand x.from.inc (present w.net p master_id)) h (h.inv.apps a g f).ran refl sent in
    record {
      reached = j.reached;
      unstarted = j.unstarted;
      masters = j.masters;
      agents = j.agents;
      apps = λ n y at. by n y (put_found n a (heard_app w a g x) y w.apps at);
    }
  where
    by : (n : ℕ) (y : App) → ((nat_eq a n ≡ false) × (find nat_cmp n w.apps ≡ Some y)) ⊎ ((n ≡ a) × (heard_app w a g x ≡ y)) → 1 ≤ y.boot
    by n y (inl o) = h.can.apps n y o.1
    by n y (inr o) = subst (λ (z : App). 1 ≤ z.boot) o.1 (h.can.apps a g f)

-- all that changes a world
progress_kept : (w : World) → Progresses w → WorldKept Progresses (λ _. ⊤) w
progress_kept w h =
    let k = events_hold w h.inv in
    let c = h.can in
    record {
      counted = record { inv = k.counted; can = record { reached = c.reached; unstarted = c.unstarted; masters = c.masters; agents = c.agents; apps = c.apps } };
      starts = λ e n t. let i = k.starts e n t in record { inv = i; can = master_starts w e h (rising (not_refused (not (nat_lt w.hard.fence e)) (NotRising w.hard.fence) ((not (nat_lt (length w.masters) most_masters), TooManyMasters most_masters) ∷ []) n).0) i };
      stops = λ e l. record { inv = k.stops e l; can = stopped w e (left_hard w.hard l) c (left_fence (λ _. ⊤) w.cluster w.hard w.masters e l) };
      starts_agent = λ m b n.
          let rest = not (nat_lt (w.boots (agent_id m)) b) in
          let first = not_refused (not (has_machine w.cluster m)) NoMachine ((rest, NotRising (w.boots (agent_id m))) ∷ []) n in
          record { inv = k.starts_agent m b n; can = agent_starts w m b c (rising (not_refused rest (NotRising (w.boots (agent_id m))) [] first.1).0) };
      starts_app = λ a b n.
          let last : Bool × Refusal = (not (nat_lt (w.boots (app_id a)) b), NotRising (w.boots (app_id a))) in
          let x = not_refused (not (is_known w.hard.jobs a)) NoJob ((has_ended w.hard.jobs a, Ended) ∷ last ∷ []) n in
          let y = not_refused (has_ended w.hard.jobs a) Ended (last ∷ []) x.1 in
          let z = not_refused last.0 last.1 [] y.1 in
          record { inv = k.starts_app a b n; can = app_starts w a b c (rising z.0) };
      submits = λ e M j f q o s. let i = k.submits e M j f q o s in record { inv = i; can = acts w (submitted w.hard (eight_places j)) e M (record M { jobs = with_job (eight_places j) M.jobs }) (app_id j.number ∷ []) h i (omega arith) f refl refl };
      finishes = λ e M a f s. let i = k.finishes e M a f s in record { inv = i; can = acts w (finished w.hard a) e M (ended_in M a) [] h i (omega arith) f refl refl };
      bans = λ e M m f s. let i = k.bans e M m f s in record { inv = i; can = acts w (banned w.hard m) e M (banned_in M m) [] h i (omega arith) f refl refl };
      unbans = λ e M m f s. let i = k.unbans e M m f s in record { inv = i; can = acts w (unbanned w.hard m) e M (record M { bans = without_number m M.bans }) [] h i (omega arith) f refl refl };
      begins = λ e M f. let i = k.begins e M f in record { inv = i; can = acts w w.hard e M (record M { serving = true }) [] h i (omega arith) f refl refl };
      preempts = λ e M p f v s. let i = k.preempts e M p f v s in record { inv = i; can = acts w w.hard e M (preempted M p) [] h i (omega arith) f refl refl };
      asks = λ a g x f s. record { inv = k.asks a g x f s; can = asked w (party (app_id a) g.boot) (to_master (changed_demand (present w.net (party (app_id a) g.boot) master_id) (command_key x) (command_number (given_back w a g) x))) c (h.inv.apps a g f).ran };
      master_turns = λ e M f. record { inv = k.master_turns e M f; can = turns w (master_party M) (peers w.cluster M) c (master_below w e M h.inv f) };
      agent_turns = λ m g f. record { inv = k.agent_turns m g f; can = turns w (party (agent_id m) g.boot) (master_id ∷ []) c (h.inv.agents m g f).ran };
      app_turns = λ a g f. record { inv = k.app_turns a g f; can = turns w (party (app_id a) g.boot) (master_id ∷ []) c (h.inv.apps a g f).ran };
      master_resyncs = λ e M f. record { inv = k.master_resyncs e M f; can = resyncs w (master_party M) (peers w.cluster M) c (master_below w e M h.inv f) };
      agent_resyncs = λ m g f. record { inv = k.agent_resyncs m g f; can = resyncs w (party (agent_id m) g.boot) (master_id ∷ []) c (h.inv.agents m g f).ran };
      app_resyncs = λ a g f. record { inv = k.app_resyncs a g f; can = resyncs w (party (app_id a) g.boot) (master_id ∷ []) c (h.inv.apps a g f).ran };
      hears = λ e M j x f s to t. let i = k.hears e M j x f s to t in record { inv = i; can = hears w e M j x h f s i };
      agent_hears = λ m g j x f s. record { inv = k.agent_hears m g j x f s; can = joins w (party (agent_id m) g.boot) j x (joined_report x.from.inc (agent_table w.net (party (agent_id m) g.boot))) h (h.inv.agents m g f).ran refl s };
      app_hears = λ a g j x f s. record { inv = k.app_hears a g j x f s; can = app_heard w a g j x h f s };
    }

-- each event
pub act_progresses : (w : World) (v : Event) → Progresses w → StepHolds Progresses (act w v)
act_progresses w v h = act_keeps_world Progresses (λ _. ⊤) progress_kept w v tt h

-- every run
pub always_progresses : (c : ClusterRecord) (es : List Event) → Progresses (run c es)
always_progresses c es = (run_keeps_world Progresses (λ _. ⊤) progress_kept es (empty_world c) (unasked es) (record {
  inv = at_start c;
  can = record { reached = silent_reached; unstarted = λ p q above. refl; masters = λ e M f. cc; agents = λ m g f. cc; apps = λ a g f. cc };
})).it
