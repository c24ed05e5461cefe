-- What runs has run, and so has all that a party knows or a packet names.
use Rattle.std.proofs.Common.{◌≡◌, ◌⊎◌, inl, inr, ℕ, ◌+◌, ◌-◌, ◌<◌, ◌≤◌, Bool, true, false, cond, not, nat_eq, nat_lt, List, [], ◌∷◌, ◌++◌, length, map, Some, refl, sym, ◌∙◌, ap, subst, arith}
use Rattle.std.specs.Prelude.{⊤, ◌||◌, min}
use Rattle.std.specs.List.{AllByRecursion, list_any}
use Rattle.std.specs.Ordering.{nat_cmp}
use Rattle.std.specs.FinMap.Entries.{find, put}
use Rattle.fuxi_terms.specs.Cluster.{ClusterRecord, has_machine}
use Rattle.fuxi_terms.specs.Limits.{most_masters, kept_changes, turn_deltas}
use Rattle.fuxi_terms.specs.Lists.{numbers_from}
use Rattle.fuxi_terms.specs.Jobs.{is_known, has_ended, eight_places, job_numbers, unit_count}
use Rattle.fuxi_terms.specs.Numbers.{without_number}
use Rattle.spec_net.specs.Net.{Net, Party, Id, Link, Packet, Ack, Delta, Full, Starts, Turns, Resyncs, Posts, move, comes, heard_of, last, unknown, same_id, same_party, unacknowledged, turn, notes}
use Rattle.spec_net.specs.Ledgers.{Ledger, same_ledger}
use Rattle.spec_net.specs.Channels.{master_id, agent_id, app_id, party, is_master, present, Offer, publish_one, publish, to_master, send_all, resync_all}
use Rattle.spec_roles.specs.Masters.{Master}
use Rattle.spec_roles.specs.HardState.{HardState, raised, submitted, finished, banned, unbanned, with_job}
use Rattle.spec_roles.specs.MasterSteps.{master_party, talks, peers, ready, ended_in, banned_in, new_master}
use Rattle.spec_roles.specs.Preemption.{preempted}
use Rattle.spec_roles.specs.Refusals.{Refusal, NotRising, TooManyMasters, NoMachine, NoJob, Ended}
use Rattle.spec_roles.specs.Apps.{changed_demand, command_key, command_number}
use Rattle.spec_world.specs.World.{World, Agent, App, Step, top, set_boot, empty_world}
use Rattle.spec_world.specs.Parties.{offers, end_step, told, received, adopted_now, joined, app_hears}
use Rattle.spec_world.specs.Events.{Event, packet_of, given_back, agent_started, app_started, act, without_master}
use Rattle.spec_world.specs.Good.{has_run, placed, HasRunPacket, AllRan, IsBooted, IsRecorded}
use Rattle.fuxi_terms.proofs.Booleans.{either, either_case, or_right}
use Rattle.fuxi_terms.proofs.Alls.{all_append, all_more}
use Rattle.spec_net.proofs.BoundedLemmas.{found_within, in_numbers}
use Rattle.spec_net.proofs.NetLemmas.{set_at_all}
use Rattle.spec_net.proofs.PublishLemmas.{same_party_itself, same_id_itself}
use Rattle.spec_world.proofs.Invariant.{put_found, ready_epoch}
use Rattle.spec_world.proofs.InvariantKept.{left_fence, told_same, not_refused, rising}
use Rattle.spec_world.proofs.LeftLemmas.{left_hard, still_runs}
use Rattle.spec_world.proofs.EventsWalk.{WorldKept, act_keeps_world}
use Rattle.spec_world.proofs.PartiesKept.{knows_sender, boots_rise}

-- What ran at some time
any_front : (p : Party) (ps qs : List Party) → list_any (same_party p) ps ≡ true → list_any (same_party p) (ps ++ qs) ≡ true
any_front p [] qs e = cc
any_front p (x ∷ ps) qs e = elim (same_party p x) as (λ b. (b || list_any (same_party p) ps) ≡ true → (b || list_any (same_party p) (ps ++ qs)) ≡ true) [ true ↦ λ _. refl | false ↦ λ e. any_front p ps qs e ] e

any_last : (p : Party) (ps : List Party) → list_any (same_party p) (ps ++ p ∷ []) ≡ true
any_last p [] = ap (λ b. b || false) (same_party_itself p)
any_last p (x ∷ ps) = elim (same_party p x) as (λ b. (b || list_any (same_party p) (ps ++ p ∷ [])) ≡ true) [ true ↦ refl | false ↦ any_last p ps ]

-- more has run
record RunsMore (ran ran' : List Party) : Type 0 where
  more : (p : Party) → has_run ran p ≡ true → has_run ran' p ≡ true

runs_itself : (ran : List Party) → RunsMore ran ran
runs_itself ran = record { more = λ p e. e }

runs_one : (ran : List Party) (q : Party) → RunsMore ran (ran ++ q ∷ [])
runs_one ran q = record { more = λ p e. elim (nat_eq p.inc 0) as (λ b. (b || list_any (same_party p) ran) ≡ true → (b || list_any (same_party p) (ran ++ q ∷ [])) ≡ true) [ true ↦ λ _. refl | false ↦ λ e. any_front p ran (q ∷ []) e ] e }

runs_here : (ran : List Party) (p : Party) → has_run (ran ++ p ∷ []) p ≡ true
runs_here ran p = or_right (nat_eq p.inc 0) _ (any_last p ran)

packet_more : (ran ran' : List Party) → RunsMore ran ran' → (x : Packet) → HasRunPacket ran x → HasRunPacket ran' x
packet_more ran ran' r x h = record { from = r.more x.from h.from; to = r.more x.to h.to; place = r.more (placed x.kind x) h.place }

all_more_ran : (ran ran' : List Party) (net : Net Ledger) → RunsMore ran ran' → AllRan ran net → AllRan ran' net
all_more_ran ran ran' net r h = record { links = λ p q. r.more (party q (net.links p q).known) (h.links p q); packets = all_more (HasRunPacket ran) (HasRunPacket ran') (packet_more ran ran' r) net.packets h.packets }

-- The net
module _ (ran : List Party) where
  publish_one_ran : (net : Net Ledger) (p : Party) (o : Offer) → AllRan ran net → AllRan ran (publish_one net p o)
  publish_one_ran net p o h = either (AllRan ran) (o.even_if_equal || not (same_ledger (present net p o.to) o.ledger)) (move net (Posts p o.to o.ledger)) net (λ _. record { links = h.links; packets = h.packets }) (λ _. h)

  publish_ran : (net : Net Ledger) (p : Party) (os : List Offer) → AllRan ran net → AllRan ran (publish net p os)
  publish_ran net p [] h = h
  publish_ran net p (o ∷ os) h = publish_ran (publish_one net p o) p os (publish_one_ran net p o h)

  start_ran : (net : Net Ledger) (p : Party) → AllRan ran net → AllRan ran (move net (Starts p))
  start_ran net p h = record {
    links = λ p' q'. either_case (λ (l : Link). has_run ran (party q' l.known) ≡ true) (same_party p p') unknown (net.links p' q') (λ _. refl) (λ _. h.links p' q');
    packets = h.packets;
  }

  comes_ran : (net : Net Ledger) (p : Party) (talks : Id → Bool) (x : Packet) → HasRunPacket ran x → AllRan ran net → AllRan ran (comes net p talks (Some x))
  comes_ran net p talks x r h = record {
    links = set_at_all (λ p' q' (l : Link). has_run ran (party q' l.known) ≡ true) net.links p x.from.id (heard_of net p talks x).link (heard (heard_of net p talks x).fresh refl) h.links;
    packets = h.packets;
  }
    where
      heard : (b : Bool) → (heard_of net p talks x).fresh ≡ b → has_run ran (party x.from.id (heard_of net p talks x).link.known) ≡ true
      heard true e = subst (λ n. has_run ran (party x.from.id n) ≡ true) (sym ((knows_sender p (talks x.from.id) (last net p x.from.id) (net.links p x.from.id) x).met e).0) r.from
      heard false e = subst (λ n. has_run ran (party x.from.id n) ≡ true) (sym ((knows_sender p (talks x.from.id) (last net p x.from.id) (net.links p x.from.id) x).stays e)) (h.links p x.from.id)

  notes_ran : (p to : Party) (n : ℕ) (l : Link) → has_run ran p ≡ true → has_run ran to ≡ true → AllByRecursion (HasRunPacket ran) (notes p to n l)
  notes_ran p to n l r t =
      let P : List Packet → Type 0 = AllByRecursion (HasRunPacket ran) in
      let full : Packet = record { from = p; to = to; kind = Full; inc = p.inc; seq = n } in
      let delta : ℕ → Packet = λ i. record { from = p; to = to; kind = Delta; inc = p.inc; seq = i } in
      let few = min turn_deltas (n - l.acked) in
      let deltas : P (map delta (numbers_from (l.acked + 1) few)) = in_numbers (HasRunPacket ran) delta (l.acked + 1) few (λ i le lt. record { from = r; to = t; place = r }) in
      either P (nat_eq l.known 0 || (nat_eq n 0 || nat_eq l.acked n)) [] (cond (nat_eq l.acked 0 || nat_lt kept_changes (n - l.acked)) (full ∷ []) (map delta (numbers_from (l.acked + 1) few)))
      (λ _. tt) (λ _. either P (nat_eq l.acked 0 || nat_lt kept_changes (n - l.acked)) (full ∷ []) (map delta (numbers_from (l.acked + 1) few)) (λ _. (record { from = r; to = t; place = r }, tt)) (λ _. deltas))

  turn_ran : (net : Net Ledger) (p : Party) (q : Id) → has_run ran p ≡ true → AllRan ran net → AllRan ran (move net (Turns p q))
  turn_ran net p q r h =
      let l = net.links p q in
      let to : Party = party q l.known in
      record {
        links = h.links;
        packets = all_append (HasRunPacket ran) net.packets (turn net p q) h.packets
            (all_append (HasRunPacket ran) (notes p to (last net p q) l) (record { from = p; to = to; kind = Ack; inc = l.known; seq = l.seq } ∷ []) (notes_ran p to (last net p q) l r (h.links p q)) (record { from = r; to = h.links p q; place = h.links p q }, tt));
      }

  send_all_ran : (net : Net Ledger) (p : Party) (qs : List Id) → has_run ran p ≡ true → AllRan ran net → AllRan ran (send_all net p qs)
  send_all_ran net p [] r h = h
  send_all_ran net p (q ∷ qs) r h = send_all_ran (move net (Turns p q)) p qs r (turn_ran net p q r h)

  resync_all_ran : (net : Net Ledger) (p : Party) (qs : List Id) → AllRan ran net → AllRan ran (resync_all net p qs)
  resync_all_ran net p [] h = h
  resync_all_ran net p (q ∷ qs) h = resync_all_ran (move net (Resyncs p q)) p qs (record {
    links = set_at_all (λ p' q' (l : Link). has_run ran (party q' l.known) ≡ true) net.links p q (unacknowledged (net.links p q)) (h.links p q) h.links;
    packets = h.packets;
  })

  joined_ran : (net : Net Ledger) (p : Party) (x : Packet) (ledger : Ledger) → HasRunPacket ran x → AllRan ran net → AllRan ran (joined net p x ledger)
  joined_ran net p x ledger r h =
      let n = comes net p is_master (Some x) in
      let k = comes_ran net p is_master x r h in
      either (AllRan ran) (heard_of net p is_master x).fresh (publish n p (to_master ledger)) n (λ _. publish_ran n p (to_master ledger) k) (λ _. k)

-- The walk: a step that is recorded
pub record StepRecords (s : Step) : Type 0 where
  pub it : IsRecorded s.world

-- a net that changes
netted : (w : World) (net : Net Ledger) → IsRecorded w → AllRan w.ran net → IsRecorded (record w { net = net })
netted w net h n = record { masters = h.masters; agents = h.agents; apps = h.apps; below = h.below; net = n }

-- the end of a master's step
ends : (w : World) (hard : HardState) (ran : List Party) (net : Net Ledger) (N : Master) (even_if_equal : List Id) → IsRecorded w → RunsMore w.ran ran → has_run ran (party master_id N.epoch) ≡ true → AllByRecursion (λ p. p.inc ≤ top (record w { hard = hard }) p.id) ran → AllRan ran net
    → IsRecorded (end_step (record w { hard = hard; ran = ran }) net N even_if_equal)
ends w hard ran net N even_if_equal h more own below n =
    let R = ready w.cluster N in
    record {
      masters = λ e M found. by e M (put_found e R.epoch R M w.masters found);
      agents = λ m g found. let k = h.agents m g found in record { last = k.last; recorded = more.more (party (agent_id m) g.boot) k.recorded };
      apps = λ a g found. let k = h.apps a g found in record { last = k.last; recorded = more.more (party (app_id a) g.boot) k.recorded };
      below = below;
      net = publish_ran ran net (master_party R) (offers w.cluster net R even_if_equal) n;
    }
  where
    by : (e : ℕ) (M : Master) → ((nat_eq (ready w.cluster N).epoch e ≡ false) × (find nat_cmp e w.masters ≡ Some M)) ⊎ ((e ≡ (ready w.cluster N).epoch) × (ready w.cluster N ≡ M)) → (M.epoch ≡ e) × (has_run ran (party master_id e) ≡ true)
    by e M (inl o) = let k = h.masters e M o.1 in (k.0, more.more (party master_id e) k.1)
    by e M (inr o) = (sym (ap (λ (M : Master). M.epoch) o.1) ∙ sym o.0, subst (λ n. has_run ran (party master_id n) ≡ true) (sym (o.0 ∙ ready_epoch w.cluster N)) own)

-- a running master acts
own_ran : (w : World) (e : ℕ) (M N : Master) → IsRecorded w → find nat_cmp e w.masters ≡ Some M → N.epoch ≡ M.epoch → has_run w.ran (party master_id N.epoch) ≡ true
own_ran w e M N h found same = let k = h.masters e M found in subst (λ n. has_run w.ran (party master_id n) ≡ true) (sym (same ∙ k.0)) k.1

acts : (w : World) (hard : HardState) (e : ℕ) (M N : Master) (even_if_equal : List Id) → IsRecorded w → find nat_cmp e w.masters ≡ Some M → N.epoch ≡ M.epoch → hard.fence ≡ w.hard.fence → IsRecorded (end_step (record w { hard = hard }) w.net N even_if_equal)
acts w hard e M N even_if_equal h found same fence = ends w hard w.ran w.net N even_if_equal h (runs_itself w.ran) (own_ran w e M N h found same) (subst (λ f. AllByRecursion (λ (p : Party). p.inc ≤ top (record w { hard = record hard { fence = f } }) p.id) w.ran) (sym fence) h.below) h.net

-- an entry of a table after one was put
put_each : {A : Type 0} (P : ℕ → A → Type 0) (a : ℕ) (x : A) (es : List (ℕ × A)) → P a x → ((b : ℕ) (y : A) → nat_eq a b ≡ false → find nat_cmp b es ≡ Some y → P b y) → (b : ℕ) (y : A) → find nat_cmp b (put nat_cmp a x es) ≡ Some y → P b y
put_each {A} P a x es new old b y f = by (put_found b a x y es f)
  where
    by : ((nat_eq a b ≡ false) × (find nat_cmp b es ≡ Some y)) ⊎ ((b ≡ a) × (x ≡ y)) → P b y
    by (inl o) = old b y o.0 o.1
    by (inr n) = subst (λ k. P k y) (sym n.0) (subst (P a) n.1 new)

-- a packet that was sent
packet_ran : (w : World) (k : ℕ) (x : Packet) → IsRecorded w → packet_of w k ≡ Some x → HasRunPacket w.ran x
packet_ran w k x h e = found_within (HasRunPacket w.ran) w.net.packets (k - 1) x h.net.packets e

hears_recorded : (w : World) (e : ℕ) (M : Master) (x : Packet) → IsRecorded w → find nat_cmp e w.masters ≡ Some M → HasRunPacket w.ran x
    → IsRecorded (let hd = heard_of w.net (master_party M) (talks w.cluster M) x in let l = received w.cluster M w.net x in end_step w (comes w.net (master_party M) (talks w.cluster M) (Some x)) (told M hd x.from.id l) (adopted_now M hd x.from.id l))
hears_recorded w e M x h found r =
    let hd = heard_of w.net (master_party M) (talks w.cluster M) x in
    let l = received w.cluster M w.net x in
    let n = comes w.net (master_party M) (talks w.cluster M) (Some x) in
    ends w w.hard w.ran n (told M hd x.from.id l) (adopted_now M hd x.from.id l) h (runs_itself w.ran) (own_ran w e M (told M hd x.from.id l) h found (told_same M hd x.from.id l).epoch) h.below (comes_ran w.ran w.net (master_party M) (talks w.cluster M) x r h.net)

app_hears_recorded : (w : World) (a : ℕ) (g : App) (x : Packet) → IsRecorded w → find nat_cmp a w.apps ≡ Some g → HasRunPacket w.ran x → IsRecorded (app_hears w a g x)
app_hears_recorded w a g x h found r = record {
  masters = h.masters;
  agents = h.agents;
  apps = put_each (λ k (y : App). IsBooted (w.boots (app_id k)) w.ran (party (app_id k) y.boot)) a _ w.apps (h.apps a g found) (λ k y _ f. h.apps k y f);
  below = h.below;
  net = joined_ran w.ran w.net (party (app_id a) g.boot) x _ r h.net;
}

-- Starts
below_more : (w w' : World) (ps : List Party) → ((d : Id) → top w d ≤ top w' d) → AllByRecursion (λ p. p.inc ≤ top w p.id) ps → AllByRecursion (λ p. p.inc ≤ top w' p.id) ps
below_more w w' ps up h = all_more (λ (p : Party). p.inc ≤ top w p.id) (λ p. p.inc ≤ top w' p.id) (λ p le. let u = up p.id in omega (arith, le, u)) ps h

set_own : (boots : Id → ℕ) (d : Id) (b : ℕ) → b ≡ set_boot boots d b d
set_own boots d b = sym (ap (λ t. cond t b (boots d)) (same_id_itself d))

tops_rise : (w w' : World) (d : Id) (b : ℕ) → w.boots d < b → w'.hard ≡ w.hard → w'.boots ≡ set_boot w.boots d b → (q : Id) → top w q ≤ top w' q
tops_rise w w' d b lt hard boots q = elim (same_id master_id q) as (λ t. cond t w.hard.fence (w.boots q) ≤ cond t w'.hard.fence (w'.boots q)) [
  | true ↦ let e = ap (λ (h : HardState). h.fence) hard in omega (arith, e)
  | false ↦ let up = boots_rise w.boots d b lt q in let e = ap (λ (f : Id → ℕ). f q) boots in omega (arith, up, e)
]

agent_starts_recorded : (w : World) (m b : ℕ) → IsRecorded w → w.boots (agent_id m) < b → IsRecorded (agent_started w m b)
agent_starts_recorded w m b h lt =
    let d = agent_id m in
    let p = party d b in
    let ran = w.ran ++ p ∷ [] in
    let more = runs_one w.ran p in
    let here = set_own w.boots d b in
    record {
      masters = λ e M f. let k = h.masters e M f in (k.0, more.more (party master_id e) k.1);
      agents = put_each (λ k (y : Agent). IsBooted (set_boot w.boots d b (agent_id k)) ran (party (agent_id k) y.boot)) m (record { boot = b }) w.agents (record { last = here; recorded = runs_here w.ran p })
          (λ k y other f. let o = h.agents k y f in record { last = o.last ∙ sym (ap (λ t. cond t b (w.boots (agent_id k))) other); recorded = more.more (party (agent_id k) y.boot) o.recorded });
      apps = λ a g f. let k = h.apps a g f in record { last = k.last; recorded = more.more (party (app_id a) g.boot) k.recorded };
      below = all_append (λ (p : Party). p.inc ≤ top (agent_started w m b) p.id) w.ran (p ∷ []) (below_more w (agent_started w m b) w.ran (tops_rise w (agent_started w m b) d b lt refl refl) h.below) (omega (arith, here), tt);
      net = start_ran ran w.net p (all_more_ran w.ran ran w.net more h.net);
    }

app_starts_recorded : (w : World) (a b : ℕ) → IsRecorded w → w.boots (app_id a) < b → IsRecorded (app_started w a b)
app_starts_recorded w a b h lt =
    let d = app_id a in
    let p = party d b in
    let here = set_own w.boots d b in
    let ran = w.ran ++ p ∷ [] in
    let more = runs_one w.ran p in
    record {
      masters = λ e M f. let k = h.masters e M f in (k.0, more.more (party master_id e) k.1);
      agents = λ m g f. let k = h.agents m g f in record { last = k.last; recorded = more.more (party (agent_id m) g.boot) k.recorded };
      apps = put_each (λ k (y : App). IsBooted (set_boot w.boots d b (app_id k)) ran (party (app_id k) y.boot)) a (record { boot = b; units = unit_count w.hard.jobs a; carried = [] }) w.apps (record { last = here; recorded = runs_here w.ran p })
          (λ k y other f. let o = h.apps k y f in record { last = o.last ∙ sym (ap (λ t. cond t b (w.boots (app_id k))) other); recorded = more.more (party (app_id k) y.boot) o.recorded });
      below = all_append (λ (p : Party). p.inc ≤ top (app_started w a b) p.id) w.ran (p ∷ []) (below_more w (app_started w a b) w.ran (tops_rise w (app_started w a b) d b lt refl refl) h.below) (omega (arith, here), tt);
      net = start_ran ran w.net p (all_more_ran w.ran ran w.net more h.net);
    }

master_starts_recorded : (w : World) (e : ℕ) → IsRecorded w → w.hard.fence < e
    → IsRecorded (end_step (record w { hard = raised w.hard e; ran = w.ran ++ party master_id e ∷ [] }) (move w.net (Starts (party master_id e))) (new_master (raised w.hard e) e) (map app_id (job_numbers w.hard.jobs)))
master_starts_recorded w e h lt =
    let p = party master_id e in
    let ran = w.ran ++ p ∷ [] in
    let more = runs_one w.ran p in
    let w' = record w { hard = raised w.hard e } in
    let up : (d : Id) → top w d ≤ top w' d = λ d. elim (same_id master_id d) as (λ t. cond t w.hard.fence (w.boots d) ≤ cond t e (w.boots d)) [ true ↦ omega (arith, lt) | false ↦ omega arith ] in
    ends w (raised w.hard e) ran (move w.net (Starts p)) (new_master (raised w.hard e) e) (map app_id (job_numbers w.hard.jobs)) h more (runs_here w.ran p)
    (all_append (λ (p : Party). p.inc ≤ top (record w { hard = raised w.hard e }) p.id) w.ran (p ∷ []) (below_more w (record w { hard = raised w.hard e }) w.ran up h.below) (omega arith, tt))
    (start_ran ran w.net p (all_more_ran w.ran ran w.net more h.net))

stopped_recorded : (w : World) (hard : HardState) (e : ℕ) → w.hard.fence ≤ hard.fence → IsRecorded w → IsRecorded (without_master w e hard)
stopped_recorded w hard e up h = record {
  masters = λ q M found. h.masters q M (still_runs e q M w.masters found).1;
  agents = h.agents;
  apps = h.apps;
  below = below_more w (without_master w e hard) w.ran (λ d. elim (same_id master_id d) as (λ t. cond t w.hard.fence (w.boots d) ≤ cond t hard.fence (w.boots d)) [ true ↦ up | false ↦ omega arith ]) h.below;
  net = h.net;
}

recorded_kept : (w : World) → IsRecorded w → WorldKept IsRecorded (λ _. ⊤) w
recorded_kept w h = record {
  counted = record { masters = h.masters; agents = h.agents; apps = h.apps; below = h.below; net = h.net };
  starts = λ e n _. master_starts_recorded w e h (rising (not_refused (not (nat_lt w.hard.fence e)) (NotRising w.hard.fence) ((not (nat_lt (length w.masters) most_masters), TooManyMasters most_masters) ∷ []) n).0);
  stops = λ e l. stopped_recorded w (left_hard w.hard l) e (left_fence (λ _. ⊤) w.cluster w.hard w.masters e l) h;
  starts_agent = λ m b n.
      let rest = not (nat_lt (w.boots (agent_id m)) b) in
      let first = not_refused (not (has_machine w.cluster m)) NoMachine ((rest, NotRising (w.boots (agent_id m))) ∷ []) n in
      agent_starts_recorded w m b h (rising (not_refused rest (NotRising (w.boots (agent_id m))) [] first.1).0);
  starts_app = λ a b n.
      let last : Bool × Refusal = (not (nat_lt (w.boots (app_id a)) b), NotRising (w.boots (app_id a))) in
      let x = not_refused (not (is_known w.hard.jobs a)) NoJob ((has_ended w.hard.jobs a, Ended) ∷ last ∷ []) n in
      let y = not_refused (has_ended w.hard.jobs a) Ended (last ∷ []) x.1 in
      let z = not_refused last.0 last.1 [] y.1 in
      app_starts_recorded w a b h (rising z.0);
  submits = λ e M j f _ _ _. acts w (submitted w.hard (eight_places j)) e M (record M { jobs = with_job (eight_places j) M.jobs }) (app_id j.number ∷ []) h f refl refl;
  finishes = λ e M a f _. acts w (finished w.hard a) e M (ended_in M a) [] h f refl refl;
  bans = λ e M m f _. acts w (banned w.hard m) e M (banned_in M m) [] h f refl refl;
  unbans = λ e M m f _. acts w (unbanned w.hard m) e M (record M { bans = without_number m M.bans }) [] h f refl refl;
  begins = λ e M f. acts w w.hard e M (record M { serving = true }) [] h f refl refl;
  preempts = λ e M p f _ _. acts w w.hard e M (preempted M p) [] h f refl refl;
  asks = λ a g x _ _. netted w _ h (publish_ran w.ran w.net (party (app_id a) g.boot) (to_master (changed_demand (present w.net (party (app_id a) g.boot) master_id) (command_key x) (command_number (given_back w a g) x))) h.net);
  master_turns = λ e M f. netted w _ h (send_all_ran w.ran w.net (master_party M) (peers w.cluster M) (own_ran w e M M h f refl) h.net);
  agent_turns = λ m g f. netted w _ h (send_all_ran w.ran w.net (party (agent_id m) g.boot) (master_id ∷ []) (h.agents m g f).recorded h.net);
  app_turns = λ a g f. netted w _ h (send_all_ran w.ran w.net (party (app_id a) g.boot) (master_id ∷ []) (h.apps a g f).recorded h.net);
  master_resyncs = λ e M f. netted w _ h (resync_all_ran w.ran w.net (master_party M) (peers w.cluster M) h.net);
  agent_resyncs = λ m g f. netted w _ h (resync_all_ran w.ran w.net (party (agent_id m) g.boot) (master_id ∷ []) h.net);
  app_resyncs = λ a g f. netted w _ h (resync_all_ran w.ran w.net (party (app_id a) g.boot) (master_id ∷ []) h.net);
  hears = λ e M k x f sent _ _. hears_recorded w e M x h f (packet_ran w k x h sent);
  agent_hears = λ m g k x f sent. netted w _ h (joined_ran w.ran w.net (party (agent_id m) g.boot) x _ (packet_ran w k x h sent) h.net);
  app_hears = λ a g k x f sent. app_hears_recorded w a g x h f (packet_ran w k x h sent);
}

-- each event
pub act_recorded : (w : World) (e : Event) → IsRecorded w → StepRecords (act w e)
act_recorded w e h = record { it = (act_keeps_world IsRecorded (λ _. ⊤) recorded_kept w e tt h).it }

-- the empty world
pub empty_recorded : (c : ClusterRecord) → IsRecorded (empty_world c)
empty_recorded c = record { masters = λ e M found. cc; agents = λ m g found. cc; apps = λ a g found. cc; below = tt; net = record { links = λ p q. refl; packets = tt } }
