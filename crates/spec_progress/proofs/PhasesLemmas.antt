-- Turns, and one delivery of all that they sent, are these packets heard one after the other.
use Rattle.std.proofs.Common.{◌≡◌, ℕ, suc, ◌+◌, ◌-◌, Bool, true, false, cond, nat_eq, nat_lt, List, [], ◌∷◌, ◌++◌, append_assoc, length, length-append, map, Option, Some, None, slice_get, refl, sym, ◌∙◌, ap, subst, arith}
use Rattle.std.specs.List.{flat_map}
use Rattle.std.specs.Ordering.{nat_cmp}
use Rattle.std.specs.FinMap.Entries.{find}
use Rattle.std.proofs.lemmas.Bool.Decides.{nat_tests}
use Rattle.fuxi_terms.specs.Lists.{below}
use Rattle.spec_net.specs.Net.{Net, Party, Id, Packet, Turns, move, turn}
use Rattle.spec_net.specs.Ledgers.{Ledger}
use Rattle.spec_net.specs.Channels.{master_id, agent_id, app_id, party, send_all}
use Rattle.spec_roles.specs.Masters.{Master}
use Rattle.spec_roles.specs.MasterSteps.{master_party, peers}
use Rattle.spec_roles.specs.Refusals.{NoPacket, NotRunning, first_refusal, with_found}
use Rattle.spec_world.specs.World.{World, Agent, App, Step, prints_nothing, refused}
use Rattle.spec_world.specs.Events.{Event, DeliverRange, TurnAgent, TurnApp, TurnMaster, addressed, counted_in, deliver_all, deliver_one, heard_by, heard_line, turn_to_master, turned, world_step}
use Rattle.spec_world.specs.Runs.{run_from}
use Rattle.spec_progress.specs.CalmStates.{CanProgress}
use Rattle.spec_progress.specs.CalmRounds.{delivered_since, peers_turn}
use Rattle.spec_progress.proofs.ArrivalsLemmas.{arrives}
use Rattle.spec_progress.proofs.SteadyLemmas.{Steady, can_acts, can_counts, good_acts, good_counts, steady_counts}
use Rattle.spec_progress.proofs.TurnsLemmas.{deliver_each}
use Rattle.spec_world.specs.Good.{Good}

-- a world with more packets, and another number of events
abbrev pub after : List Packet → ℕ → World → World
after xs n w = record w { net = record { links = w.net.links; histories = w.net.histories; packets = w.net.packets ++ xs }; events = n }

abbrev pub hear_each : List Packet → World → World
hear_each xs w = deliver_each (λ x v. addressed v x) xs w

pub append_none : (xs : List Packet) → xs ++ [] ≡ xs
append_none [] = refl
append_none (x ∷ xs) = ap (λ l. x ∷ l) (append_none xs)

-- what a party that talks to masters sends: nothing, where it knows none
abbrev pub told_master : World → Party → List Packet
told_master w p = cond (nat_eq (w.net.links p master_id).known 0) [] (turn w.net p master_id ++ [])

abbrev pub agent_sends : World → ℕ → List Packet
agent_sends w m = with_found (find nat_cmp m w.agents) [] (λ g. told_master w (party (agent_id m) g.boot))

abbrev pub app_sends : World → ℕ → List Packet
app_sends w a = with_found (find nat_cmp a w.apps) [] (λ g. told_master w (party (app_id a) g.boot))

-- Turns only send
sends : (net : Net Ledger) (p : Party) (qs : List Id) → send_all net p qs ≡ record { links = net.links; histories = net.histories; packets = net.packets ++ flat_map (turn net p) qs }
sends net p [] = λ i. record { links = net.links; histories = net.histories; packets = sym (append_none net.packets) i }
sends net p (q ∷ qs) = sends (move net (Turns p q)) p qs ∙ (λ i. record { links = net.links; histories = net.histories; packets = append_assoc net.packets (turn net p q) (flat_map (turn net p) qs) i })

turned_is : (w : World) (p : Party) (qs : List Id) → (turned w p qs).world ≡ after (flat_map (turn w.net p) qs) w.events w
turned_is w p qs = ap (λ n. record w { net = n }) (sends w.net p qs)

same_after : (w : World) → w ≡ after [] w.events w
same_after w = λ i. record w { net = record { links = w.net.links; histories = w.net.histories; packets = sym (append_none w.net.packets) i } }

to_master_is : (w : World) (p : Party) → (turn_to_master w p).world ≡ after (told_master w p) w.events w
to_master_is w p = by (nat_eq (w.net.links p master_id).known 0)
  where
    by : (b : Bool) → (cond b (prints_nothing w) (turned w p (master_id ∷ []))).world ≡ after (cond b [] (turn w.net p master_id ++ [])) w.events w
    by true = same_after w
    by false = turned_is w p (master_id ∷ [])

pub agent_turn_is : (w : World) (m : ℕ) → (world_step w (TurnAgent m)).world ≡ after (agent_sends w m) (w.events + 1) w
agent_turn_is w m = by (find nat_cmp m w.agents)
  where
    by : (o : Option Agent) → (with_found o (refused (counted_in w) NotRunning) (λ g. turn_to_master (counted_in w) (party (agent_id m) g.boot))).world ≡ after (with_found o [] (λ g. told_master w (party (agent_id m) g.boot))) (w.events + 1) w
    by None = same_after (counted_in w)
    by (Some g) = to_master_is (counted_in w) (party (agent_id m) g.boot)

pub app_turn_is : (w : World) (a : ℕ) → (world_step w (TurnApp a)).world ≡ after (app_sends w a) (w.events + 1) w
app_turn_is w a = by (find nat_cmp a w.apps)
  where
    by : (o : Option App) → (with_found o (refused (counted_in w) NotRunning) (λ g. turn_to_master (counted_in w) (party (app_id a) g.boot))).world ≡ after (with_found o [] (λ g. told_master w (party (app_id a) g.boot))) (w.events + 1) w
    by None = same_after (counted_in w)
    by (Some g) = to_master_is (counted_in w) (party (app_id a) g.boot)

pub master_turn_is : (w : World) (e : ℕ) (M : Master) → find nat_cmp e w.masters ≡ Some M → (world_step w (TurnMaster e)).world ≡ after (flat_map (turn w.net (master_party M)) (peers w.cluster M)) (w.events + 1) w
master_turn_is w e M f = ap (λ o. (with_found o (refused (counted_in w) NotRunning) (λ M. turned (counted_in w) (master_party M) (peers w.cluster M))).world) f ∙ turned_is (counted_in w) (master_party M) (peers w.cluster M)

-- A world that only sent
pub record HasSent (xs : List Packet) (w w' : World) : Type 0 where
  pub count : ℕ
  pub is : w' ≡ after xs count w
  pub steady : Steady w → Steady w'

sent_once : (w : World) (e : Event) (xs : List Packet) → (world_step w e).world ≡ after xs (w.events + 1) w → HasSent xs w (world_step w e).world
sent_once w e xs is = record {
  count = w.events + 1;
  is = is;
  steady = λ s. subst Steady (sym is) (record {
    good = subst Good is (good_acts (counted_in w) e (ap (λ (v : World). v.cluster) is) (ap (λ (v : World). v.hard) is) (good_counts w (w.events + 1) s.good));
    can = subst CanProgress is (can_acts (counted_in w) e (good_counts w (w.events + 1) s.good) (can_counts w (w.events + 1) s.can));
    sorted = s.sorted;
    manned = record { master = s.manned.master; agents = s.manned.agents };
  });
}

sent_more : (xs ys : List Packet) (w w' w'' : World) → HasSent xs w w' → HasSent ys w' w'' → HasSent (xs ++ ys) w w''
sent_more xs ys w w' w'' f g = record {
  count = g.count;
  is = g.is ∙ ap (λ v. after ys g.count v) f.is ∙ (λ i. record w { net = record { links = w.net.links; histories = w.net.histories; packets = append_assoc w.net.packets xs ys i }; events = g.count });
  steady = λ s. g.steady (f.steady s);
}

sent_nothing : (w : World) → HasSent [] w w
sent_nothing w = record { count = w.events; is = same_after w; steady = λ s. s }

-- the turns of several parties of one kind
module _ (f : ℕ → Event) (s : World → ℕ → List Packet) (one : (w : World) (n : ℕ) → (world_step w (f n)).world ≡ after (s w n) (w.events + 1) w) (same : (w : World) (xs : List Packet) (k n : ℕ) → s (after xs k w) n ≡ s w n) where
  flat_same : (w : World) (xs : List Packet) (k : ℕ) (ns : List ℕ) → flat_map (s (after xs k w)) ns ≡ flat_map (s w) ns
  flat_same w xs k [] = refl
  flat_same w xs k (n ∷ ns) = (λ i. same w xs k n i ++ flat_same w xs k ns i)

  pub turn_each : (ns : List ℕ) (w : World) → HasSent (flat_map (s w) ns) w (run_from (map f ns) w).world
  turn_each [] w = sent_nothing w
  turn_each (n ∷ ns) w =
      let v = (world_step w (f n)).world in
      let h = sent_once w (f n) (s w n) (one w n) in
      let rest = turn_each ns v in
      sent_more (s w n) (flat_map (s w) ns) w v (run_from (map f ns) v).world h
      (subst (λ ys. HasSent ys v (run_from (map f ns) v).world) (ap (λ u. flat_map (s u) ns) h.is ∙ flat_same w (s w n) h.count ns) rest)

run_append : (es fs : List Event) (w : World) → (run_from (es ++ fs) w).world ≡ (run_from fs (run_from es w).world).world
run_append [] fs w = refl
run_append (e ∷ es) fs w = run_append es fs (world_step w e).world

-- those of all agents and of these applications
pub peers_turns : (apps : List ℕ) (w : World) → HasSent (flat_map (agent_sends w) (below (length w.cluster.machines)) ++ flat_map (app_sends w) apps) w (run_from (peers_turn apps w) w).world
peers_turns apps w =
    let ms = below (length w.cluster.machines) in
    let v = (run_from (map TurnAgent ms) w).world in
    let f = turn_each TurnAgent agent_sends agent_turn_is (λ w xs k n. refl) ms w in
    let g = turn_each TurnApp app_sends app_turn_is (λ w xs k n. refl) apps v in
    subst (HasSent (flat_map (agent_sends w) ms ++ flat_map (app_sends w) apps) w) (sym (run_append (map TurnAgent ms) (map TurnApp apps) w))
    (sent_more (flat_map (agent_sends w) ms) (flat_map (app_sends w) apps) w v (run_from (map TurnApp apps) v).world f
    (subst (λ ys. HasSent ys v (run_from (map TurnApp apps) v).world) (ap (λ u. flat_map (app_sends u) apps) f.is ∙ flat_same TurnApp app_sends app_turn_is (λ w xs k n. refl) w (flat_map (agent_sends w) ms) f.count apps) g))

pub master_turns : (w : World) (M : Master) → find nat_cmp w.hard.fence w.masters ≡ Some M → HasSent (flat_map (turn w.net (master_party M)) (peers w.cluster M)) w (run_from (TurnMaster w.hard.fence ∷ []) w).world
master_turns w M f = sent_once w (TurnMaster w.hard.fence) (flat_map (turn w.net (master_party M)) (peers w.cluster M)) (master_turn_is w w.hard.fence M f)

-- Deliveries, one after the other
abbrev Listed : List Packet → ℕ → List Packet → Type 0
Listed xs k ps = (i : ℕ) (x : Packet) → slice_get xs i ≡ Some x → slice_get ps (k + i) ≡ Some x

delivers : (xs : List Packet) (k : ℕ) (w : World) → Listed xs k w.net.packets → (deliver_all (length xs) (k + 1) w).world ≡ hear_each xs w
delivers [] k w listed = refl
delivers (x ∷ xs) k w listed =
    let here : slice_get w.net.packets (k + 1 - 1) ≡ Some x = (let e : k + 1 - 1 ≡ k + 0 = omega arith in ap (λ n. slice_get w.net.packets n) e) ∙ listed 0 x refl in
    let first : (deliver_one (k + 1) w).world ≡ addressed w x = ap (λ o. (with_found o (prints_nothing w) (λ x. record { world = addressed w x; lines = heard_line (k + 1) (heard_by w x) ∷ [] })).world) here in
    ap (λ v. (deliver_all (length xs) (k + 1 + 1) v).world) first
    ∙ delivers xs (k + 1) (addressed w x) (λ i y e. ap (λ ps. slice_get ps (k + 1 + i)) (arrives w x).packets ∙ (let z : k + 1 + i ≡ k + suc i = omega arith in ap (λ n. slice_get w.net.packets n) z) ∙ listed (suc i) y e)

behind : (ps xs : List Packet) → Listed xs (length ps) (ps ++ xs)
behind [] xs i x e = (let z : 0 + i ≡ i = omega arith in ap (λ n. slice_get xs n) z) ∙ e
behind (p ∷ ps) xs i x e = (let z : length (p ∷ ps) + i ≡ suc (length ps + i) = omega arith in ap (λ n. slice_get (p ∷ ps ++ xs) n) z) ∙ behind ps xs i x e

-- all that was sent is heard, from a world that has sent it
pub record AllHeard (xs : List Packet) (w w' : World) : Type 0 where
  pub count : ℕ
  pub steady : Steady w → Steady (after xs count w)
  pub is : w' ≡ hear_each xs (after xs count w)

pub all_heard : (xs : List Packet) (w v : World) → HasSent xs w v → AllHeard xs w (delivered_since (length w.net.packets) v)
all_heard xs w v h = subst (λ u. AllHeard xs w (delivered_since (length w.net.packets) u)) (sym h.is) (by xs (λ s. subst Steady h.is (h.steady s)))
  where
    by : (ys : List Packet) → (Steady w → Steady (after ys h.count w)) → AllHeard ys w (delivered_since (length w.net.packets) (after ys h.count w))
    by [] st =
        let none : nat_lt (length w.net.packets) (length (w.net.packets ++ [])) ≡ false = (let e = ap length (append_none w.net.packets) in grind (arith, nat_tests, e)) in
        record { count = h.count; steady = st; is = ap (λ b. cond b (world_step (after [] h.count w) (DeliverRange (length w.net.packets + 1) (length (w.net.packets ++ [])))).world (after [] h.count w)) none }
    by (y ∷ ys) st =
        let u = after (y ∷ ys) h.count w in
        let zs = y ∷ ys in
        let n = length w.net.packets in
        let long : length (w.net.packets ++ zs) ≡ n + length zs = length-append w.net.packets zs in
        let more : nat_lt n (length (w.net.packets ++ zs)) ≡ true = grind (arith, nat_tests, long) in
        record {
          count = h.count + 1;
          steady = λ s. counted (st s);
          is = ap (λ b. cond b (world_step u (DeliverRange (n + 1) (length (w.net.packets ++ zs)))).world u) more ∙ range n u (length (w.net.packets ++ zs)) long refl ∙ delivers zs n (counted_in u) (behind w.net.packets zs);
        }
      where
        counted : Steady (after (y ∷ ys) h.count w) → Steady (after (y ∷ ys) (h.count + 1) w)
        counted s = steady_counts (after (y ∷ ys) h.count w) (h.count + 1) s

        range : (n : ℕ) (u : World) (l : ℕ) → l ≡ n + length (y ∷ ys) → length u.net.packets ≡ l → (world_step u (DeliverRange (n + 1) l)).world ≡ (deliver_all (length (y ∷ ys)) (n + 1) (counted_in u)).world
        range n u l long all =
            let first : nat_lt (length u.net.packets) (n + 1) ≡ false = grind (arith, nat_tests, long, all) in
            let last : nat_lt (length u.net.packets) l ≡ false = grind (arith, nat_tests, all) in
            let few : l + 1 - (n + 1) ≡ length (y ∷ ys) = omega (arith, long) in
            ap (λ b. (elim (first_refusal ((b, NoPacket (length u.net.packets)) ∷ (nat_lt (length u.net.packets) l, NoPacket (length u.net.packets)) ∷ [])) as (λ _. Step) [ None ↦ deliver_all (l + 1 - (n + 1)) (n + 1) (counted_in u) | Some r ↦ refused (counted_in u) r ]).world) first
            ∙ ap (λ b. (elim (first_refusal ((b, NoPacket (length u.net.packets)) ∷ [])) as (λ _. Step) [ None ↦ deliver_all (l + 1 - (n + 1)) (n + 1) (counted_in u) | Some r ↦ refused (counted_in u) r ]).world) last
            ∙ ap (λ k. (deliver_all k (n + 1) (counted_in u)).world) few
