-- What the turns of those who run bring to the master of the fence.
use Rattle.std.proofs.Common.{◌≡◌, ℕ, ◌+◌, ◌≤◌, Bool, true, false, cond, not, nat_eq, nat_lt, List, [], ◌∷◌, ◌++◌, length, map, Option, Some, None, refl, sym, ◌∙◌, ap, subst, arith}
use Rattle.std.specs.Prelude.{◌&&◌, ◌||◌}
use Rattle.std.specs.List.{AllByRecursion, flat_map}
use Rattle.std.specs.Option.{option_map}
use Rattle.std.specs.Ordering.{nat_cmp}
use Rattle.std.specs.FinMap.Entries.{find}
use Rattle.std.proofs.lemmas.Bool.Decides.{nat_tests}
use Rattle.fuxi_terms.specs.declared.answers.What.{What}
use Rattle.fuxi_terms.specs.declared.answers.What.TheVariants.{Taken, Stranger, Stale, NotMine, Old, Gap}
use Rattle.fuxi_terms.specs.Keys.{key_cmp, row_cmp}
use Rattle.fuxi_terms.specs.Counts.{is_same}
use Rattle.fuxi_terms.specs.Lists.{below}
use Rattle.fuxi_terms.specs.Numbers.{has_number}
use Rattle.fuxi_terms.proofs.Alls.{all_append, all_back, all_front, all_more}
use Rattle.fuxi_terms.proofs.Booleans.{and_false, and_true, either, nat_itself, number_is}
use Rattle.fuxi_terms.proofs.KeyOrders.{key_total, row_key_total}
use Rattle.fuxi_terms.proofs.SameEntries.{same_itself}
use Rattle.spec_net.specs.Net.{Net, Party, Id, Link, Packet, Kind, Ack, Delta, Full, Heard, hear, hear_peer, heard_of, word_of, unmoved, is_taken, comes, last, same_id, same_party, turn, move, Posts, at_index}
use Rattle.spec_net.specs.Ledgers.{Ledger, nothing, same_ledger}
use Rattle.spec_net.specs.Channels.{master_id, agent_id, app_id, party, is_agent, present, Offer, publish, publish_one, shape}
use Rattle.spec_net.specs.Sound.{PacketNames}
use Rattle.spec_net.proofs.NetLemmas.{set_at_all}
use Rattle.spec_net.proofs.BoundedLemmas.{found_within}
use Rattle.spec_roles.specs.HardState.{HardState}
use Rattle.spec_roles.specs.Masters.{Master}
use Rattle.spec_roles.specs.MasterSteps.{master_party, peers, talks, projected, ready, told_of, adopted_of, adopts}
use Rattle.spec_roles.specs.Refusals.{with_found}
use Rattle.spec_world.specs.World.{World, Agent, App}
use Rattle.spec_world.specs.Parties.{offers, end_step, projection, received, adopted_now}
use Rattle.spec_world.specs.Events.{addressed}
use Rattle.spec_world.specs.Runs.{run_from}
use Rattle.spec_world.proofs.PartiesKept.{knows_sender}
use Rattle.spec_world.proofs.SettledLemmas.{number_below}
use Rattle.spec_progress.specs.Reached.{ComesTo, Reaches}
use Rattle.spec_progress.specs.CalmRounds.{AreNamed, peers_tell, peers_turn}
use Rattle.spec_progress.proofs.ArrivalsLemmas.{Arrived, arrived_itself, arrives, boot_of, master_is_told, master_leaves, master_link, running_has}
use Rattle.spec_progress.proofs.DownLemmas.{Cut, all_sent, arrived_then, both_all, flat_cut, fresh_none}
use Rattle.spec_progress.proofs.FurtherLemmas.{still_reaches}
use Rattle.spec_progress.proofs.PhasesLemmas.{after, agent_sends, all_heard, app_sends, append_none, hear_each, peers_turns, told_master}
use Rattle.spec_progress.proofs.SteadyLemmas.{IsPeer, IsSent, Steady, TheMaster, is_peer, steady_hears, the_master}
use Rattle.spec_progress.proofs.TurnsLemmas.{IsOf, Turned, comes_more, deliver_append, turn_between, turn_of, turned_whole}

-- a packet of one who runs, for the master of an epoch
pub record IsUp (w : World) (e : ℕ) (ps : List Packet) (x : Packet) : Type 0 where
  pub sent : IsSent ps x
  pub to : x.to ≡ party master_id e
  pub id : Id
  pub boot : ℕ
  pub from : x.from ≡ party id boot
  pub runs : boot_of w id ≡ Some boot

-- what hearing them leaves: those who run are as they were
pub record WentUp (w w' : World) : Type 0 where
  pub arrived : Arrived w w'
  pub steady : Steady w'
  pub peers : (q : Id) (b : ℕ) → same_id q master_id ≡ false → (w'.net.links (party q b) master_id ≡ w.net.links (party q b) master_id) × (w'.net.histories (party q b) master_id ≡ w.net.histories (party q b) master_id)

-- the master that hears such a packet
record Hearer (w : World) (x : Packet) (q : Id) : Type 0 where
  master : Master
  runs : find nat_cmp x.to.inc w.masters ≡ Some master
  epoch : master_party master ≡ party master_id w.hard.fence
  now : find nat_cmp w.hard.fence w.masters ≡ Some master
  to : x.to.id ≡ master_id
  talks : talks w.cluster master x.from.id ≡ true

hearer : (w : World) (x : Packet) (q : Id) (b : ℕ) → Steady w → x.to ≡ party master_id w.hard.fence → x.from ≡ party q b → boot_of w q ≡ Some b → Hearer w x q
hearer w x q b s to from runs =
    let m = the_master w s in
    record {
      master = m.master;
      runs = ap (λ (r : Party). find nat_cmp r.inc w.masters) to ∙ m.runs;
      epoch = ap (λ n. party master_id n) m.epoch;
      now = m.runs;
      to = ap (λ (r : Party). r.id) to;
      talks = ap (λ (r : Party). talks w.cluster m.master r.id) from ∙ (is_peer w s m.master m.runs q b runs).talks;
    }

turn_ids : (q d : Id) → same_id q d ≡ false → same_id d q ≡ false
turn_ids q d e = by (nat_eq q.role d.role) (nat_eq q.number d.number) (nat_eq d.role q.role) (nat_eq d.number q.number) (grind (arith, nat_tests)) (grind (arith, nat_tests)) e
  where
    by : (a b c f : Bool) → a ≡ c → b ≡ f → (a && b) ≡ false → (c && f) ≡ false
    by a b c f x y e = (λ i. sym x i && sym y i) ∙ e

up_one : (w : World) (x : Packet) → Steady w → IsUp w w.hard.fence w.net.packets x → WentUp w (addressed w x)
up_one w x s u =
    let h = hearer w x u.id u.boot s u.to u.from u.runs in
    let l = master_leaves w x h.master h.runs h.to h.talks in
    record {
      arrived = arrives w x;
      steady = steady_hears w x u.sent s;
      peers = λ q b other. let apart : same_party (master_party h.master) (party q b) ≡ false = ap (λ t. t && nat_eq h.master.epoch b) (turn_ids q master_id other) in (l.links (party q b) master_id apart, l.histories (party q b) master_id apart);
    }

went_then : (a b c : World) → WentUp a b → WentUp b c → WentUp a c
went_then a b c f g = record {
  arrived = arrived_then a b c f.arrived g.arrived;
  steady = g.steady;
  peers = λ q n other. let x = f.peers q n other in let y = g.peers q n other in (y.0 ∙ x.0, y.1 ∙ x.1);
}

-- where the same ones run, the same packets come
up_same : (w v : World) (e : ℕ) (ps : List Packet) → ((q : Id) → boot_of v q ≡ boot_of w q) → (x : Packet) → IsUp w e ps x → IsUp v e ps x
up_same w v e ps same x u = record { sent = u.sent; to = u.to; id = u.id; boot = u.boot; from = u.from; runs = same u.id ∙ u.runs }

up_now : (w : World) (e : ℕ) (ps : List Packet) (x : Packet) → w.hard.fence ≡ e → w.net.packets ≡ ps → IsUp w e ps x → IsUp w w.hard.fence w.net.packets x
up_now w e ps x fence sent u = record { sent = subst (λ l. IsSent l x) (sym sent) u.sent; to = u.to ∙ ap (λ n. party master_id n) (sym fence); id = u.id; boot = u.boot; from = u.from; runs = u.runs }

-- hearing several
up_each : (e : ℕ) (ps xs : List Packet) (w : World) → Steady w → w.hard.fence ≡ e → w.net.packets ≡ ps → AllByRecursion (IsUp w e ps) xs → WentUp w (hear_each xs w)
up_each e ps [] w s fence sent all = record { arrived = arrived_itself w; steady = s; peers = λ q b other. (refl, refl) }
up_each e ps (x ∷ xs) w s fence sent all =
    let v = addressed w x in
    let g = up_one w x s (up_now w e ps x fence sent all.0) in
    let f = up_each e ps xs v g.steady (ap (λ (h : HardState). h.fence) g.arrived.hard ∙ fence) (g.arrived.packets ∙ sent) (all_more (IsUp w e ps) (IsUp v e ps) (up_same w v e ps g.arrived.runs) xs all.1) in
    went_then w v (hear_each xs v) g f

-- Where a master has come to all that was sent to it, nothing is new
abbrev pub AreCaught : ℕ → World → Type 0
AreCaught e w = (q : Id) (b : ℕ) → boot_of w q ≡ Some b → ((w.net.links (party master_id e) q).known ≡ b) × (last w.net (party q b) master_id ≤ (w.net.links (party master_id e) q).seq)

old_word : (hs : Party → Id → List Ledger) (k : Kind) (own : ℕ) (l : Link) (x : Packet) → PacketNames shape hs k x → length (hs x.from x.to.id) ≤ l.seq → is_taken (word_of k own l x) ≡ false
old_word hs Ack own l x n le = refl
old_word hs Full own l x n le =
    let there = n.names.there in
    let no : nat_lt l.seq x.seq ≡ false = grind (arith, nat_tests, there, le) in
    either (λ (w : What). is_taken w ≡ false) (not (nat_eq x.to.inc own)) NotMine (cond (nat_lt l.seq x.seq) Taken Old) (λ _. refl) (λ _. ap (λ b. is_taken (cond b Taken Old)) no)
old_word hs Delta own l x n le =
    let there = n.names.there in
    let no : nat_eq x.seq (l.seq + 1) ≡ false = grind (arith, nat_tests, there, le) in
    either (λ (w : What). is_taken w ≡ false) (not (nat_eq x.to.inc own)) NotMine (cond (nat_eq x.seq (l.seq + 1) && nat_lt 1 x.seq) Taken (cond (nat_lt l.seq x.seq) Gap Old)) (λ _. refl)
    (λ _. ap (λ b. is_taken (cond (b && nat_lt 1 x.seq) Taken (cond (nat_lt l.seq x.seq) Gap Old))) no ∙ either (λ (w : What). is_taken w ≡ false) (nat_lt l.seq x.seq) Gap Old (λ _. refl) (λ _. refl))

not_taken : (hs : Party → Id → List Ledger) (p : Party) (talk : Bool) (top : ℕ) (l : Link) (x : Packet) → PacketNames shape hs x.kind x → length (hs x.from x.to.id) ≤ l.seq → l.known ≡ x.from.inc → is_taken (hear p talk top l x).what ≡ false
not_taken hs p talk top l x n le same =
    let peer = hear_peer p.inc top l x in
    let stays : nat_lt l.known x.from.inc ≡ false = grind (arith, nat_tests, same) in
    either (λ (h : Heard). is_taken h.what ≡ false) (not (same_id x.to.id p.id && talk)) (unmoved Stranger l) (cond (nat_lt x.from.inc l.known) (unmoved Stale l) peer)
    (λ _. refl)
    (λ _. either (λ (h : Heard). is_taken h.what ≡ false) (nat_lt x.from.inc l.known) (unmoved Stale l) peer (λ _. refl)
    (λ _. ap (λ b. is_taken (word_of x.kind p.inc (cond b (record { known = x.from.inc; seq = 0; acked = 0 }) l) x)) stays ∙ old_word hs x.kind p.inc l x n le))

-- a master that hears nothing new is as it was
told_nothing : (M : Master) (fresh taken : Bool) (from : Id) (l : Ledger) → fresh ≡ false → taken ≡ false → told_of M fresh taken from l ≡ M
told_nothing M fresh taken from l f t = (λ i. told_of M (f i) (t i) from l) ∙ either (λ (N : Master). N ≡ M) (is_agent from) M M (λ _. refl) (λ _. refl)

adopts_nothing : (M : Master) (taken : Bool) (from : Id) (l : Ledger) → taken ≡ false → adopted_of M taken from l ≡ []
adopts_nothing M taken from l t = ap (λ b. cond (is_agent from && (b && adopts M from.number l)) (from ∷ []) []) t ∙ ap (λ b. cond b (from ∷ []) []) (and_false (is_agent from))

ledger_itself : (a : Ledger) → same_ledger a a ≡ true
ledger_itself a = and_true (nat_eq a.head a.head) (is_same row_cmp a.rows a.rows && is_same key_cmp a.entries a.entries) (nat_itself a.head) (and_true (is_same row_cmp a.rows a.rows) (is_same key_cmp a.entries a.entries) (same_itself row_key_total a.rows) (same_itself key_total a.entries))

-- what is shown already is not appended
shown_already : (net : Net Ledger) (p : Party) (os : List Offer) → AllByRecursion (λ o. (o.even_if_equal ≡ false) × (present net p o.to ≡ o.ledger)) os → publish net p os ≡ net
shown_already net p [] h = refl
shown_already net p (o ∷ os) h =
    let one : publish_one net p o ≡ net =
    ap (λ b. cond (b || not (same_ledger (present net p o.to) o.ledger)) (move net (Posts p o.to o.ledger)) net) h.0.0
    ∙ ap (λ l. cond (not (same_ledger l o.ledger)) (move net (Posts p o.to o.ledger)) net) h.0.1
    ∙ ap (λ b. cond (not b) (move net (Posts p o.to o.ledger)) net) (ledger_itself o.ledger) in
    ap (λ n. publish n p os) one ∙ shown_already net p os h.1

shown_offers : (net n : Net Ledger) (M : Master) (qs : List Id) → n.histories ≡ net.histories → ((q : Id) → (n.links (master_party M) q).known ≡ (net.links (master_party M) q).known) → AllByRecursion (λ q. present net (master_party M) q ≡ projection net M q) qs
    → AllByRecursion (λ (o : Offer). (o.even_if_equal ≡ false) × (present n (master_party M) o.to ≡ o.ledger)) (map (λ q. record { to = q; even_if_equal = false; ledger = projected M q (n.links (master_party M) q).known }) qs)
shown_offers net n M [] hs known h = tt
shown_offers net n M (q ∷ qs) hs known h = (
  (refl, ap (λ (f : Party → Id → List Ledger). at_index nothing (f (master_party M) q) (length (f (master_party M) q))) hs ∙ h.0 ∙ ap (λ k. projected M q k) (sym (known q))),
  shown_offers net n M qs hs known h.1,
)

-- and so nothing is appended
idle_one : (w : World) (x : Packet) → Steady w → AreCaught w.hard.fence w → IsUp w w.hard.fence w.net.packets x → (addressed w x).net.histories ≡ w.net.histories
idle_one w x s caught u =
    let h = hearer w x u.id u.boot s u.to u.from u.runs in
    let M = h.master in
    let n = comes w.net (master_party M) (talks w.cluster M) (Some x) in
    let d = heard_of w.net (master_party M) (talks w.cluster M) x in
    let l = received w.cluster M w.net x in
    let c = caught u.id u.boot u.runs in
    let from : x.from.id ≡ u.id = ap (λ (r : Party). r.id) u.from in
    let inc : x.from.inc ≡ u.boot = ap (λ (r : Party). r.inc) u.from in
    let known : (w.net.links (master_party M) x.from.id).known ≡ x.from.inc = (λ i. (w.net.links (h.epoch i) (from i)).known) ∙ c.0 ∙ sym inc in
    let all : length (w.net.histories x.from x.to.id) ≤ (w.net.links (master_party M) x.from.id).seq =
    subst (λ (r : Party). length (w.net.histories r x.to.id) ≤ (w.net.links (master_party M) x.from.id).seq) (sym u.from)
    (subst (λ i. length (w.net.histories (party u.id u.boot) i) ≤ (w.net.links (master_party M) x.from.id).seq) (sym h.to)
    (subst (λ (r : Party). last w.net (party u.id u.boot) master_id ≤ (w.net.links r x.from.id).seq) (sym h.epoch)
    (subst (λ i. last w.net (party u.id u.boot) master_id ≤ (w.net.links (party master_id w.hard.fence) i).seq) (sym from) c.1))) in
    let names = found_within (λ y. PacketNames shape w.net.histories y.kind y) w.net.packets u.sent.place x s.good.stands.sound.packets u.sent.there in
    let old : d.fresh ≡ false = fresh_none (master_party M) (talks w.cluster M x.from.id) (last w.net (master_party M) x.from.id) (w.net.links (master_party M) x.from.id) x known in
    let not_new : is_taken d.what ≡ false = not_taken w.net.histories (master_party M) (talks w.cluster M x.from.id) (last w.net (master_party M) x.from.id) (w.net.links (master_party M) x.from.id) x names all known in
    let k = knows_sender (master_party M) (talks w.cluster M x.from.id) (last w.net (master_party M) x.from.id) (w.net.links (master_party M) x.from.id) x in
    let knowns : (q : Id) → (n.links (master_party M) q).known ≡ (w.net.links (master_party M) q).known = λ q. set_at_all (λ p' q' (j : Link). j.known ≡ (w.net.links p' q').known) w.net.links (master_party M) x.from.id d.link (k.stays old) (λ p' q'. refl) (master_party M) q in
    let done : ready w.cluster M ≡ M = (s.can.masters w.hard.fence M h.now).done in
    let shows = (s.good.stands.masters w.hard.fence M h.now).shows in
    ap (λ (v : World). v.net.histories) (master_is_told w x M h.runs h.to h.talks)
    ∙ ap (λ N. (end_step w n N (adopted_now M d x.from.id l)).net.histories) (told_nothing M d.fresh (is_taken d.what) x.from.id l old not_new)
    ∙ ap (λ fs. (end_step w n M fs).net.histories) (adopts_nothing M (is_taken d.what) x.from.id l not_new)
    ∙ ap (λ N. (publish n (master_party N) (offers w.cluster n N [])).histories) done
    ∙ ap (λ (m : Net Ledger). m.histories) (shown_already n (master_party M) (offers w.cluster n M []) (shown_offers w.net n M (peers w.cluster M) refl knowns shows))

-- and all is as it was received
caught_stays : (w v : World) → Steady v → WentUp w v → AreCaught w.hard.fence w → AreCaught w.hard.fence v
caught_stays w v s g caught q b runs =
    let m = the_master v s in
    let before : boot_of w q ≡ Some b = sym (g.arrived.runs q) ∙ runs in
    let c = caught q b before in
    let peer = is_peer v s m.master m.runs q b runs in
    let f = g.arrived.links (party master_id w.hard.fence) q in
    let up = f.known in
    let down = peer.last_boot (party master_id w.hard.fence) in
    let c0 = c.0 in
    let known : (v.net.links (party master_id w.hard.fence) q).known ≡ b = omega (arith, up, down, c0) in
    let seq = f.seq (c0 ∙ sym known) in
    let same : last v.net (party q b) master_id ≡ last w.net (party q b) master_id = ap length (g.peers q b peer.other).1 in
    let c1 = c.1 in
    (known, omega (arith, c1, seq, same))

idle_each : (e : ℕ) (ps xs : List Packet) (w : World) → Steady w → AreCaught e w → w.hard.fence ≡ e → w.net.packets ≡ ps → AllByRecursion (IsUp w e ps) xs → (hear_each xs w).net.histories ≡ w.net.histories
idle_each e ps [] w s caught fence sent all = refl
idle_each e ps (x ∷ xs) w s caught fence sent all =
    let v = addressed w x in
    let u = up_now w e ps x fence sent all.0 in
    let g = up_one w x s u in
    let now : AreCaught w.hard.fence w = subst (λ n. AreCaught n w) (sym fence) caught in
    idle_each e ps xs v g.steady (subst (λ n. AreCaught n v) fence (caught_stays w v g.steady g now)) (ap (λ (h : HardState). h.fence) g.arrived.hard ∙ fence) (g.arrived.packets ∙ sent) (all_more (IsUp w e ps) (IsUp v e ps) (up_same w v e ps g.arrived.runs) xs all.1)
    ∙ idle_one w x s now u

-- The turns of all who run, and their delivery: of each, the master has come forward, and counts as acknowledged all that it had received
pub record HasTold (e : ℕ) (w w' : World) (q : Id) (b : ℕ) : Type 0 where
  pub known : (w'.net.links (party master_id e) q).known ≡ b
  pub place : ComesTo (last w.net (party q b) master_id) (w.net.links (party q b) master_id).acked (w'.net.links (party master_id e) q).seq
  pub acked : (w.net.links (party q b) master_id).seq ≤ (w'.net.links (party master_id e) q).acked

pub record ToldMaster (e : ℕ) (w w' : World) : Type 0 where
  pub steady : Steady w'
  pub cluster : w'.cluster ≡ w.cluster
  pub hard : w'.hard ≡ w.hard
  pub agents : w'.agents ≡ w.agents
  pub runs : (q : Id) → boot_of w' q ≡ boot_of w q
  pub peers : (q : Id) (b : ℕ) → same_id q master_id ≡ false → (w'.net.links (party q b) master_id ≡ w.net.links (party q b) master_id) × (w'.net.histories (party q b) master_id ≡ w.net.histories (party q b) master_id)
  pub idle : AreCaught e w → w'.net.histories ≡ w.net.histories
  pub peer : (q : Id) (b : ℕ) → boot_of w q ≡ Some b → HasTold e w w' q b

-- all who run know the master of the fence
abbrev pub AllJoined : ℕ → World → Type 0
AllJoined e w = (q : Id) (b : ℕ) → boot_of w q ≡ Some b → (w.net.links (party q b) master_id).known ≡ e

abbrev all_sends : List ℕ → World → List Packet
all_sends apps w = flat_map (agent_sends w) (below (length w.cluster.machines)) ++ flat_map (app_sends w) apps

-- whose packets they are
record IsTo (w : World) (x : Packet) : Type 0 where
  to : x.to ≡ party master_id w.hard.fence
  id : Id
  boot : ℕ
  from : x.from ≡ party id boot
  runs : boot_of w id ≡ Some boot

one_to : (w : World) → AllJoined w.hard.fence w → (q : Id) (b : ℕ) → boot_of w q ≡ Some b → AllByRecursion (IsTo w) (told_master w (party q b))
one_to w joined q b runs =
    let p = party q b in
    let l = w.net.links p master_id in
    let to : Party = party master_id l.known in
    either (AllByRecursion (IsTo w)) (nat_eq l.known 0) [] (turn w.net p master_id ++ []) (λ _. tt)
    (λ _. subst (AllByRecursion (IsTo w)) (sym (append_none (turn w.net p master_id))) (all_more (λ x. (x.from ≡ p) × (x.to ≡ to)) (IsTo w) (λ x o. record { to = o.1 ∙ ap (λ n. party master_id n) (joined q b runs); id = q; boot = b; from = o.0; runs = runs }) (turn w.net p master_id) (turn_between p master_id (last w.net p master_id) l)))

agents_to : (w : World) → AllJoined w.hard.fence w → (ms : List ℕ) → AllByRecursion (IsTo w) (flat_map (agent_sends w) ms)
agents_to w joined [] = tt
agents_to w joined (m ∷ ms) = all_append (IsTo w) (agent_sends w m) (flat_map (agent_sends w) ms) (by (find nat_cmp m w.agents) refl) (agents_to w joined ms)
  where
    by : (o : Option Agent) → find nat_cmp m w.agents ≡ o → AllByRecursion (IsTo w) (with_found o [] (λ g. told_master w (party (agent_id m) g.boot)))
    by None e = tt
    by (Some g) e = one_to w joined (agent_id m) g.boot (ap (option_map (λ (g : Agent). g.boot)) e)

apps_to : (w : World) → AllJoined w.hard.fence w → (ns : List ℕ) → AllByRecursion (IsTo w) (flat_map (app_sends w) ns)
apps_to w joined [] = tt
apps_to w joined (a ∷ ns) = all_append (IsTo w) (app_sends w a) (flat_map (app_sends w) ns) (by (find nat_cmp a w.apps) refl) (apps_to w joined ns)
  where
    by : (o : Option App) → find nat_cmp a w.apps ≡ o → AllByRecursion (IsTo w) (with_found o [] (λ g. told_master w (party (app_id a) g.boot)))
    by None e = tt
    by (Some g) e = one_to w joined (app_id a) g.boot (ap (option_map (λ (g : App). g.boot)) e)

-- where one stands among them
cut_number : (n : ℕ) (ns : List ℕ) → has_number n ns ≡ true → Cut n ns
cut_number n [] e = cc
cut_number n (m ∷ ms) e = by (λ k. cut_number n ms k) (nat_eq n m) refl e
  where
    by : (has_number n ms ≡ true → Cut n ms) → (b : Bool) → nat_eq n m ≡ b → (b || has_number n ms) ≡ true → Cut n (m ∷ ms)
    by rest true t e = record { before = []; behind = ms; is = ap (λ k. k ∷ ms) (sym (number_is n m t)) }
    by rest false t e = let c = rest e in record { before = m ∷ c.before; behind = c.behind; is = ap (λ l. m ∷ l) c.is }

record Within (ys all : List Packet) : Type 0 where
  before : List Packet
  behind : List Packet
  is : all ≡ before ++ (ys ++ behind)

flat_within : (f : ℕ → List Packet) (n : ℕ) (ns : List ℕ) → has_number n ns ≡ true → Within (f n) (flat_map f ns)
flat_within f n ns e = let c = cut_number n ns e in record { before = flat_map f c.before; behind = flat_map f c.behind; is = ap (flat_map f) c.is ∙ flat_cut f c.before (n ∷ c.behind) }

assoc : (ks ls ms : List Packet) → (ks ++ ls) ++ ms ≡ ks ++ (ls ++ ms)
assoc [] ls ms = refl
assoc (k ∷ ks) ls ms = ap (λ l. k ∷ l) (assoc ks ls ms)

within_left : (ys xs zs : List Packet) → Within ys xs → Within ys (xs ++ zs)
within_left ys xs zs c = record { before = c.before; behind = c.behind ++ zs; is = ap (λ l. l ++ zs) c.is ∙ assoc c.before (ys ++ c.behind) zs ∙ ap (λ l. c.before ++ l) (assoc ys c.behind zs) }

within_right : (ys xs zs : List Packet) → Within ys zs → Within ys (xs ++ zs)
within_right ys xs zs c = record { before = xs ++ c.before; behind = c.behind; is = ap (λ l. xs ++ l) c.is ∙ sym (assoc xs c.before (ys ++ c.behind)) }

-- in a world that has sent the turns
module _ (w : World) (s : Steady w) (apps : List ℕ) (named : AreNamed apps w) (joined : AllJoined w.hard.fence w) (n : ℕ) (vs : Steady (after (all_sends apps w) n w)) where
  abbrev P : Party
  P = party master_id w.hard.fence

  abbrev all : List Packet
  all = all_sends apps w

  abbrev v : World
  v = after (all_sends apps w) n w

  all_up : AllByRecursion (IsUp v w.hard.fence (w.net.packets ++ all)) all
  all_up = both_all (IsSent (w.net.packets ++ all)) (IsTo w) (IsUp v w.hard.fence (w.net.packets ++ all)) (λ x a b. record { sent = a; to = b.to; id = b.id; boot = b.boot; from = b.from; runs = b.runs }) all
      (all_sent w.net.packets all) (all_append (IsTo w) (flat_map (agent_sends w) (below (length w.cluster.machines))) (flat_map (app_sends w) apps) (agents_to w joined (below (length w.cluster.machines))) (apps_to w joined apps))

  went : WentUp v (hear_each all v)
  went = up_each w.hard.fence (w.net.packets ++ all) all v vs refl refl all_up

  -- one who runs
  module _ (q : Id) (b : ℕ) (runs : boot_of w q ≡ Some b) where
    abbrev p : Party
    p = party q b

    m : TheMaster w
    m = the_master w s

    peer : IsPeer w m.master q b
    peer = is_peer w s m.master m.runs q b runs

    -- it sends its turn
    abbrev own : List Packet
    own = turn w.net (party q b) master_id

    own_sent : told_master w (party q b) ≡ own
    own_sent =
        let e = joined q b runs in
        let f = m.first in
        let some : nat_eq (w.net.links (party q b) master_id).known 0 ≡ false = grind (arith, nat_tests, e, f) in
        ap (λ t. cond t [] (turn w.net (party q b) master_id ++ [])) some ∙ append_none (turn w.net (party q b) master_id)

    stands : Within own all
    stands = running_has w q b (Within own all) runs
        (λ a. within_left own (flat_map (agent_sends w) (below (length w.cluster.machines))) (flat_map (app_sends w) apps)
        (subst (λ ys. Within ys (flat_map (agent_sends w) (below (length w.cluster.machines)))) (ap (λ o. with_found o [] (λ g. told_master w (party (agent_id a.machine) g.boot))) a.runs ∙ (λ i. told_master w (party (sym a.is i) (a.boot i))) ∙ own_sent)
        (flat_within (agent_sends w) a.machine (below (length w.cluster.machines)) (number_below (length w.cluster.machines) a.machine (s.good.stands.machines a.machine a.agent a.runs)))))
        (λ a. within_right own (flat_map (agent_sends w) (below (length w.cluster.machines))) (flat_map (app_sends w) apps)
        (subst (λ ys. Within ys (flat_map (app_sends w) apps)) (ap (λ o. with_found o [] (λ g. told_master w (party (app_id a.job) g.boot))) a.runs ∙ (λ i. told_master w (party (sym a.is i) (a.boot i))) ∙ own_sent)
        (flat_within (app_sends w) a.job apps (named.named a.job a.app a.runs))))

    record Fine (u : World) : Type 0 where
      steady : Steady u
      fence : u.hard.fence ≡ w.hard.fence
      still : (r : Id) → boot_of u r ≡ boot_of w r
      sent : u.net.packets ≡ w.net.packets ++ all
      grows : last w.net P q ≤ last u.net P q

    abbrev May : Packet → Type 0
    May x = IsSent (w.net.packets ++ all) x × (x.from ≡ p) × (x.to ≡ P)

    hears_one : (x : Packet) (u : World) → Fine u → May x → ((addressed u x).net.links P q ≡ (hear P true (last u.net P q) (u.net.links P q) x).link) × Fine (addressed u x)
    hears_one x u f y =
        let a = arrives u x in
        let h = hearer u x q b f.steady (y.2 ∙ ap (λ k. party master_id k) (sym f.fence)) y.1 (f.still q ∙ runs) in
        let from : x.from.id ≡ q = ap (λ (r : Party). r.id) y.1 in
        let is : master_party h.master ≡ P = h.epoch ∙ ap (λ k. party master_id k) f.fence in
        let long = (a.grows.longer P q).long in
        let before = f.grows in (
          subst (λ (r : Party). (addressed u x).net.links r q ≡ (hear r true (last u.net r q) (u.net.links r q) x).link) is
              (subst (λ d. (addressed u x).net.links (master_party h.master) d ≡ (hear (master_party h.master) true (last u.net (master_party h.master) d) (u.net.links (master_party h.master) d) x).link) from (master_link u x h.master h.runs h.to h.talks)),
          record {
            steady = steady_hears u x (subst (λ l. IsSent l x) (sym f.sent) y.0) f.steady;
            fence = ap (λ (h : HardState). h.fence) a.hard ∙ f.fence;
            still = λ r. a.runs r ∙ f.still r;
            sent = a.packets ∙ f.sent;
            grows = omega (arith, long, before);
          },
        )

    bounded : (u : World) → Fine u → (u.net.links P q).known ≤ b
    bounded u f = let k = the_master u f.steady in (is_peer u f.steady k.master k.runs q b (f.still q ∙ runs)).last_boot P

    module _ (xs zs : List Packet) (cut : all ≡ xs ++ (own ++ zs)) where
      parts : AllByRecursion (IsUp v w.hard.fence (w.net.packets ++ all)) (xs ++ (own ++ zs))
      parts = subst (AllByRecursion (IsUp v w.hard.fence (w.net.packets ++ all))) cut all_up

      rest : AllByRecursion (IsUp v w.hard.fence (w.net.packets ++ all)) (own ++ zs)
      rest = all_back (IsUp v w.hard.fence (w.net.packets ++ all)) xs (own ++ zs) parts

      abbrev u1 : World
      u1 = hear_each xs v

      abbrev u2 : World
      u2 = hear_each own u1

      first : WentUp v u1
      first = up_each w.hard.fence (w.net.packets ++ all) xs v vs refl refl (all_front (IsUp v w.hard.fence (w.net.packets ++ all)) xs (own ++ zs) parts)

      fine : Fine u1
      fine = record {
        steady = first.steady;
        fence = ap (λ (h : HardState). h.fence) first.arrived.hard;
        still = first.arrived.runs;
        sent = first.arrived.packets;
        grows = (first.arrived.grows.longer P q).long;
      }

      may : AllByRecursion May own
      may = both_all (IsUp v w.hard.fence (w.net.packets ++ all)) (IsOf p master_id) May (λ x d o. (d.sent, o.0, d.to)) own (all_front (IsUp v w.hard.fence (w.net.packets ++ all)) own zs rest) (turn_of p master_id (last w.net p master_id) (w.net.links p master_id))

      abbrev l : Link
      l = w.net.links (party q b) master_id

      turned : Turned (λ x u. addressed u x) (λ u. u.net.links P q) (λ u. last u.net P q) Fine May p P (λ x y. (y.1, ap (λ (r : Party). r.id) y.2)) hears_one bounded (last w.net p master_id) l u1 u2
      turned = turned_whole (λ x u. addressed u x) (λ u. u.net.links P q) (λ u. last u.net P q) Fine May p P (λ x y. (y.1, ap (λ (r : Party). r.id) y.2)) hears_one bounded (last w.net p master_id) l u1 fine
          (s.good.stands.sound.links p master_id).acked.there
          (λ knows. still_reaches (w.net.links P q) (u1.net.links P q) b l.acked (first.arrived.links P q) (subst (λ i. Reaches (w.net.links (party master_id i) q) b l.acked) knows (s.can.reached.links p master_id)))
          (λ knows u f. let there = subst (λ i. l.seq ≤ last w.net (party master_id i) q) knows (s.good.stands.sound.links p master_id).place.there in let g = f.grows in omega (arith, there, g))
          may

      last_part : WentUp u2 (hear_each zs u2)
      last_part = up_each w.hard.fence (w.net.packets ++ all) zs u2 turned.goes.fine.steady turned.goes.fine.fence turned.goes.fine.sent
          (all_more (IsUp v w.hard.fence (w.net.packets ++ all)) (IsUp u2 w.hard.fence (w.net.packets ++ all)) (up_same v u2 w.hard.fence (w.net.packets ++ all) turned.goes.fine.still) zs (all_back (IsUp v w.hard.fence (w.net.packets ++ all)) own zs rest))

      has_told : HasTold w.hard.fence w (hear_each zs u2) q b
      has_told =
          let f = last_part.arrived.links P q in
          let up = f.known in
          let at = turned.known in
          let k = the_master (hear_each zs u2) last_part.steady in
          let down = (is_peer (hear_each zs u2) last_part.steady k.master k.runs q b (last_part.arrived.runs q ∙ turned.goes.fine.still q ∙ runs)).last_boot P in
          let known : ((hear_each zs u2).net.links P q).known ≡ b = omega (arith, up, at, down) in
          let same : (u2.net.links P q).known ≡ ((hear_each zs u2).net.links P q).known = turned.known ∙ sym known in
          record {
            known = known;
            place = comes_more (last w.net p master_id) l.acked (u2.net.links P q).seq ((hear_each zs u2).net.links P q).seq (f.seq same) (turned.place (joined q b runs) m.first);
            acked = let a = turned.acked (joined q b runs) in let c = f.acked same in omega (arith, a, c);
          }

    one_told : HasTold w.hard.fence w (hear_each all v) q b
    one_told =
        let c = stands in
        let step : Packet → World → World = λ x u. addressed u x in
        let is : hear_each all v ≡ hear_each c.behind (hear_each own (hear_each c.before v)) = ap (λ ys. hear_each ys v) c.is ∙ deliver_append step c.before (own ++ c.behind) v ∙ deliver_append step own c.behind (hear_each c.before v) in
        subst (λ u. HasTold w.hard.fence w u q b) (sym is) (has_told c.before c.behind c.is)

  told_all : ToldMaster w.hard.fence w (hear_each all v)
  told_all = record {
    steady = went.steady;
    cluster = went.arrived.cluster;
    hard = went.arrived.hard;
    agents = went.arrived.agents;
    runs = went.arrived.runs;
    peers = went.peers;
    idle = λ caught. idle_each w.hard.fence (w.net.packets ++ all) all v vs caught refl refl all_up;
    peer = one_told;
  }

tell_master : (w : World) → Steady w → (apps : List ℕ) → AreNamed apps w → AllJoined w.hard.fence w → ToldMaster w.hard.fence w (peers_tell apps w)
tell_master w s apps named joined =
    let h = all_heard (all_sends apps w) w (run_from (peers_turn apps w) w).world (peers_turns apps w) in
    subst (ToldMaster w.hard.fence w) (sym h.is) (told_all w s apps named joined h.count (h.steady s))

pub peers_tell_master : (e : ℕ) (w : World) → w.hard.fence ≡ e → Steady w → (apps : List ℕ) → AreNamed apps w → AllJoined e w → ToldMaster e w (peers_tell apps w)
peers_tell_master e w fence s apps named joined = subst (λ n. ToldMaster n w (peers_tell apps w)) fence (tell_master w s apps named (subst (λ n. AllJoined n w) (sym fence) joined))
