-- An agent reports the table that it had, and keeps it until it takes a row.
use Rattle.std.proofs.Common.{◌≡◌, ◌⊎◌, inl, inr, ℕ, zero, suc, ◌-◌, ◌<◌, Bool, true, false, cond, not, nat_eq, nat_lt, List, [], ◌∷◌, ◌++◌, length, map, Option, Some, None, slice_get, refl, sym, ◌∙◌, ap, subst, arith}
use Rattle.std.specs.Prelude.{⊤, ◌&&◌}
use Rattle.std.specs.Option.{unwrap_or}
use Rattle.std.specs.Ordering.{nat_cmp}
use Rattle.std.specs.FinMap.Entries.{find, put}
use Rattle.std.proofs.lemmas.Bool.Decides.{nat_tests}
use Rattle.fuxi_terms.specs.declared.answers.What.TheVariants.{Stranger, Stale}
use Rattle.fuxi_terms.specs.Cluster.{ClusterRecord, has_machine}
use Rattle.fuxi_terms.proofs.Booleans.{either, number_is}
use Rattle.spec_net.specs.Net.{Net, Party, Id, Link, Packet, Heard, met, word_of, unmoved, hear, hear_peer, heard_of, is_taken, comes, move, Starts, Turns, same_id, same_party, last, at_index, set_at}
use Rattle.spec_net.specs.Ledgers.{Ledger, nothing}
use Rattle.spec_net.specs.Channels.{master_id, agent_id, app_id, party, is_master, is_agent, is_app, view, present, to_master, publish, send_all, resync_all, shape}
use Rattle.spec_net.specs.Sound.{Sound}
use Rattle.spec_net.proofs.NetLemmas.{id_is, party_is}
use Rattle.spec_net.proofs.SoundLemmas.{Grows}
use Rattle.spec_net.proofs.PublishLemmas.{set_here, set_beside, Leaves, leaves_nothing, leaves_then, start_leaves, comes_leaves, publish_links, publish_leaves, publish_grows, grows_itself, grows_then, publish_presents, Acted, resync_all_acted}
use Rattle.spec_roles.specs.Agents.{joined_report}
use Rattle.spec_roles.specs.Apps.{changed_demand, joined_demand, command_key, command_number}
use Rattle.spec_roles.specs.HardState.{raised, submitted, finished, banned, unbanned, with_job}
use Rattle.spec_roles.specs.Masters.{Master}
use Rattle.spec_roles.specs.Preemption.{preempted}
use Rattle.spec_roles.specs.MasterSteps.{master_party, talks, peers, ready, ended_in, banned_in, new_master}
use Rattle.fuxi_terms.specs.Jobs.{eight_places, job_numbers}
use Rattle.fuxi_terms.specs.Numbers.{without_number}
use Rattle.spec_world.proofs.Invariant.{ready_epoch}
use Rattle.spec_roles.specs.Refusals.{NoPacket, NotRising, NoMachine, first_refusal, with_found}
use Rattle.spec_world.specs.World.{World, Agent, Step, prints_nothing, refused}
use Rattle.spec_world.specs.Parties.{agent_table, agent_hears, app_hears, joined, master_hears, end_step, offers, told, received, adopted_now}
use Rattle.spec_world.specs.Events.{Event, StartMaster, StopMaster, StartApp, Submit, Finish, Ban, Unban, Begin, Preempt, Deliver, Halt, app_started, act, counted_in, packet_of, deliver_one, addressed, heard_by, heard_line, given_back, without_master, writer_of}
use Rattle.spec_world.specs.Good.{Invariant}
use Rattle.spec_world.specs.KeepsGrants.{AllReport, AllStay}
use Rattle.spec_world.specs.Runs.{run}
use Rattle.spec_world.specs.EventSteps.{is_single}
use Rattle.spec_world.proofs.CreditsLemmas.{stayed}
use Rattle.spec_world.proofs.LeftLemmas.{left_hard}
use Rattle.spec_world.proofs.EventsWalk.{EventSteps, act_steps}
use Rattle.spec_world.proofs.InvariantKept.{always, counted_holds, not_refused, rising, told_same}
use Rattle.spec_world.proofs.StartsLemmas.{put_here}
use Rattle.spec_world.proofs.EventStepsLemmas.{master_is}

-- What a packet to an agent makes of the world
got_within : {A : Type 0} (xs : List A) (i : ℕ) (x : A) → slice_get xs i ≡ Some x → i < length xs
got_within [] i x e = cc
got_within (y ∷ ys) zero x e = omega arith
got_within (y ∷ ys) (suc i) x e = let r = got_within ys i x e in omega (arith, r)

to_agent : (w : World) (k m : ℕ) (x : Packet) (g : Agent) → find nat_cmp m w.agents ≡ Some g → packet_of w k ≡ Some x → x.to.id ≡ agent_id m → (act w (Deliver k)).world ≡ agent_hears w m g x
to_agent w k m x g found sent to =
    let within = got_within w.net.packets (k - 1) x sent in
    let there : nat_lt (length w.net.packets) k ≡ false = grind (arith, nat_tests, within) in
    ap (λ b. (elim (first_refusal ((b, NoPacket (length w.net.packets)) ∷ [])) as (λ _. Step) [ None ↦ deliver_one k w | Some r ↦ refused w r ]).world) there
    ∙ ap (λ o. (with_found o (prints_nothing w) (λ x. record { world = addressed w x; lines = heard_line k (heard_by w x) ∷ [] })).world) sent
    ∙ ap (λ b. cond b (with_found (find nat_cmp x.to.inc w.masters) w (λ M. master_hears w M x)) (cond (is_agent x.to.id) to_this (cond (is_app x.to.id) to_app w))) (ap is_master to)
    ∙ ap (λ b. cond b to_this (cond (is_app x.to.id) to_app w)) (ap is_agent to)
    ∙ ap (λ (d : Id). with_found (find nat_cmp d.number w.agents) w (λ g. agent_hears w d.number g x)) to
    ∙ ap (λ o. with_found o w (λ g. agent_hears w m g x)) found
  where
    to_this : World
    to_this = with_found (find nat_cmp x.to.id.number w.agents) w (λ g. agent_hears w x.to.id.number g x)

    to_app : World
    to_app = with_found (find nat_cmp x.to.id.number w.apps) w (λ g. app_hears w x.to.id.number g x)

-- and where that is new to it, the ledger with which it answers is its last entry
joined_presents : (net : Net Ledger) (p : Party) (x : Packet) (l : Ledger) → (heard_of net p is_master x).fresh ≡ true → present (joined net p x l) p master_id ≡ l
joined_presents net p x l fresh =
    let n = comes net p is_master (Some x) in
    ap (λ b. present (cond b (publish n p (to_master l)) n) p master_id) fresh ∙ (publish_presents (λ _. l) n p (to_master l) (record { wanted = refl }, tt)).0

pub all_report : (c : ClusterRecord) (events : List Event) → AllReport (run c events)
all_report c events = let w = run c events in record {
  reports = λ k m x g found sent to fresh. let p = party (agent_id m) g.boot in
      ap (λ (v : World). present v.net p master_id) (to_agent (counted_in w) k m x g found sent to) ∙ joined_presents w.net p x (joined_report x.from.inc (agent_table w.net p)) fresh;
}

-- The table of a party stays where its place and its history do
table_kept : (net net' : Net Ledger) (p : Party) → Sound shape net → (net'.links p master_id).known ≡ (net.links p master_id).known → (net'.links p master_id).seq ≡ (net.links p master_id).seq → net'.histories p master_id ≡ net.histories p master_id → Grows shape net.histories net'.histories → agent_table net' p ≡ agent_table net p
table_kept net net' p s known seq own g =
    let l = net.links p master_id in
    let seen : view net' p master_id ≡ view net p master_id = (λ i. at_index nothing (net'.histories (party master_id (known i)) p.id) (seq i)) ∙ (g.longer (party master_id l.known) p.id).same l.seq (s.links p master_id).place.there in
    let mine : present net' p master_id ≡ present net p master_id = ap (λ (h : List Ledger). at_index nothing h (length h)) own in
    (λ i. cond (nat_eq (seq i) 0) (mine i).rows (seen i).rows)

left_table : (net net' : Net Ledger) (q p : Party) → Sound shape net → Leaves q net net' → same_party q p ≡ false → Grows shape net.histories net'.histories → agent_table net' p ≡ agent_table net p
left_table net net' q p s l other g = let same = l.links p master_id other in table_kept net net' p s (ap (λ (k : Link). k.known) same) (ap (λ (k : Link). k.seq) same) (l.histories p master_id other) g

grows_same : (net net' : Net Ledger) → net'.histories ≡ net.histories → Grows shape net.histories net'.histories
grows_same net net' e = subst (Grows shape net.histories) (sym e) (grows_itself net)

pub sent_links : (net : Net Ledger) (q : Party) (qs : List Id) → (send_all net q qs).links ≡ net.links
sent_links net q [] = refl
sent_links net q (d ∷ ds) = sent_links (move net (Turns q d)) q ds

pub sent_histories : (net : Net Ledger) (q : Party) (qs : List Id) → (send_all net q qs).histories ≡ net.histories
sent_histories net q [] = refl
sent_histories net q (d ∷ ds) = sent_histories (move net (Turns q d)) q ds

turned_table : (net : Net Ledger) (q : Party) (qs : List Id) (p : Party) → Sound shape net → agent_table (send_all net q qs) p ≡ agent_table net p
turned_table net q qs p s = let l = ap (λ (f : Party → Id → Link). f p master_id) (sent_links net q qs) in let h = sent_histories net q qs in
    table_kept net (send_all net q qs) p s (ap (λ (k : Link). k.known) l) (ap (λ (k : Link). k.seq) l) (ap (λ (f : Party → Id → List Ledger). f p master_id) h) (grows_same net (send_all net q qs) h)

resynced_table : (net : Net Ledger) (q : Party) (qs : List Id) (p : Party) → Sound shape net → agent_table (resync_all net q qs) p ≡ agent_table net p
resynced_table net q qs p s = by (same_party q p) refl (resync_all_acted net q qs s)
  where
    by : (b : Bool) → same_party q p ≡ b → Acted q net (resync_all net q qs) → agent_table (resync_all net q qs) p ≡ agent_table net p
    by true e a = subst (λ (r : Party). agent_table (resync_all net q qs) r ≡ agent_table net r) (party_is q p e) (table_kept net (resync_all net q qs) q s (a.known master_id) (a.seq master_id) (ap (λ (f : Party → Id → List Ledger). f q master_id) a.histories) (grows_same net (resync_all net q qs) a.histories))
    by false e a = left_table net (resync_all net q qs) q p s a.leaves e (grows_same net (resync_all net q qs) a.histories)

-- What is heard and not taken leaves the place, or is of a new incarnation of which nothing is received
pub record IsUntaken (l : Link) (h : Heard) : Type 0 where
  pub known : h.fresh ≡ false → h.link.known ≡ l.known
  pub seq : h.fresh ≡ false → h.link.seq ≡ l.seq
  pub new : h.fresh ≡ true → h.link.seq ≡ 0

pub untaken : (p : Party) (talk : Bool) (top : ℕ) (l : Link) (x : Packet) → is_taken (hear p talk top l x).what ≡ false → IsUntaken l (hear p talk top l x)
untaken p talk top l x e = by (not (same_id x.to.id p.id && talk)) (nat_lt x.from.inc l.known) e
  where
    m : Link
    m = met l x.from.inc

    kept : (b : Bool) → nat_lt l.known x.from.inc ≡ b → b ≡ false → m ≡ l
    kept b e f = ap (λ t. cond t (record { known = x.from.inc; seq = 0; acked = 0 }) l) (e ∙ f)

    gone : (b : Bool) → nat_lt l.known x.from.inc ≡ b → b ≡ true → m.seq ≡ 0
    gone b e f = ap (λ t. (cond t (record { known = x.from.inc; seq = 0; acked = 0 }) l).seq) (e ∙ f)

    by : (a b : Bool) → is_taken (cond a (unmoved Stranger l) (cond b (unmoved Stale l) (hear_peer p.inc top l x))).what ≡ false → IsUntaken l (cond a (unmoved Stranger l) (cond b (unmoved Stale l) (hear_peer p.inc top l x)))
    by true b e = record { known = λ _. refl; seq = λ _. refl; new = λ f. cc }
    by false true e = record { known = λ _. refl; seq = λ _. refl; new = λ f. cc }
    by false false e = let s = stayed p.inc top x (word_of x.kind p.inc m x) m e in record {
      known = λ f. s.0 ∙ ap (λ (k : Link). k.known) (kept _ refl f);
      seq = λ f. s.1 ∙ ap (λ (k : Link). k.seq) (kept _ refl f);
      new = λ f. s.1 ∙ gone _ refl f;
    }

-- one that is new comes of a master
fresh_master : (p : Party) (talk : Bool) (top : ℕ) (l : Link) (x : Packet) → (hear p talk top l x).fresh ≡ true → talk ≡ true
fresh_master p talk top l x e = by (same_id x.to.id p.id) talk e
  where
    by : (a b : Bool) → (cond (not (a && b)) (unmoved Stranger l) (cond (nat_lt x.from.inc l.known) (unmoved Stale l) (hear_peer p.inc top l x))).fresh ≡ true → b ≡ true
    by a true e = refl
    by true false e = cc
    by false false e = cc

-- an agent that hears what it does not take
heard_table : (net : Net Ledger) (p : Party) (x : Packet) → Sound shape net → is_taken (heard_of net p is_master x).what ≡ false → agent_table (joined net p x (joined_report x.from.inc (agent_table net p))) p ≡ agent_table net p
heard_table net p x s e = by (heard_of net p is_master x).fresh refl
  where
    h : Heard
    h = heard_of net p is_master x

    n : Net Ledger
    n = comes net p is_master (Some x)

    report : Ledger
    report = joined_report x.from.inc (agent_table net p)

    u : IsUntaken (net.links p x.from.id) h
    u = untaken p (is_master x.from.id) (last net p x.from.id) (net.links p x.from.id) x e

    link : (b : Bool) → same_id x.from.id master_id ≡ b → h.fresh ≡ false → ((n.links p master_id).known ≡ (net.links p master_id).known) × ((n.links p master_id).seq ≡ (net.links p master_id).seq)
    link true t f = subst (λ (d : Id). ((set_at net.links p d h.link p master_id).known ≡ (net.links p master_id).known) × ((set_at net.links p d h.link p master_id).seq ≡ (net.links p master_id).seq)) (sym (id_is x.from.id master_id t))
        (ap (λ (k : Link). k.known) (set_here net.links p master_id h.link) ∙ u.known f ∙ ap (λ (d : Id). (net.links p d).known) (id_is x.from.id master_id t), ap (λ (k : Link). k.seq) (set_here net.links p master_id h.link) ∙ u.seq f ∙ ap (λ (d : Id). (net.links p d).seq) (id_is x.from.id master_id t))
    link false t f = let same = set_beside net.links p x.from.id h.link master_id t in (ap (λ (k : Link). k.known) same, ap (λ (k : Link). k.seq) same)

    joins : Net Ledger
    joins = publish n p (to_master report)

    place : h.fresh ≡ true → (joins.links p master_id).seq ≡ 0
    place f =
        let from : x.from.id ≡ master_id = master_is x.from.id (fresh_master p (is_master x.from.id) (last net p x.from.id) (net.links p x.from.id) x f) in
        ap (λ (k : Party → Id → Link). (k p master_id).seq) (publish_links n p (to_master report))
        ∙ subst (λ (d : Id). (set_at net.links p d h.link p master_id).seq ≡ 0) (sym from) (ap (λ (k : Link). k.seq) (set_here net.links p master_id h.link) ∙ u.new f)

    by : (b : Bool) → h.fresh ≡ b → agent_table (cond b joins n) p ≡ agent_table net p
    by true f =
        let last : present joins p master_id ≡ report = (publish_presents (λ _. report) n p (to_master report) (record { wanted = refl }, tt)).0 in
        ap (λ k. cond (nat_eq k 0) (present joins p master_id).rows (view joins p master_id).rows) (place f) ∙ ap (λ (l : Ledger). l.rows) last
    by false f = let l = link (same_id x.from.id master_id) refl f in table_kept net n p s l.0 l.1 refl (grows_itself net)

-- Each event
module _ (w : World) (h : Invariant w) (m : ℕ) (g : Agent) (found : find nat_cmp m w.agents ≡ Some g) where
  p : Party
  p = party (agent_id m) g.boot

  abbrev Same : Net Ledger → Type 0
  Same net = agent_table net (party (agent_id m) g.boot) ≡ agent_table w.net (party (agent_id m) g.boot)

  abbrev IsTakenBy : Event → Type 0
  IsTakenBy v = (k : ℕ) × (x : Packet) × (v ≡ Deliver k) × (packet_of w k ≡ Some x) × (is_taken (heard_of w.net (party (agent_id m) g.boot) is_master x).what ≡ true)

  pub record Stays (v : Event) (x : World) : Type 0 where
    pub it : is_single v ≡ true → find nat_cmp m x.agents ≡ Some g → Same x.net ⊎ IsTakenBy v

  left : (v : Event) (x : World) (q : Party) → Leaves q w.net x.net → same_party q (party (agent_id m) g.boot) ≡ false → Grows shape w.net.histories x.net.histories → Stays v x
  left v x q l other grows = record { it = λ _ _. inl (left_table w.net x.net q (party (agent_id m) g.boot) h.sound l other grows) }

  -- a master ends its step
  ends : (v : Event) (u : World) (net : Net Ledger) (N : Master) (even_if_equal : List Id) (e : ℕ) → N.epoch ≡ e → Leaves (party master_id e) w.net net → Grows shape w.net.histories net.histories → Stays v (end_step u net N even_if_equal)
  ends v u net N even_if_equal e is l grows =
      let R = ready u.cluster N in
      let same : e ≡ R.epoch = sym (ready_epoch u.cluster N ∙ is) in
      let os = offers u.cluster net R even_if_equal in
      record {
        it = λ _ _. inl (left_table w.net (publish net (master_party R) os) (master_party R) (party (agent_id m) g.boot) h.sound
            (leaves_then (master_party R) w.net net (publish net (master_party R) os) (subst (λ n. Leaves (party master_id n) w.net net) same l) (publish_leaves net (master_party R) os)) refl
            (grows_then w.net net (publish net (master_party R) os) grows (publish_grows net (master_party R) os)));
      }

  acts : (v : Event) (u : World) (N : Master) (even_if_equal : List Id) → Stays v (end_step u w.net N even_if_equal)
  acts v u N even_if_equal = ends v u w.net N even_if_equal N.epoch refl (leaves_nothing (party master_id N.epoch) w.net) (grows_itself w.net)

  same : (v : Event) (x : World) → x.net ≡ w.net → Stays v x
  same v x e = record { it = λ _ _. inl (ap (λ (n : Net Ledger). agent_table n (party (agent_id m) g.boot)) e) }

  -- another party hears
  joined_left : (q : Party) (y : Packet) (l : Ledger) → same_party q (party (agent_id m) g.boot) ≡ false → Same (joined w.net q y l)
  joined_left q y l other = let n = comes w.net q is_master (Some y) in
      either Same (heard_of w.net q is_master y).fresh (publish n q (to_master l)) n
      (λ _. left_table w.net (publish n q (to_master l)) q (party (agent_id m) g.boot) h.sound (leaves_then q w.net n (publish n q (to_master l)) (comes_leaves w.net q is_master y) (publish_leaves n q (to_master l))) other (publish_grows n q (to_master l)))
      (λ _. left_table w.net n q (party (agent_id m) g.boot) h.sound (comes_leaves w.net q is_master y) other (grows_itself w.net))

  steps : EventSteps Stays (λ _. ⊤) w
  steps = record {
    same = λ v. same v w refl;
    starts = λ e _ _. ends (StartMaster e) (record w { hard = raised w.hard e; ran = w.ran ++ party master_id e ∷ [] }) (move w.net (Starts (party master_id e))) (new_master (raised w.hard e) e) (map app_id (job_numbers w.hard.jobs)) e refl (start_leaves w.net (party master_id e)) (grows_itself w.net);
    stops = λ e. same (StopMaster e) (without_master w e w.hard) refl;
    halts = λ calls all x l. same (Halt calls all x) (without_master w (writer_of x) (left_hard w.hard l)) refl;
    starts_agent = λ k b t. record { it = λ _ f. inl (replaced k b t f) };
    starts_app = λ a b _. left (StartApp a b) (app_started w a b) (party (app_id a) b) (start_leaves w.net (party (app_id a) b)) refl (grows_itself w.net);
    submits = λ e M j f _ _ _. acts (Submit e j) (record w { hard = submitted w.hard (eight_places j) }) (record M { jobs = with_job (eight_places j) M.jobs }) (app_id j.number ∷ []);
    finishes = λ e M a f _. acts (Finish e a) (record w { hard = finished w.hard a }) (ended_in M a) [];
    bans = λ e M n f _. acts (Ban e n) (record w { hard = banned w.hard n }) (banned_in M n) [];
    unbans = λ e M n f _. acts (Unban e n) (record w { hard = unbanned w.hard n }) (record M { bans = without_number n M.bans }) [];
    begins = λ e M f. acts (Begin e) w (record M { serving = true }) [];
    preempts = λ e M d f _ _. acts (Preempt e) w (preempted M d) [];
    asks = λ a k x f _. (let os = to_master (changed_demand (present w.net (party (app_id a) k.boot) master_id) (command_key x) (command_number (given_back w a k) x)) in
        record { it = λ _ _. inl (left_table w.net (publish w.net (party (app_id a) k.boot) os) (party (app_id a) k.boot) (party (agent_id m) g.boot) h.sound (publish_leaves w.net (party (app_id a) k.boot) os) refl (publish_grows w.net (party (app_id a) k.boot) os)) });
    master_turns = λ e M _. record { it = λ _ _. inl (turned_table w.net (master_party M) (peers w.cluster M) (party (agent_id m) g.boot) h.sound) };
    agent_turns = λ k a _. record { it = λ _ _. inl (turned_table w.net (party (agent_id k) a.boot) (master_id ∷ []) (party (agent_id m) g.boot) h.sound) };
    app_turns = λ k a _. record { it = λ _ _. inl (turned_table w.net (party (app_id k) a.boot) (master_id ∷ []) (party (agent_id m) g.boot) h.sound) };
    master_resyncs = λ e M _. record { it = λ _ _. inl (resynced_table w.net (master_party M) (peers w.cluster M) (party (agent_id m) g.boot) h.sound) };
    agent_resyncs = λ k a _. record { it = λ _ _. inl (resynced_table w.net (party (agent_id k) a.boot) (master_id ∷ []) (party (agent_id m) g.boot) h.sound) };
    app_resyncs = λ k a _. record { it = λ _ _. inl (resynced_table w.net (party (app_id k) a.boot) (master_id ∷ []) (party (agent_id m) g.boot) h.sound) };
    hears = λ M k x f _ _ _. (let d = heard_of w.net (master_party M) (talks w.cluster M) x in let l = received w.cluster M w.net x in
        ends (Deliver k) w (comes w.net (master_party M) (talks w.cluster M) (Some x)) (told M d x.from.id l) (adopted_now M d x.from.id l) M.epoch (told_same M d x.from.id l).epoch (comes_leaves w.net (master_party M) (talks w.cluster M) x) (grows_itself w.net));
    agent_hears = λ a k x f sent _. record { it = λ _ _. heard a k x f sent (nat_eq x.to.id.number m) refl };
    app_hears = λ a k x f sent. record { it = λ _ _. inl (joined_left (party (app_id x.to.id.number) a.boot) x (joined_demand x.from.inc (present w.net (party (app_id x.to.id.number) a.boot) master_id)) refl) };
  }
    where
      other_agent : (k b : ℕ) → nat_eq k m ≡ false → same_party (party (agent_id k) b) (party (agent_id m) g.boot) ≡ false
      other_agent k b e = ap (λ t. (true && t) && nat_eq b g.boot) e

      replaced : (k b : ℕ) → first_refusal ((not (has_machine w.cluster k), NoMachine) ∷ (not (nat_lt (w.boots (agent_id k)) b), NotRising (w.boots (agent_id k))) ∷ []) ≡ None → find nat_cmp m (put nat_cmp k (record { boot = b }) w.agents) ≡ Some g → Same (move w.net (Starts (party (agent_id k) b)))
      replaced k b t f = by (nat_eq k m) refl
        where
          up : w.boots (agent_id k) < b
          up = rising (not_refused (not (nat_lt (w.boots (agent_id k)) b)) (NotRising (w.boots (agent_id k))) [] (not_refused (not (has_machine w.cluster k)) NoMachine ((not (nat_lt (w.boots (agent_id k)) b), NotRising (w.boots (agent_id k))) ∷ []) t).1).0

          by : (t : Bool) → nat_eq k m ≡ t → Same (move w.net (Starts (party (agent_id k) b)))
          by true e =
              let here : k ≡ m = number_is k m e in
              let new : Some (record { boot = b }) ≡ Some g = sym (put_here k (record { boot = b }) w.agents) ∙ ap (λ n. find nat_cmp n (put nat_cmp k (record { boot = b }) w.agents)) here ∙ f in
              let boot : b ≡ g.boot = ap (λ (o : Option Agent). (unwrap_or o g).boot) new in
              let old = (h.agents m g found).ran in
              let at : w.boots (agent_id k) ≡ w.boots (agent_id m) = ap (λ n. w.boots (agent_id n)) here in
              absurd (let u = up in omega (arith, boot, old, at, u))
          by false e = left_table w.net (move w.net (Starts (party (agent_id k) b))) (party (agent_id k) b) (party (agent_id m) g.boot) h.sound (start_leaves w.net (party (agent_id k) b)) (other_agent k b e) (grows_itself w.net)

      heard : (a : Agent) (k : ℕ) (x : Packet) → find nat_cmp x.to.id.number w.agents ≡ Some a → packet_of w k ≡ Some x → (t : Bool) → nat_eq x.to.id.number m ≡ t → Same (agent_hears w x.to.id.number a x).net ⊎ IsTakenBy (Deliver k)
      heard a k x f sent false e = inl (joined_left (party (agent_id x.to.id.number) a.boot) x (joined_report x.from.inc (agent_table w.net (party (agent_id x.to.id.number) a.boot))) (other_agent x.to.id.number a.boot e))
      heard a k x f sent true e =
          let here : x.to.id.number ≡ m = number_is x.to.id.number m e in
          let same : Some a ≡ Some g = sym f ∙ ap (λ n. find nat_cmp n w.agents) here ∙ found in
          let is : a ≡ g = ap (λ (o : Option Agent). unwrap_or o g) same in
          subst (λ n. Same (agent_hears w n a x).net ⊎ IsTakenBy (Deliver k)) (sym here) (subst (λ (b : Agent). Same (agent_hears w m b x).net ⊎ IsTakenBy (Deliver k)) (sym is) (by (is_taken (heard_of w.net (party (agent_id m) g.boot) is_master x).what) refl))
        where
          by : (t : Bool) → is_taken (heard_of w.net (party (agent_id m) g.boot) is_master x).what ≡ t → Same (agent_hears w m g x).net ⊎ IsTakenBy (Deliver k)
          by true t = inr (k, x, refl, sent, t)
          by false t = inl (heard_table w.net (party (agent_id m) g.boot) x h.sound t)

  pub stays_so : (v : Event) → is_single v ≡ true → find nat_cmp m (act w v).world.agents ≡ Some g → Same (act w v).world.net ⊎ IsTakenBy v
  stays_so v one f = (act_steps Stays (λ _. ⊤) w steps (λ n k l. record { it = λ never. cc }) (λ e least percent votes ms. record { it = λ never. cc }) v tt).it.it one f

pub all_stay : (c : ClusterRecord) (events : List Event) → AllStay (run c events)
all_stay c events = let w = run c events in record { stays = λ v m g one before behind. stays_so (counted_in w) (counted_holds w (always c events)) m g before v one behind }
