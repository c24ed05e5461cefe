-- The steps of a master in the written world are those of the master by itself.
use Rattle.std.proofs.Common.{Result, Ok, Err, ◌≡◌, ℕ, Bool, true, false, cond, not, nat_eq, List, [], ◌∷◌, ◌++◌, length, map, Option, Some, None, slice_get, refl, sym, ◌∙◌, ap, subst, append_assoc}
use Rattle.std.specs.Prelude.{◌&&◌, ◌||◌}
use Rattle.std.proofs.lemmas.List.{map-append, append-nil}
use Rattle.std.specs.List.{AllByRecursion, flat_map}
use Rattle.std.specs.Ordering.{nat_cmp, is_eq}
use Rattle.std.specs.Cmp.{nat_cmp_total, tied_itself}
use Rattle.std.specs.FinMap.Entries.{put, find, find-put}
use Rattle.fuxi_terms.specs.Cluster.{ClusterRecord, has_machine, has_group}
use Rattle.fuxi_terms.specs.declared.vectors.Res.{Res}
use Rattle.fuxi_terms.specs.declared.vectors.Sum.{Sum}
use Rattle.fuxi_terms.specs.declared.answers.What.{What}
use Rattle.fuxi_terms.specs.declared.answers.What.TheVariants.{Ledger as SaysLedger, Exceeds as SaysExceeds, Stranger, Stale, Ack as Acked, NotMine, Old, Gap, Taken}
use Rattle.spec_net.specs.Net.{Net, Party, Id, Link, Packet, Heard, set_at, same_id, same_party, heard_of, hear, unmoved, comes, move, Starts, Posts, Turns, Resyncs, unknown, last, at_index, is_taken, turn}
use Rattle.spec_net.specs.Ledgers.{Ledger, nothing, report_ledger, tally_ledger}
use Rattle.spec_net.specs.Channels.{master_id, agent_id, app_id, is_agent, party, publish, publish_one, Offer, content, send_all, resync_all, shape}
use Rattle.fuxi_terms.specs.Jobs.{is_live, job_numbers, eight_places}
use Rattle.fuxi_terms.specs.Lists.{below}
use Rattle.fuxi_terms.specs.Numbers.{has_number, with_number, without_number}
use Rattle.spec_roles.specs.Masters.{Master, credited_of}
use Rattle.spec_roles.specs.HardState.{HardState, with_job, hard_step, Submission, Finishing, Banning, Unbanning}
use Rattle.spec_world.specs.Events.{turned, resynced, commanded}
use Rattle.spec_refinement.proofs.ParcelsLemmas.{turn_parcels_alike}
use Rattle.spec_refinement.proofs.AgentsJoin.{quiet_acts}
use Rattle.spec_net.specs.Sides.{turn_parcels, resynced_side, Side, appended, hears_side, new_side}
use Rattle.spec_world.specs.World.{World, Step, prints_nothing, on_result, refused}
use Rattle.spec_roles.specs.MasterSteps.{Admits, Ends, Bans, Unbans, Begins, Preempts, Submits, Finishes, BansMachine, UnbansMachine, StartsServing, MakesRoom, master_party, projected, talks, peers, is_one_of, ready, told_of, adopted_of, adopts, adopted, credit, raise_credited, take_report, take_demand, meet_app, counted, said, MasterChange, MasterCommand, Changed, Commanded, new_master, change_of, command_of, changes, ended_in, banned_in}
use Rattle.spec_world.specs.Parties.{offers, end_step, told, adopted_now, received}
use Rattle.spec_net.specs.Sound.{Sound, PacketNames}
use Rattle.fuxi_terms.proofs.Booleans.{either, false_and, false_right}
use Rattle.spec_net.proofs.NetLemmas.{id_is}
use Rattle.spec_net.proofs.BoundedLemmas.{found_within}
use Rattle.spec_net.proofs.SoundLemmas.{Grows}
use Rattle.spec_net.proofs.PublishLemmas.{Leaves, set_here, publish_leaves, publish_grows, leaves_then, leaves_nothing, grows_then, grows_itself, comes_leaves, resync_all_acted, same_party_itself, start_leaves}
use Rattle.spec_world.proofs.Invariant.{ready_epoch}
use Rattle.spec_world.proofs.CreditsLemmas.{put_beside}
use Rattle.spec_roles.specs.MasterRoles.{MasterRole, set_side, publish_alone, offers_alone, ends_alone, MasterHeard, master_told, master_turn, resync_alone, master_commanded, master_changed}
use Rattle.spec_refinement.specs.SeenWorlds.{received_as, side_at, side_of, sides_of, parcel_of, master_seen}
use Rattle.spec_refinement.specs.PartyJoins.{OneActs, MasterActs, Leads, MasterHearsAlike, MasterStarts, MasterCommanded}
use Rattle.spec_refinement.proofs.HeardJoin.{HeardAlike, hears_alike}
use Rattle.spec_refinement.proofs.SidesLemmas.{published_side, strange}
use Rattle.fuxi_terms.proofs.Alls.{all_append}
use Rattle.spec_roles.specs.Refusals.{Refusal, with_found, NotRunning, first_refusal, NoGroup, AlreadyServing, job_tests, NothingToPreempt, NotServing, NoMachine}
use Rattle.fuxi_terms.specs.Counts.{then_do}
use Rattle.spec_roles.specs.Preemption.{Plan, preempted, plan_of}

-- another peer's value stays, whoever's it is
elsewhere : {A : Type 0} (f : Party → Id → A) (p : Party) (q : Id) (a : A) (p' : Party) (q' : Id) → same_id q q' ≡ false → set_at f p q a p' q' ≡ f p' q'
elsewhere {A = A} f p q a p' q' e = ap (λ b. elim b as (λ _. A) [ true ↦ a | false ↦ f p' q' ]) (false_right (same_party p p') (same_id q q') e)

-- what is posted to one peer leaves the sides of the others
beside : (net : Net Ledger) (p : Party) (o : Offer) (q : Id) → nat_eq o.to.role p.id.role ≡ false → same_id o.to q ≡ false → side_of (publish_one net p o) p q ≡ side_of net p q
beside net p o q role e = cases (o.even_if_equal || not _)
  where
    cases : (b : Bool) → side_of (cond b (move net (Posts p o.to o.ledger)) net) p q ≡ side_of net p q
    cases false = refl
    cases true =
        let k = net.links p q in
        let x = net.histories p o.to ++ o.ledger ∷ [] in
        let own = elsewhere net.histories p o.to x p q e in
        let theirs = elsewhere net.histories p o.to x (party q k.known) p.id (false_and (nat_eq o.to.role p.id.role) (nat_eq o.to.number p.id.number) role) in
        λ i. record { link = k; got = received_as p.id q (at_index nothing (theirs i) k.seq); sent = own i }

-- the roles of a party and of a peer are two
pub record IsOther (p : Party) (o : Offer) : Type 0 where
  pub to : nat_eq o.to.role p.id.role ≡ false
  pub from : nat_eq p.id.role o.to.role ≡ false

published_one : (net : Net Ledger) (p : Party) (o : Offer) → IsOther p o → (q : Id) → side_of (publish_one net p o) p q ≡ set_side (sides_of net p) o.to (appended o.even_if_equal o.ledger (side_of net p o.to)) q
published_one net p o other q = elim (same_id o.to q) as (λ b. same_id o.to q ≡ b → side_of (publish_one net p o) p q ≡ elim b as (λ _. Side) [ true ↦ appended o.even_if_equal o.ledger (side_of net p o.to) | false ↦ side_of net p q ]) [
  | true ↦ λ e. ap (side_of (publish_one net p o) p) (sym (id_is o.to q e)) ∙ published_side net p o other.from
  | false ↦ λ e. beside net p o q other.to e
] refl

-- publishing to peers of another role is publishing to the sides
pub published_alike : (net : Net Ledger) (p : Party) (os : List Offer) → AllByRecursion (IsOther p) os → sides_of (publish net p os) p ≡ publish_alone (sides_of net p) os
published_alike net p [] h = refl
published_alike net p (o ∷ os) h =
    let one : sides_of (publish_one net p o) p ≡ set_side (sides_of net p) o.to (appended o.even_if_equal o.ledger (side_of net p o.to)) = λ i q. published_one net p o h.0 q i in
    published_alike (publish_one net p o) p os h.1 ∙ ap (λ sides. publish_alone sides os) one

-- The peers of a master are of other roles
pub record IsPeer (q : Id) : Type 0 where
  pub to : nat_eq q.role 1 ≡ false
  pub from : nat_eq 1 q.role ≡ false

agents_peers : (ns : List ℕ) → AllByRecursion IsPeer (map agent_id ns)
agents_peers [] = tt
agents_peers (n ∷ ns) = (record { to = refl; from = refl }, agents_peers ns)

apps_peers : (ns : List ℕ) → AllByRecursion IsPeer (map app_id ns)
apps_peers [] = tt
apps_peers (n ∷ ns) = (record { to = refl; from = refl }, apps_peers ns)

-- all peers of a master are of other roles
pub peers_are : (c : ClusterRecord) (M : Master) → AllByRecursion IsPeer (peers c M)
peers_are c M = all_append IsPeer (map agent_id (below (length c.machines))) (map app_id (job_numbers M.jobs)) (agents_peers _) (apps_peers _)

offers_other : (e : ℕ) (f : Id → Bool) (g : Id → Ledger) (qs : List Id) → AllByRecursion IsPeer qs → AllByRecursion (IsOther (party master_id e)) (map (λ q. record { to = q; even_if_equal = f q; ledger = g q }) qs)
offers_other e f g [] h = tt
offers_other e f g (q ∷ qs) h = (record { to = h.0.to; from = h.0.from }, offers_other e f g qs h.1)

-- what is put into a map is found there
found_here : (k : ℕ) (M : Master) (masters : List (ℕ × Master)) → find nat_cmp k (put nat_cmp k M masters) ≡ Some M
found_here k M masters = find-put nat_cmp nat_cmp_total k k M masters ∙ ap (λ r. cond (is_eq r) (Some M) (find nat_cmp k masters)) (tied_itself nat_cmp_total k)

-- The end of a step
pub ends_alike : (w : World) (net : Net Ledger) (M : Master) (even_if_equal : List Id) → master_seen (end_step w net M even_if_equal) (ready w.cluster M) ≡ ends_alone w.cluster (sides_of net (master_party M)) M even_if_equal
ends_alike w net M even_if_equal =
    let c = w.cluster in
    let R = ready c M in
    let sides = published_alike net (master_party R) (offers c net R even_if_equal) (offers_other R.epoch (λ q. is_one_of q even_if_equal) (λ q. projected R q (net.links (master_party R) q).known) (peers c R) (peers_are c R))
    ∙ ap (λ e. publish_alone (sides_of net (party master_id e)) (offers_alone c (sides_of net (party master_id e)) R even_if_equal)) (ready_epoch c M) in
    ap (λ s. record { cluster = c; state = R; sides = s }) sides

publish_packets : (net : Net Ledger) (p : Party) (os : List Offer) → (publish net p os).packets ≡ net.packets
publish_packets net p [] = refl
publish_packets net p (o ∷ os) = publish_packets (publish_one net p o) p os ∙ either (λ (n : Net Ledger). n.packets ≡ net.packets) _ _ _ (λ _. refl) (λ _. refl)

-- and the others see what they saw
pub ends_acts : (w w0 : World) (net : Net Ledger) (M : Master) (even_if_equal : List Id) → Sound shape w.net → Leaves (master_party M) w.net net → Grows shape w.net.histories net.histories → net.packets ≡ w.net.packets → OneActs w.net (end_step w0 net M even_if_equal).net (master_party M) []
ends_acts w w0 net M even_if_equal s l g same =
    let R = ready w0.cluster M in
    let os = offers w0.cluster net R even_if_equal in
    let p : master_party R ≡ master_party M = ap (party master_id) (ready_epoch w0.cluster M) in
    let l' : Leaves (master_party M) w.net (publish net (master_party R) os) = leaves_then (master_party M) w.net net (publish net (master_party R) os) l (subst (λ r. Leaves r net (publish net (master_party R) os)) p (publish_leaves net (master_party R) os)) in
    quiet_acts w.net (publish net (master_party R) os) (master_party M) s l' (grows_then w.net net (publish net (master_party R) os) g (publish_grows net (master_party R) os)) (publish_packets net (master_party R) os ∙ same)

-- Hearing
is_taken_is : (w : What) → is_taken w ≡ true → w ≡ Taken
is_taken_is Taken e = refl
is_taken_is Stranger e = cc
is_taken_is Stale e = cc
is_taken_is Acked e = cc
is_taken_is NotMine e = cc
is_taken_is Old e = cc
is_taken_is Gap e = cc
is_taken_is (SaysLedger fault) e = cc
is_taken_is (SaysExceeds total has) e = cc

-- what is received of a ledger tells a master the same as the ledger
module _ (c : ClusterRecord) (M : Master) (fresh : Bool) (from : Id) where
  -- two ledgers tell the master the same
  pub record TellsAlike (taken : Bool) (k l : Ledger) : Type 0 where
    pub state : told_of M fresh taken from (cond (is_agent from) k (counted c M.jobs from.number k)) ≡ told_of M fresh taken from (cond (is_agent from) l (counted c M.jobs from.number l))
    pub adopted : adopted_of M taken from (cond (is_agent from) k (counted c M.jobs from.number k)) ≡ adopted_of M taken from (cond (is_agent from) l (counted c M.jobs from.number l))

  tells_received : (l : Ledger) → TellsAlike true (received_as master_id from l) l
  tells_received l = record { state = state (is_agent from); adopted = adopt (is_agent from) }
    where
      as_of : Bool → Ledger
      as_of b = cond b (report_ledger l.head l.rows) (tally_ledger l.head l.entries)

      state : (b : Bool) → cond b (take_report M from.number (cond b (cond b (report_ledger l.head l.rows) (tally_ledger l.head l.entries)) (counted c M.jobs from.number (cond b (report_ledger l.head l.rows) (tally_ledger l.head l.entries)))))
          (take_demand (meet_app fresh M from.number) from.number (cond b (cond b (report_ledger l.head l.rows) (tally_ledger l.head l.entries)) (counted c M.jobs from.number (cond b (report_ledger l.head l.rows) (tally_ledger l.head l.entries)))))
          ≡ cond b (take_report M from.number (cond b l (counted c M.jobs from.number l))) (take_demand (meet_app fresh M from.number) from.number (cond b l (counted c M.jobs from.number l)))
      state true = refl
      state false = refl

      adopt : (b : Bool) → cond (b && (true && adopts M from.number (cond b (cond b (report_ledger l.head l.rows) (tally_ledger l.head l.entries)) (counted c M.jobs from.number (cond b (report_ledger l.head l.rows) (tally_ledger l.head l.entries)))))) (from ∷ []) []
          ≡ cond (b && (true && adopts M from.number (cond b l (counted c M.jobs from.number l)))) (from ∷ []) []
      adopt true = refl
      adopt false = refl

  tells_nothing : (k l : Ledger) → TellsAlike false k l
  tells_nothing k l = record { state = state (is_agent from); adopted = adopt (is_agent from) }
    where
      state : (b : Bool) → cond b M (meet_app fresh M from.number) ≡ cond b M (meet_app fresh M from.number)
      state b = refl

      adopt : (b : Bool) → cond (b && (false && adopts M from.number (cond b k (counted c M.jobs from.number k)))) (from ∷ []) [] ≡ cond (b && (false && adopts M from.number (cond b l (counted c M.jobs from.number l)))) (from ∷ []) []
      adopt true = refl
      adopt false = refl

  tells_alike : (taken : Bool) (k l : Ledger) → (taken ≡ true → k ≡ received_as master_id from l) → TellsAlike taken k l
  tells_alike true k l e = subst (λ x. TellsAlike true x l) (sym (e refl)) (tells_received l)
  tells_alike false k l e = tells_nothing k l

told_epoch : (M : Master) (fresh taken : Bool) (from : Id) (l : Ledger) → (told_of M fresh taken from l).epoch ≡ M.epoch
told_epoch M fresh taken from l = by (is_agent from) taken
  where
    report : (b : Bool) → (cond b (record M { reported = with_number from.number M.reported; table = cond (has_number from.number M.bans) M.table (adopted M.jobs from.number l.rows M.table) }) M).epoch ≡ M.epoch
    report true = refl
    report false = refl

    met : (b : Bool) → (meet_app b M from.number).epoch ≡ M.epoch
    met true = refl
    met false = refl

    demand : (N : Master) (b : Bool) → (cond b (record N { demands = put nat_cmp from.number l N.demands; table = credit from.number (credited_of N from.number) l.entries N.table; credited = put nat_cmp from.number (raise_credited (credited_of N from.number) l.entries) N.credited }) (record N { demands = put nat_cmp from.number nothing N.demands })).epoch ≡ N.epoch
    demand N true = refl
    demand N false = refl

    by : (a t : Bool) → (cond a (cond t (take_report M from.number l) M) (cond t (take_demand (meet_app fresh M from.number) from.number l) (meet_app fresh M from.number))).epoch ≡ M.epoch
    by true true = report (adopts M from.number l)
    by true false = refl
    by false true = demand (meet_app fresh M from.number) (nat_eq l.head (meet_app fresh M from.number).epoch && is_live (meet_app fresh M from.number).jobs from.number) ∙ met fresh
    by false false = met fresh

-- the sides after a packet of a peer was heard
heard_sides : (net : Net Ledger) (p : Party) (talks : Id → Bool) (x : Packet) (e : Side) → e ≡ side_at net p x.from.id (heard_of net p talks x).link → sides_of (comes net p talks (Some x)) p ≡ set_side (sides_of net p) x.from.id e
heard_sides net p talks x e is = λ i q. one q i
  where
    one : (q : Id) → side_of (comes net p talks (Some x)) p q ≡ set_side (sides_of net p) x.from.id e q
    one q = elim (same_id x.from.id q) as (λ b. same_id x.from.id q ≡ b → side_of (comes net p talks (Some x)) p q ≡ elim b as (λ _. Side) [ true ↦ e | false ↦ side_of net p q ]) [
      | true ↦ λ t. ap (side_of (comes net p talks (Some x)) p) (sym (id_is x.from.id q t)) ∙ ap (side_at net p x.from.id) (set_here net.links p x.from.id (heard_of net p talks x).link) ∙ sym is
      | false ↦ λ t. ap (side_at net p q) (elsewhere net.links p x.from.id (heard_of net p talks x).link p q t)
    ] refl

-- hearing a packet
pub master_hears_alike : (excess : Id → Ledger → Option (Sum × Res)) (w : World) (M : Master) (which : ℕ) (x : Packet) → slice_get w.net.packets which ≡ Some x → Sound shape w.net → x.to.id ≡ master_id
    → (talks w.cluster M x.from.id ≡ true → Leads (excess x.from.id) x.from.id x.to.id (w.net.histories x.from x.to.id)) → MasterHearsAlike excess w M x
master_hears_alike excess w M which x there s to leads = by (talks w.cluster M x.from.id) refl
  where
    by : (t : Bool) → talks w.cluster M x.from.id ≡ t → MasterHearsAlike excess w M x
    by true e =
        let c = w.cluster in
        let p = master_party M in
        let from = x.from.id in
        let h = heard_of w.net p (talks c M) x in
        let names = found_within (λ y. PacketNames shape w.net.histories y.kind y) w.net.packets which x s.packets there in
        let a = subst (λ b. HeardAlike w.net p x from h (hears_side p b (excess from) (side_of w.net p from) (parcel_of w.net x))) e (hears_alike w.net p x (excess from) (talks c M from) names (leads e)) in
        let k = hears_side p true (excess from) (side_of w.net p from) (parcel_of w.net x) in
        let net = comes w.net p (talks c M) (Some x) in
        let sides : sides_of net p ≡ set_side (sides_of w.net p) from k.side = heard_sides w.net p (talks c M) x k.side a.side in
        let t = tells_alike c M h.fresh from (is_taken h.what) k.side.got (content w.net x) (λ i. a.took (is_taken_is h.what i) ∙ ap (λ d. received_as d from (content w.net x)) to) in
        let word : is_taken k.what ≡ is_taken h.what = ap is_taken a.what in
        let now = told M h from (received c M w.net x) in
        let even_if_equal = adopted_now M h from (received c M w.net x) in
        let now' = told_of M k.fresh (is_taken k.what) from (said c M from k.side.got) in
        let even_if_equal' = adopted_of M (is_taken k.what) from (said c M from k.side.got) in
        let same : now ≡ now' = sym (t.state) ∙ (λ i. told_of M (sym a.fresh i) (sym word i) from (said c M from k.side.got)) in
        let same_forced : even_if_equal ≡ even_if_equal' = sym t.adopted ∙ (λ i. adopted_of M (sym word i) from (said c M from k.side.got)) in
        let epoch : now.epoch ≡ M.epoch = told_epoch M h.fresh (is_taken h.what) from (received c M w.net x) in
        let role : master_seen (end_step w net now even_if_equal) (ready c now) ≡ ends_alone c (set_side (sides_of w.net p) from k.side) now' even_if_equal' =
        ends_alike w net now even_if_equal ∙ (λ i. ends_alone c (sides_of net (party master_id (epoch i))) now even_if_equal) ∙ (λ i. ends_alone c (sides i) (same i) (same_forced i)) in
        let l : Leaves (master_party now) w.net net = subst (λ n. Leaves (party master_id n) w.net net) (sym epoch) (comes_leaves w.net p (talks c M) x) in
        let acts : OneActs w.net (end_step w net now even_if_equal).net p [] =
        subst (λ n. OneActs w.net (end_step w net now even_if_equal).net (party master_id n) []) epoch (ends_acts w w net now even_if_equal s l (record { longer = (grows_itself w.net).longer }) refl) in
        let r = master_seen w M in
        record {
          now = ready c now;
          acts = subst (λ b. MasterActs w (cond b (end_step w net now even_if_equal) w) M (ready c now) (cond b (master_told r from k) (record { fresh = false; what = Stranger; role = r })).role []) (sym e) (record { acts = acts; role = role; epoch = ready_epoch c now ∙ epoch; stands = λ _. found_here (ready c now).epoch (ready c now) w.masters; others = λ e' no. put_beside (ready c now).epoch e' (ready c now) w.masters no; rest = refl });
          hard = ap (λ b. (cond b (end_step w net now even_if_equal) w).hard) e;
          fresh = subst (λ b. (cond b (master_told r from k) (record { fresh = false; what = Stranger; role = r })).fresh ≡ h.fresh) (sym e) a.fresh;
          what = subst (λ b. (cond b (master_told r from k) (record { fresh = false; what = Stranger; role = r })).what ≡ h.what) (sym e) a.what;
        }
    by false e =
        let c = w.cluster in
        let p = master_party M in
        let from = x.from.id in
        let h = heard_of w.net p (talks c M) x in
        let k = hears_side p true (excess from) (side_of w.net p from) (parcel_of w.net x) in
        let net = comes w.net p (talks c M) (Some x) in
        let now = told M h from (received c M w.net x) in
        let even_if_equal = adopted_now M h from (received c M w.net x) in
        let none : h ≡ unmoved Stranger (w.net.links p from) = ap (λ b. hear p b (last w.net p from) (w.net.links p from) x) e ∙ strange (same_id x.to.id p.id) (unmoved Stranger (w.net.links p from)) _ in
        let r = master_seen w M in
        let unheard : MasterHeard = record { fresh = false; what = Stranger; role = r } in
        record {
          now = M;
          acts = subst (λ b. MasterActs w (cond b (end_step w net now even_if_equal) w) M M (cond b (master_told r from k) unheard).role []) (sym e) (record { acts = quiet_acts w.net w.net p s (leaves_nothing p w.net) (grows_itself w.net) refl; role = refl; epoch = refl; stands = λ f. f; others = λ _ _. refl; rest = refl });
          hard = ap (λ b. (cond b (end_step w net now even_if_equal) w).hard) e;
          fresh = subst (λ b. (cond b (master_told r from k) unheard).fresh ≡ h.fresh) (sym e) (sym (ap (λ (y : Heard). y.fresh) none));
          what = subst (λ b. (cond b (master_told r from k) unheard).what ≡ h.what) (sym e) (sym (ap (λ (y : Heard). y.what) none));
        }

-- A command: the master's state is another, and the step ends
pub commanded_alike : (w : World) (hard : HardState) (M N : Master) (even_if_equal : List Id) → N.epoch ≡ M.epoch → Sound shape w.net
    → MasterActs w (end_step (record w { hard = hard }) w.net N even_if_equal) M (ready w.cluster N) (ends_alone w.cluster (sides_of w.net (master_party M)) N even_if_equal) []
commanded_alike w hard M N even_if_equal epoch s = record {
  acts = subst (λ n. OneActs w.net (end_step (record w { hard = hard }) w.net N even_if_equal).net (party master_id n) []) epoch (ends_acts w (record w { hard = hard }) w.net N even_if_equal s (leaves_nothing (master_party N) w.net) (grows_itself w.net) refl);
  epoch = ready_epoch w.cluster N ∙ epoch;
  stands = λ _. found_here (ready w.cluster N).epoch (ready w.cluster N) w.masters;
  others = λ e no. put_beside (ready w.cluster N).epoch e (ready w.cluster N) w.masters no;
  rest = refl;
  role = ends_alike (record w { hard = hard }) w.net N even_if_equal ∙ (λ i. ends_alone w.cluster (sides_of w.net (party master_id (epoch i))) N even_if_equal);
}

-- the epoch stays
change_epoch : (c : ClusterRecord) (M : Master) (x : MasterChange) (d : Changed) → change_of c M x ≡ Ok d → d.state.epoch ≡ M.epoch
change_epoch c M (Admits j) d e = let same : record { state = record M { jobs = with_job j M.jobs }; even_if_equal = app_id j.number ∷ [] } ≡ d = cc in ap (λ (d : Changed). d.state.epoch) (sym same)
change_epoch c M (Ends a) d e = let same : record { state = ended_in M a; even_if_equal = [] } ≡ d = cc in ap (λ (d : Changed). d.state.epoch) (sym same)
change_epoch c M (Bans m) d e = let same : record { state = banned_in M m; even_if_equal = [] } ≡ d = cc in ap (λ (d : Changed). d.state.epoch) (sym same)
change_epoch c M (Unbans m) d e = let same : record { state = record M { bans = without_number m M.bans }; even_if_equal = [] } ≡ d = cc in ap (λ (d : Changed). d.state.epoch) (sym same)
change_epoch c M Begins d e = by (first_refusal ((M.serving, AlreadyServing) ∷ [])) e
  where
    by : (o : Option Refusal) → (elim o as (λ _. Result Changed Refusal) [ None ↦ Ok (record { state = record M { serving = true }; even_if_equal = [] }) | Some f ↦ Err f ]) ≡ Ok d → d.state.epoch ≡ M.epoch
    by None e = let same : record { state = record M { serving = true }; even_if_equal = [] } ≡ d = cc in ap (λ (d : Changed). d.state.epoch) (sym same)
    by (Some f) e = cc
change_epoch c M Preempts d e = by (first_refusal ((not M.serving, NotServing) ∷ [])) (plan_of c M) e
  where
    by : (o : Option Refusal) (p : Option Plan) → (elim o as (λ _. Result Changed Refusal) [ None ↦ with_found p (Err NothingToPreempt) (λ p. Ok (record { state = preempted M p; even_if_equal = [] })) | Some f ↦ Err f ]) ≡ Ok d → d.state.epoch ≡ M.epoch
    by None None e = cc
    by None (Some p) e = let same : record { state = preempted M p; even_if_equal = [] } ≡ d = cc in ap (λ (d : Changed). d.state.epoch) (sym same)
    by (Some f) p e = cc

made_epoch : (h : HardState) (M : Master) (r : Result Changed Refusal) (k : Commanded) → ((d : Changed) → r ≡ Ok d → d.state.epoch ≡ M.epoch) → then_do r (λ d. Ok (record { hard = h; change = d })) ≡ Ok k → k.change.state.epoch ≡ M.epoch
made_epoch h M (Ok d) k f e = let same : record { hard = h; change = d } ≡ k = cc in ap (λ (k : Commanded). k.change.state.epoch) (sym same) ∙ f d refl
made_epoch h M (Err r) k f e = cc

wrote_epoch : (c : ClusterRecord) (M : Master) (x : MasterChange) (k : Commanded) (o : Option Refusal) (r : Result HardState Refusal) → (elim o as (λ _. Result Commanded Refusal) [ None ↦ then_do r (λ h. changes c h M x) | Some f ↦ Err f ]) ≡ Ok k → k.change.state.epoch ≡ M.epoch
wrote_epoch c M x k None (Ok h) e = made_epoch h M (change_of c M x) k (change_epoch c M x) e
wrote_epoch c M x k None (Err r) e = cc
wrote_epoch c M x k (Some f) r e = cc

command_epoch : (c : ClusterRecord) (h : HardState) (M : Master) (x : MasterCommand) (k : Commanded) → command_of c h M x ≡ Ok k → k.change.state.epoch ≡ M.epoch
command_epoch c h M (Submits j) k e = wrote_epoch c M (Admits (eight_places j)) k (first_refusal ((not (has_group c j.group), NoGroup) ∷ job_tests c.resources j)) (hard_step h M.epoch (Submission (eight_places j))) e
command_epoch c h M (Finishes a) k e = wrote_epoch c M (Ends a) k None (hard_step h M.epoch (Finishing a)) e
command_epoch c h M (BansMachine m) k e = wrote_epoch c M (Bans m) k (first_refusal ((not (has_machine c m), NoMachine) ∷ [])) (hard_step h M.epoch (Banning m)) e
command_epoch c h M (UnbansMachine m) k e = wrote_epoch c M (Unbans m) k (first_refusal ((not (has_machine c m), NoMachine) ∷ [])) (hard_step h M.epoch (Unbanning m)) e
command_epoch c h M StartsServing k e = made_epoch h M (change_of c M Begins) k (change_epoch c M Begins) e
command_epoch c h M MakesRoom k e = made_epoch h M (change_of c M Preempts) k (change_epoch c M Preempts) e

-- each command of a master, in the world and by itself
pub master_commands_alike : (w : World) (e : ℕ) (M : Master) (x : MasterCommand) → Sound shape w.net → find nat_cmp e w.masters ≡ Some M → MasterCommanded w M (commanded w e x) (master_commanded (master_seen w M) w.hard x)
master_commands_alike w e M x s found =
    let f : Commanded → Step = λ k. prints_nothing (end_step (record w { hard = k.hard }) w.net k.change.state k.change.even_if_equal) in
    subst (λ o. MasterCommanded w M (with_found o (refused w NotRunning) (λ M. on_result w (command_of w.cluster w.hard M x) (λ k. prints_nothing (end_step (record w { hard = k.hard }) w.net k.change.state k.change.even_if_equal)))) (master_commanded (master_seen w M) w.hard x))
    (sym found) (by f (λ k. refl) (command_of w.cluster w.hard M x) refl)
  where
    by : (f : Commanded → Step) → ((k : Commanded) → f k ≡ prints_nothing (end_step (record w { hard = k.hard }) w.net k.change.state k.change.even_if_equal)) → (r : Result Commanded Refusal) → command_of w.cluster w.hard M x ≡ r
        → MasterCommanded w M (on_result w r (λ k. prints_nothing (end_step (record w { hard = k.hard }) w.net k.change.state k.change.even_if_equal))) (then_do r (λ k. Ok (master_changed (master_seen w M) k.change, k.hard)))
    by f is (Ok k) r = record {
      done = λ role h e.
          let same : (master_changed (master_seen w M) k.change, k.hard) ≡ (role, h) = cc in
          let s' : Step = prints_nothing (end_step (record w { hard = k.hard }) w.net k.change.state k.change.even_if_equal) in
          subst (λ (q : MasterRole × HardState). MasterActs w s'.world M q.0.state q.0 [] × (s'.world.hard ≡ q.1)) same
          (commanded_alike w k.hard M k.change.state k.change.even_if_equal (command_epoch w.cluster w.hard M x k r) s, refl);
      not_done = λ f e. cc;
    }
    by f is (Err r) t = record { done = λ role h e. absurd (cc); not_done = λ f e. let same : r ≡ f = cc in ap (refused w) same }

-- A turn to all peers
sent_all : (net : Net Ledger) (p : Party) (qs : List Id) → (send_all net p qs).packets ≡ net.packets ++ flat_map (λ q. turn net p q) qs
sent_all net p [] = sym (append-nil net.packets)
sent_all net p (q ∷ qs) = sent_all (move net (Turns p q)) p qs ∙ append_assoc net.packets (turn net p q) (flat_map (λ q. turn net p q) qs)

send_all_links : (net : Net Ledger) (p : Party) (qs : List Id) → ((send_all net p qs).links ≡ net.links) × ((send_all net p qs).histories ≡ net.histories)
send_all_links net p [] = (refl, refl)
send_all_links net p (q ∷ qs) = send_all_links (move net (Turns p q)) p qs

turned_parcels : (net net' : Net Ledger) (p : Party) (qs : List Id) → net'.histories ≡ net.histories → map (parcel_of net') (flat_map (λ q. turn net p q) qs) ≡ flat_map (λ q. turn_parcels p q (side_of net p q)) qs
turned_parcels net net' p [] same = refl
turned_parcels net net' p (q ∷ qs) same =
    map-append (parcel_of net') (turn net p q) (flat_map (λ q. turn net p q) qs)
    ∙ (λ i. one i ++ turned_parcels net net' p qs same i)
  where
    one : map (parcel_of net') (turn net p q) ≡ turn_parcels p q (side_of net p q)
    one = (λ i. map (parcel_of (record { links = net'.links; histories = same i; packets = net'.packets })) (turn net p q)) ∙ turn_parcels_alike net p q

-- the turn to all peers
pub master_turn_alike : (w : World) (M : Master) → Sound shape w.net → MasterActs w (turned w (master_party M) (peers w.cluster M)).world M M (master_seen w M) (master_turn (master_seen w M))
master_turn_alike w M s =
    let p = master_party M in
    let qs = peers w.cluster M in
    let net = send_all w.net p qs in
    let kept = send_all_links w.net p qs in
    record {
      acts = record {
        others = λ p' q e i. record { link = kept.0 i p' q; got = received_as p'.id q (at_index nothing (kept.1 i (party q (kept.0 i p' q).known) p'.id) (kept.0 i p' q).seq); sent = kept.1 i p' q };
        packets = ap (map (parcel_of net)) (sent_all w.net p qs) ∙ map-append (parcel_of net) w.net.packets (flat_map (λ q. turn w.net p q) qs)
            ∙ (λ i. map (parcel_of (record { links = net.links; histories = kept.1 i; packets = net.packets })) w.net.packets ++ turned_parcels w.net net p qs kept.1 i);
      };
      epoch = refl;
      stands = λ f. f;
      others = λ _ _. refl;
      rest = refl;
      role = λ i. record { cluster = w.cluster; state = M; sides = λ q. record { link = kept.0 i p q; got = received_as p.id q (at_index nothing (kept.1 i (party q (kept.0 i p q).known) p.id) (kept.0 i p q).seq); sent = kept.1 i p q } };
    }

-- A resync of all peers
resynced_one : (net : Net Ledger) (p : Party) (a q : Id) → side_of (move net (Resyncs p a)) p q ≡ set_side (sides_of net p) a (resynced_side (side_of net p a)) q
resynced_one net p a q =
    let l : Link = record { known = (net.links p a).known; seq = (net.links p a).seq; acked = 0 } in
    elim (same_id a q) as (λ b. same_id a q ≡ b → side_of (move net (Resyncs p a)) p q ≡ elim b as (λ _. Side) [ true ↦ resynced_side (side_of net p a) | false ↦ side_of net p q ]) [
      | true ↦ λ t. ap (side_of (move net (Resyncs p a)) p) (sym (id_is a q t)) ∙ ap (side_at net p a) (set_here net.links p a l)
      | false ↦ λ t. ap (side_at net p q) (elsewhere net.links p a l p q t)
    ] refl

resynced_sides : (net : Net Ledger) (p : Party) (qs : List Id) → sides_of (resync_all net p qs) p ≡ resync_alone (sides_of net p) qs
resynced_sides net p [] = refl
resynced_sides net p (a ∷ qs) = resynced_sides (move net (Resyncs p a)) p qs ∙ ap (λ s. resync_alone s qs) (λ i q. resynced_one net p a q i)

resync_packets : (net : Net Ledger) (p : Party) (qs : List Id) → (resync_all net p qs).packets ≡ net.packets
resync_packets net p [] = refl
resync_packets net p (a ∷ qs) = resync_packets (move net (Resyncs p a)) p qs

resync_histories : (net : Net Ledger) (p : Party) (qs : List Id) → (resync_all net p qs).histories ≡ net.histories
resync_histories net p [] = refl
resync_histories net p (a ∷ qs) = resync_histories (move net (Resyncs p a)) p qs

-- the resync of all peers
pub master_resync_alike : (w : World) (M : Master) → Sound shape w.net
    → MasterActs w (resynced w (master_party M) (peers w.cluster M)).world M M (record { cluster = w.cluster; state = M; sides = resync_alone (sides_of w.net (master_party M)) (peers w.cluster M) }) []
master_resync_alike w M s =
    let p = master_party M in
    let qs = peers w.cluster M in
    let r = resync_all_acted w.net p qs s in
    let grown : Grows shape w.net.histories (resync_all w.net p qs).histories = subst (Grows shape w.net.histories) (sym (resync_histories w.net p qs)) (record { longer = (grows_itself w.net).longer }) in
    record {
      acts = quiet_acts w.net (resync_all w.net p qs) p s r.leaves grown (resync_packets w.net p qs);
      epoch = refl;
      stands = λ f. f;
      others = λ _ _. refl;
      rest = refl;
      role = λ i. record { cluster = w.cluster; state = M; sides = resynced_sides w.net p qs i };
    }

-- A start: all histories of the new epoch are empty, and nothing is known of any peer
pub master_start_sides : (net : Net Ledger) (e : ℕ) → ((q : Id) → net.histories (party master_id e) q ≡ []) → sides_of (move net (Starts (party master_id e))) (party master_id e) ≡ (λ q. record { link = unknown; got = received_as master_id q nothing; sent = [] })
master_start_sides net e none = λ i q. record {
  link = link q i;
  got = received_as master_id q (at_index nothing (net.histories (party q (link q i).known) master_id) (link q i).seq);
  sent = none q i;
}
  where
    link : (q : Id) → (move net (Starts (party master_id e))).links (party master_id e) q ≡ unknown
    link q = ap (λ c. elim c as (λ _. Link) [ true ↦ unknown | false ↦ net.links (party master_id e) q ]) (same_party_itself (party master_id e))

nothing_received : (q : Id) → received_as master_id q nothing ≡ nothing
nothing_received q = by (is_agent q)
  where
    by : (b : Bool) → cond b (report_ledger nothing.head nothing.rows) (tally_ledger nothing.head nothing.entries) ≡ nothing
    by true = refl
    by false = refl

-- the start of a master, with the end of its first step
pub master_start_alike : (w : World) (h : HardState) (ran : List Party) (e : ℕ) → Sound shape w.net → ((q : Id) → w.net.histories (party master_id e) q ≡ []) → MasterStarts w h ran e
master_start_alike w h ran e s none =
    let p = party master_id e in
    let net = move w.net (Starts p) in
    let M = new_master h e in
    let even_if_equal = map app_id (job_numbers h.jobs) in
    let R = ready w.cluster M in
    let sides : sides_of net p ≡ (λ q. new_side) = master_start_sides w.net e none ∙ (λ i q. record { link = unknown; got = nothing_received q i; sent = [] }) in
    record {
      acts = record {
        acts = ends_acts w (record w { hard = h; ran = ran }) net M even_if_equal s (start_leaves w.net p) (record { longer = (grows_itself w.net).longer }) refl;
        role = ends_alike (record w { hard = h; ran = ran }) net M even_if_equal ∙ ap (λ (z : Id → Side). ends_alone w.cluster z M even_if_equal) sides;
        epoch = ready_epoch w.cluster M;
        stands = λ _. found_here R.epoch R w.masters;
        others = λ e' no. put_beside R.epoch e' R w.masters no;
        rest = refl;
      };
      stands = found_here R.epoch R w.masters;
    }
