-- Demands are heeded.
use Rattle.std.proofs.Common.{◌≡◌, ◌⊎◌, inl, inr, ℕ, Bool, true, false, cond, not, nat_eq, nat_lt, List, [], ◌∷◌, ◌++◌, length, map, Option, Some, None, refl, sym, ◌∙◌, ap, subst, arith}
use Rattle.std.specs.Prelude.{⊤, ◌&&◌, is_some}
use Rattle.std.specs.Option.{unwrap_or, option_map}
use Rattle.std.specs.Ordering.{nat_cmp}
use Rattle.std.specs.FinMap.Entries.{find, put, find-where_key}
use Rattle.std.proofs.lemmas.Bool.Decides.{nat_tests}
use Rattle.fuxi_terms.specs.declared.Key.{Key}
use Rattle.fuxi_terms.specs.declared.answers.What.{What}
use Rattle.fuxi_terms.specs.declared.answers.What.TheVariants.{Stranger, Stale, Ack as Acked, NotMine, Old, Gap, Taken, Ledger as SaysLedger, Exceeds as SaysExceeds}
use Rattle.fuxi_terms.specs.Cluster.{ClusterRecord, JobRecord}
use Rattle.fuxi_terms.specs.Jobs.{KnownJob, job_of, is_known, is_live, unit_count, eight_places, job_numbers}
use Rattle.fuxi_terms.specs.Keys.{key_cmp}
use Rattle.fuxi_terms.specs.Numbers.{without_number}
use Rattle.fuxi_terms.proofs.Booleans.{either, number_is}
use Rattle.fuxi_terms.proofs.KeyOrders.{same_key}
use Rattle.spec_net.specs.Net.{Net, Party, Id, Link, Packet, Heard, met, word_of, link_after, unmoved, hear, hear_peer, heard_of, is_taken, comes, move, Starts, same_id, same_party, last, at_index, set_at}
use Rattle.spec_net.specs.Ledgers.{Ledger, nothing, at_key}
use Rattle.spec_net.specs.Channels.{master_id, agent_id, app_id, party, is_master, is_agent, view, present, Offer, publish, to_master, send_all, resync_all, content, shape}
use Rattle.spec_net.specs.Sound.{Sound, PacketNames}
use Rattle.spec_net.proofs.BoundedLemmas.{found_within}
use Rattle.spec_net.proofs.NetLemmas.{id_is, party_is}
use Rattle.spec_net.proofs.SoundLemmas.{Grows, taken_names}
use Rattle.spec_net.proofs.PublishLemmas.{set_here, set_beside, Leaves, leaves_nothing, leaves_then, start_leaves, comes_leaves, publish_links, publish_leaves, publish_grows, grows_itself, grows_then, view_grows, Acted, resync_all_acted}
use Rattle.spec_roles.specs.Agents.{joined_report}
use Rattle.spec_roles.specs.Apps.{changed_demand, joined_demand, command_key, command_number}
use Rattle.spec_roles.specs.HardState.{HardState, raised, submitted, finished, banned, unbanned, with_job, with_ended}
use Rattle.spec_roles.specs.Masters.{Master, asked, demand_of, credited_of}
use Rattle.spec_roles.specs.MasterSteps.{master_party, talks, peers, ready, is_there, counted, credit, raise_credited, take_demand, meet_app, ended_in, banned_in, new_master}
use Rattle.spec_roles.specs.Preemption.{preempted}
use Rattle.spec_roles.proofs.GrowsAllowed.{ended_job}
use Rattle.spec_roles.proofs.MapLemmas.{found_put, put_beside}
use Rattle.spec_roles.proofs.TransitionsLemmas.{EachHeard, heard_has, ready_besides}
use Rattle.spec_world.specs.World.{World, empty_world}
use Rattle.spec_world.specs.Parties.{end_step, offers, told, received, adopted_now, joined, agent_table}
use Rattle.spec_world.specs.Events.{Event, packet_of, given_back}
use Rattle.spec_world.specs.Good.{Invariant, IsShowing}
use Rattle.spec_world.specs.HeedsDemands.{AllHeed}
use Rattle.spec_world.specs.Runs.{run}
use Rattle.spec_world.proofs.CreditsLemmas.{taken_places}
use Rattle.spec_world.proofs.EventsWalk.{WorldKept, run_keeps_world, unasked}
use Rattle.spec_world.proofs.GivesBackLemmas.{heard_beside, other_job, taken_known, told_app}
use Rattle.spec_world.proofs.Invariant.{put_found, ready_epoch}
use Rattle.spec_world.proofs.InvariantKept.{SameMaster, always, events_hold, told_same}
use Rattle.spec_world.proofs.KeepsGrantsLemmas.{sent_links, sent_histories, IsUntaken, untaken}
use Rattle.spec_world.proofs.StartsLemmas.{new_link}
use Rattle.spec_world.proofs.LeftLemmas.{still_runs}
use Rattle.spec_world.proofs.EventStepsLemmas.{master_is}

-- what a master's wishes are
record Heeds (c : ClusterRecord) (net : Net Ledger) (M : Master) : Type 0 where
  it : (a : ℕ) → is_live M.jobs a ≡ true → (k : Key) → asked M a k ≡ cond (is_there c (unit_count M.jobs a) k) (at_key (view net (master_party M) (app_id a)) k) 0

-- where what is seen stays
same_views : (c : ClusterRecord) (net net' : Net Ledger) (M : Master) → ((a : ℕ) → view net' (master_party M) (app_id a) ≡ view net (master_party M) (app_id a)) → Heeds c net M → Heeds c net' M
same_views c net net' M same h = record { it = λ a live k. h.it a live k ∙ ap (λ (l : Ledger). cond (is_there c (unit_count M.jobs a) k) (at_key l k) 0) (sym (same a)) }

left_views : (c : ClusterRecord) (net net' : Net Ledger) (q : Party) (M : Master) → Sound shape net → Leaves q net net' → same_party q (master_party M) ≡ false → Grows shape net.histories net'.histories → Heeds c net M → Heeds c net' M
left_views c net net' q M s l other g h = same_views c net net' M (λ a. view_grows net net' (master_party M) (app_id a) s (l.links (master_party M) (app_id a) other) g) h

-- a master that wants the same
same_wishes : (c : ClusterRecord) (net : Net Ledger) (M N : Master) → N.epoch ≡ M.epoch → N.jobs ≡ M.jobs → N.demands ≡ M.demands → Heeds c net M → Heeds c net N
same_wishes c net M N epoch jobs demands h = record {
  it = λ a live k.
      ap (λ ds. at_key (unwrap_or (find nat_cmp a ds) nothing) k) demands ∙ h.it a (subst (λ (js : List KnownJob). is_live js a ≡ true) jobs live) k
      ∙ (λ i. cond (is_there c (unit_count (sym jobs i) a) k) (at_key (view net (party master_id (sym epoch i)) (app_id a)) k) 0);
}

-- the end of a step
ends_view : (net : Net Ledger) (R : Master) (os : List Offer) (a : ℕ) → view (publish net (master_party R) os) (master_party R) (app_id a) ≡ view net (master_party R) (app_id a)
ends_view net R os a =
    let l = publish_links net (master_party R) os in
    ap (λ (f : Party → Id → Link). at_index nothing ((publish net (master_party R) os).histories (party (app_id a) (f (master_party R) (app_id a)).known) master_id) (f (master_party R) (app_id a)).seq) l
    ∙ ap (λ (h : List Ledger). at_index nothing h (net.links (master_party R) (app_id a)).seq) ((publish_leaves net (master_party R) os).histories (party (app_id a) (net.links (master_party R) (app_id a)).known) master_id refl)

record AreHeeding (c : ClusterRecord) (net : Net Ledger) (masters : List (ℕ × Master)) : Type 0 where
  it : (e : ℕ) (M : Master) → find nat_cmp e masters ≡ Some M → Heeds c net M

module _ (w : World) (h : Invariant w) (b : AreHeeding w.cluster w.net w.masters) where
  ends : (net : Net Ledger) (X : Master) (even_if_equal : List Id) (u : World) (e : ℕ) → u.masters ≡ w.masters → u.cluster ≡ w.cluster → X.epoch ≡ e → Leaves (party master_id e) w.net net → Grows shape w.net.histories net.histories → Heeds w.cluster net X
      → AreHeeding w.cluster (end_step u net X even_if_equal).net (end_step u net X even_if_equal).masters
  ends net X even_if_equal u e same at is l g own = record { it = λ k N f. by k N (put_found k R.epoch R N u.masters f) }
    where
      R : Master
      R = ready u.cluster X

      os : List Offer
      os = offers u.cluster net R even_if_equal

      net' : Net Ledger
      net' = publish net (master_party R) os

      epoch : e ≡ R.epoch
      epoch = sym (ready_epoch u.cluster X ∙ is)

      mine : Heeds w.cluster net' R
      mine = same_views w.cluster net net' R (ends_view net R os) (same_wishes w.cluster net X R (ready_epoch u.cluster X) (ready_besides u.cluster X).jobs (ready_besides u.cluster X).demands own)

      by : (k : ℕ) (N : Master) → ((nat_eq R.epoch k ≡ false) × (find nat_cmp k u.masters ≡ Some N)) ⊎ ((k ≡ R.epoch) × (R ≡ N)) → Heeds w.cluster net' N
      by k N (inl o) =
          let found : find nat_cmp k w.masters ≡ Some N = ap (λ ms. find nat_cmp k ms) (sym same) ∙ o.1 in
          left_views w.cluster w.net net' (master_party R) N h.sound (leaves_then (master_party R) w.net net net' (subst (λ n. Leaves (party master_id n) w.net net) epoch l) (publish_leaves net (master_party R) os))
          (ap (λ n. true && nat_eq R.epoch n) (h.masters k N found).epoch ∙ o.0) (grows_then w.net net net' g (publish_grows net (master_party R) os)) (b.it k N found)
      by k N (inr o) = subst (Heeds w.cluster net') o.1 mine

  acts : (u : World) (X : Master) (even_if_equal : List Id) → u.masters ≡ w.masters → u.cluster ≡ w.cluster → Heeds w.cluster w.net X → AreHeeding w.cluster (end_step u w.net X even_if_equal).net (end_step u w.net X even_if_equal).masters
  acts u X even_if_equal same at own = ends w.net X even_if_equal u X.epoch same at refl (leaves_nothing (party master_id X.epoch) w.net) (grows_itself w.net) own

  -- parties that are no masters, turns and resyncs
  others : (net : Net Ledger) (q : Party) → nat_eq q.id.role 1 ≡ false → Leaves q w.net net → Grows shape w.net.histories net.histories → AreHeeding w.cluster net w.masters
  others net q role l g = record { it = λ e M f. left_views w.cluster w.net net q M h.sound l (ap (λ t. (t && nat_eq q.id.number 0) && nat_eq q.inc M.epoch) role) g (b.it e M f) }

  joins : (q : Party) (y : Packet) (k : Ledger) → nat_eq q.id.role 1 ≡ false → AreHeeding w.cluster (joined w.net q y k) w.masters
  joins q y k role = let n = comes w.net q is_master (Some y) in
      either (λ (x : Net Ledger). AreHeeding w.cluster x w.masters) (heard_of w.net q is_master y).fresh (publish n q (to_master k)) n
      (λ _. others (publish n q (to_master k)) q role (leaves_then q w.net n (publish n q (to_master k)) (comes_leaves w.net q is_master y) (publish_leaves n q (to_master k))) (publish_grows n q (to_master k)))
      (λ _. others n q role (comes_leaves w.net q is_master y) (grows_itself w.net))

  turns : (q : Party) (qs : List Id) → AreHeeding w.cluster (send_all w.net q qs) w.masters
  turns q qs = record {
    it = λ e M f. same_views w.cluster w.net (send_all w.net q qs) M
        (λ a. ap (λ (ls : Party → Id → Link). at_index nothing ((send_all w.net q qs).histories (party (app_id a) (ls (master_party M) (app_id a)).known) master_id) (ls (master_party M) (app_id a)).seq) (sent_links w.net q qs)
        ∙ ap (λ (hs : Party → Id → List Ledger). at_index nothing (hs (party (app_id a) (w.net.links (master_party M) (app_id a)).known) master_id) (w.net.links (master_party M) (app_id a)).seq) (sent_histories w.net q qs)) (b.it e M f);
  }

  resyncs : (q : Party) (qs : List Id) → AreHeeding w.cluster (resync_all w.net q qs) w.masters
  resyncs q qs = record { it = λ e M f. by e M f (same_party q (master_party M)) refl }
    where
      r : Acted q w.net (resync_all w.net q qs)
      r = resync_all_acted w.net q qs h.sound

      by : (e : ℕ) (M : Master) → find nat_cmp e w.masters ≡ Some M → (t : Bool) → same_party q (master_party M) ≡ t → Heeds w.cluster (resync_all w.net q qs) M
      by e M f true t = let is : q ≡ master_party M = party_is q (master_party M) t in
          same_views w.cluster w.net (resync_all w.net q qs) M (λ a. subst (λ (p : Party). view (resync_all w.net q qs) p (app_id a) ≡ view w.net p (app_id a)) is
          ((λ i. at_index nothing (r.histories i (party (app_id a) (r.known (app_id a) i)) q.id) (r.seq (app_id a) i)))) (b.it e M f)
      by e M f false t = left_views w.cluster w.net (resync_all w.net q qs) q M h.sound r.leaves t (subst (Grows shape w.net.histories) (sym r.histories) (grows_itself w.net)) (b.it e M f)

-- Changes of a master. At index 0 nothing is seen
seen_none : (net : Net Ledger) (p : Party) (q : Id) → (net.links p q).seq ≡ 0 → view net p q ≡ nothing
seen_none net p q e = ap (λ n. at_index nothing (net.histories (party q (net.links p q).known) p.id) n) e

none_at : (b : Bool) → cond {A = ℕ} b 0 0 ≡ 0
none_at true = refl
none_at false = refl

-- what wants nothing where nothing is seen
unseen : (c : ClusterRecord) (units : ℕ) (net : Net Ledger) (p : Party) (q : Id) (k : Key) (n : ℕ) → n ≡ 0 → (net.links p q).seq ≡ 0 → n ≡ cond (is_there c units k) (at_key (view net p q) k) 0
unseen c units net p q k n z e = z ∙ sym (ap (λ (l : Ledger). cond (is_there c units k) (at_key l k) 0) (seen_none net p q e) ∙ none_at (is_there c units k))

known_job : (jobs : List KnownJob) (j : JobRecord) (a : ℕ) → is_known jobs a ≡ true → job_of (with_job j jobs) a ≡ job_of jobs a
known_job [] j a e = cc
known_job (i ∷ is) j a e = elim (nat_eq i.job.number a) as (λ b. is_some (cond b (Some i) (job_of is a)) ≡ true → cond b (Some i) (job_of (with_job j is) a) ≡ cond b (Some i) (job_of is a)) [ true ↦ λ _. refl | false ↦ λ e. known_job is j a e ] e

abbrev live_in : Option KnownJob → Bool
live_in o = unwrap_or (option_map (λ (i : KnownJob). not i.ended) o) false

abbrev units_in : Option KnownJob → ℕ
units_in o = length (unwrap_or (option_map (λ (i : KnownJob). i.job.units) o) [])

clash : (b : Bool) → b ≡ true → b ≡ false → ⊥
clash true e f = cc
clash false e f = cc

added_heeds : (c : ClusterRecord) (hard : HardState) (net : Net Ledger) (e : ℕ) (M : Master) (j : JobRecord) → IsShowing c hard net e M → Heeds c net M → Heeds c net (record M { jobs = with_job j M.jobs })
added_heeds c hard net e M j k h = record { it = λ a live q. by a live q (is_known M.jobs a) refl }
  where
    by : (a : ℕ) → is_live (with_job j M.jobs) a ≡ true → (q : Key) (t : Bool) → is_known M.jobs a ≡ t → asked M a q ≡ cond (is_there c (unit_count (with_job j M.jobs) a) q) (at_key (view net (master_party M) (app_id a)) q) 0
    by a live q true t =
        let same = known_job M.jobs j a t in
        h.it a (ap live_in (sym same) ∙ live) q ∙ ap (λ o. cond (is_there c (units_in o) q) (at_key (view net (master_party M) (app_id a)) q) 0) (sym same)
    by a live q false t = unseen c (unit_count (with_job j M.jobs) a) net (master_party M) (app_id a) q (asked M a q) (ap (λ (l : Ledger). at_key l q) (k.tabled.empty a (dead (job_of M.jobs a) t))) (k.credited.stranger a t)
      where
        dead : (o : Option KnownJob) → is_some o ≡ false → live_in o ≡ false
        dead None e = refl
        dead (Some i) e = cc

ended_heeds : (c : ClusterRecord) (net : Net Ledger) (M : Master) (a : ℕ) → Heeds c net M → Heeds c net (ended_in M a)
ended_heeds c net M a h = record { it = λ b live q. by b live q (nat_eq b a) refl }
  where
    dead : (js : List KnownJob) → is_live (with_ended a js) a ≡ false
    dead [] = refl
    dead (i ∷ is) = elim (nat_eq i.job.number a) as (λ t. nat_eq i.job.number a ≡ t → live_in (let i' : KnownJob = cond t (record { job = i.job; ended = true }) i in cond (nat_eq i'.job.number a) (Some i') (job_of (with_ended a is) a)) ≡ false) [
      | true ↦ λ t. ap (λ s. live_in (cond s (Some (record { job = i.job; ended = true })) (job_of (with_ended a is) a))) t
      | false ↦ λ t. ap (λ s. live_in (cond s (Some i) (job_of (with_ended a is) a))) t ∙ dead is
    ] refl

    by : (b : ℕ) → is_live (with_ended a M.jobs) b ≡ true → (q : Key) (t : Bool) → nat_eq b a ≡ t → asked (ended_in M a) b q ≡ cond (is_there c (unit_count (with_ended a M.jobs) b) q) (at_key (view net (master_party M) (app_id b)) q) 0
    by b live q true t = absurd (clash (is_live (with_ended a M.jobs) b) live (ap (is_live (with_ended a M.jobs)) (number_is b a t) ∙ dead M.jobs))
    by b live q false t =
        let same = ended_job M.jobs a b t in
        ap (λ o. at_key (unwrap_or o nothing) q) (put_beside a b nothing M.demands t) ∙ h.it b (ap live_in (sym same) ∙ live) q ∙ ap (λ o. cond (is_there c (units_in o) q) (at_key (view net (master_party M) (app_id b)) q) 0) (sym same)

-- Hearing. What is taken is at an index, with the epoch of the one who takes it
taken_is : (w : What) → is_taken w ≡ true → w ≡ Taken
taken_is Taken e = refl
taken_is Stranger e = cc
taken_is Stale e = cc
taken_is Acked e = cc
taken_is NotMine e = cc
taken_is Old e = cc
taken_is Gap e = cc
taken_is (SaysLedger f) e = cc
taken_is (SaysExceeds t r) e = cc

record IsTakenAt (hs : Party → Id → List Ledger) (own : ℕ) (x : Packet) (seq : ℕ) : Type 0 where
  place : seq ≡ x.seq
  head : x.to.id ≡ master_id → nat_eq x.from.id.role 1 ≡ false → (at_index nothing (hs x.from x.to.id) x.seq).head ≡ own

taken_at : (hs : Party → Id → List Ledger) (p : Party) (talk : Bool) (top : ℕ) (l : Link) (x : Packet) → PacketNames shape hs x.kind x → is_taken (hear p talk top l x).what ≡ true → IsTakenAt hs p.inc x (hear p talk top l x).link.seq
taken_at hs p talk top l x names e = by (not (same_id x.to.id p.id && talk)) (nat_lt x.from.inc l.known) e
  where
    m : Link
    m = met l x.from.inc

    by : (a b : Bool) → is_taken (cond a (unmoved Stranger l) (cond b (unmoved Stale l) (hear_peer p.inc top l x))).what ≡ true → IsTakenAt hs p.inc x (cond a (unmoved Stranger l) (cond b (unmoved Stale l) (hear_peer p.inc top l x))).link.seq
    by true b e = cc
    by false true e = cc
    by false false e = let is = taken_is (word_of x.kind p.inc m x) e in record {
      place = ap (λ w. (link_after w p.inc top m x).seq) is;
      head = λ to from. (taken_names shape hs x.kind p.inc m x is names).head (ap (λ t. not (t && nat_eq x.to.id.role 2)) from) (taken_places x.kind p.inc m x is).0;
    }

counted_key : (c : ClusterRecord) (jobs : List KnownJob) (a : ℕ) (d : Ledger) (k : Key) → at_key (counted c jobs a d) k ≡ cond (is_there c (unit_count jobs a) k) (at_key d k) 0
counted_key c jobs a d k =
    let p = is_there c (unit_count jobs a) in
    ap (λ o. unwrap_or o 0) (find-where_key key_cmp p k (λ x t. ap p (sym (same_key k x t))) d.entries) ∙ by (p k) (find key_cmp k d.entries)
  where
    by : (b : Bool) (o : Option ℕ) → unwrap_or (cond b o None) 0 ≡ cond b (unwrap_or o 0) 0
    by true o = refl
    by false o = refl

module _ (w : World) (h : Invariant w) (e : ℕ) (M : Master) (n : ℕ) (x : Packet) (found : find nat_cmp e w.masters ≡ Some M) (sent : packet_of w n ≡ Some x) (to : is_master x.to.id ≡ true) (t : talks w.cluster M x.from.id ≡ true) (b : Heeds w.cluster w.net M) where
  abbrev d : Heard
  d = heard_of w.net (master_party M) (talks w.cluster M) x

  abbrev l : Ledger
  l = received w.cluster M w.net x

  abbrev net0 : Net Ledger
  net0 = comes w.net (master_party M) (talks w.cluster M) (Some x)

  -- the job of what is heard
  module _ (a : ℕ) (is : x.from.id ≡ app_id a) (live : is_live M.jobs a ≡ true) (k : Key) where
    seen : Ledger
    seen = at_index nothing (w.net.histories (party (app_id a) d.link.known) master_id) d.link.seq

    abbrev Right : Master → Type 0
    Right N = asked N a k ≡ cond (is_there w.cluster (unit_count M.jobs a) k) (at_key (at_index nothing (w.net.histories (party (app_id a) d.link.known) master_id) d.link.seq) k) 0

    role : nat_eq x.from.id.role 1 ≡ false
    role = ap (λ (q : Id). nat_eq q.role 1) is

    taken_right : is_taken d.what ≡ true → Right (take_demand (meet_app d.fresh M a) a (counted w.cluster M.jobs a (content w.net x)))
    taken_right taken =
        let known = taken_known (master_party M) (talks w.cluster M x.from.id) (last w.net (master_party M) x.from.id) (w.net.links (master_party M) x.from.id) x taken in
        let at = taken_at w.net.histories (master_party M) (talks w.cluster M x.from.id) (last w.net (master_party M) x.from.id) (w.net.links (master_party M) x.from.id) x (found_within _ w.net.packets _ x h.sound.packets sent) taken in
        let entry : content w.net x ≡ at_index nothing (w.net.histories (party (app_id a) d.link.known) master_id) d.link.seq = (λ i. at_index nothing (w.net.histories (party (is i) (sym known i)) (master_is x.to.id to i)) (sym at.place i)) in
        let head : (content w.net x).head ≡ M.epoch = at.head (master_is x.to.id to) role in
        chosen d.fresh head ∙ counted_key w.cluster M.jobs a (content w.net x) k ∙ ap (λ (q : Ledger). cond (is_there w.cluster (unit_count M.jobs a) k) (at_key q k) 0) entry
      where
        demand : Ledger
        demand = counted w.cluster M.jobs a (content w.net x)

        put_so : (N : Master) → (nat_eq (content w.net x).head N.epoch && is_live N.jobs a) ≡ true → asked (take_demand N a (counted w.cluster M.jobs a (content w.net x))) a k ≡ at_key (counted w.cluster M.jobs a (content w.net x)) k
        put_so N y = either (λ (X : Master). asked X a k ≡ at_key (counted w.cluster M.jobs a (content w.net x)) k) (nat_eq (content w.net x).head N.epoch && is_live N.jobs a)
            (record N { demands = put nat_cmp a (counted w.cluster M.jobs a (content w.net x)) N.demands; table = credit a (credited_of N a) (counted w.cluster M.jobs a (content w.net x)).entries N.table; credited = put nat_cmp a (raise_credited (credited_of N a) (counted w.cluster M.jobs a (content w.net x)).entries) N.credited })
            (record N { demands = put nat_cmp a nothing N.demands })
            (λ _. ap (λ (q : Ledger). at_key q k) (found_put a (counted w.cluster M.jobs a (content w.net x)) nothing N.demands)) (λ f. absurd (clash (nat_eq (content w.net x).head N.epoch && is_live N.jobs a) y f))

        both : (content w.net x).head ≡ M.epoch → (nat_eq (content w.net x).head M.epoch && is_live M.jobs a) ≡ true
        both e = let y : nat_eq (content w.net x).head M.epoch ≡ true = grind (arith, nat_tests, e) in ap (λ z. z && is_live M.jobs a) y ∙ live

        chosen : (fresh : Bool) → (content w.net x).head ≡ M.epoch → asked (take_demand (meet_app fresh M a) a (counted w.cluster M.jobs a (content w.net x))) a k ≡ at_key (counted w.cluster M.jobs a (content w.net x)) k
        chosen true head = put_so (meet_app true M a) (both head)
        chosen false head = put_so M (both head)

    untaken_right : is_taken d.what ≡ false → Right (meet_app d.fresh M a)
    untaken_right e = by d.fresh refl
      where
        u : IsUntaken (w.net.links (master_party M) x.from.id) d
        u = untaken (master_party M) (talks w.cluster M x.from.id) (last w.net (master_party M) x.from.id) (w.net.links (master_party M) x.from.id) x e

        by : (fresh : Bool) → d.fresh ≡ fresh → Right (meet_app fresh M a)
        by true f = ap (λ (q : Ledger). at_key q k) (found_put a nothing nothing M.demands) ∙ sym (ap (λ s. cond (is_there w.cluster (unit_count M.jobs a) k) (at_key (at_index nothing (w.net.histories (party (app_id a) d.link.known) master_id) s) k) 0) (u.new f) ∙ none_at (is_there w.cluster (unit_count M.jobs a) k))
        by false f = b.it a live k ∙ (λ i. cond (is_there w.cluster (unit_count M.jobs a) k) (at_key (at_index nothing (w.net.histories (party (app_id a) (known i)) master_id) (seq i)) k) 0)
          where
            known : (w.net.links (master_party M) (app_id a)).known ≡ d.link.known
            known = ap (λ (q : Id). (w.net.links (master_party M) q).known) (sym is) ∙ sym (u.known f)

            seq : (w.net.links (master_party M) (app_id a)).seq ≡ d.link.seq
            seq = ap (λ (q : Id). (w.net.links (master_party M) q).seq) (sym is) ∙ sym (u.seq f)

  -- another job
  record KeepsDemand (a : ℕ) (N : Master) : Type 0 where
    it : demand_of N a ≡ demand_of M a

  beside : (a : ℕ) → (is_agent x.from.id ≡ false → nat_eq a x.from.id.number ≡ false) → EachHeard M d.fresh x.from.id l (KeepsDemand a)
  beside a other = heard_beside M d.fresh x.from.id l (KeepsDemand a) (record { it = refl }) (record { it = refl }) (λ app. met (other app)) (λ app. taken (other app))
    where
      met : nat_eq a x.from.id.number ≡ false → (fresh : Bool) → KeepsDemand a (meet_app fresh M x.from.id.number)
      met o true = record { it = ap (λ r. unwrap_or r nothing) (put_beside x.from.id.number a nothing M.demands o) }
      met o false = record { it = refl }

      taken : nat_eq a x.from.id.number ≡ false → (N : Master) → KeepsDemand a N → KeepsDemand a (take_demand N x.from.id.number l)
      taken o N k = either (KeepsDemand a) (nat_eq l.head N.epoch && is_live N.jobs x.from.id.number)
          (record N { demands = put nat_cmp x.from.id.number l N.demands; table = credit x.from.id.number (credited_of N x.from.id.number) l.entries N.table; credited = put nat_cmp x.from.id.number (raise_credited (credited_of N x.from.id.number) l.entries) N.credited })
          (record N { demands = put nat_cmp x.from.id.number nothing N.demands })
          (λ _. record { it = ap (λ r. unwrap_or r nothing) (put_beside x.from.id.number a l N.demands o) ∙ k.it }) (λ _. record { it = ap (λ r. unwrap_or r nothing) (put_beside x.from.id.number a nothing N.demands o) ∙ k.it })

  abbrev X : Master
  X = told M d x.from.id l

  told_right : (a : ℕ) (is : x.from.id ≡ app_id a) (live : is_live M.jobs a ≡ true) (k : Key) → Right a is live k X
  told_right a is live k =
      let path = told_app w.cluster w.net M d x a is in
      subst (Right a is live k) (sym path) (either (Right a is live k) (is_taken d.what) (take_demand (meet_app d.fresh M a) a (counted w.cluster M.jobs a (content w.net x))) (meet_app d.fresh M a) (λ taken. taken_right a is live k taken) (λ not_taken. untaken_right a is live k not_taken))

  heard_heeds : Heeds w.cluster net0 X
  heard_heeds = record { it = λ a live k. by a (subst (λ (js : List KnownJob). is_live js a ≡ true) same.jobs live) k (same_id x.from.id (app_id a)) refl }
    where
      same : SameMaster M X
      same = told_same M d x.from.id l

      -- with the place that is known then
      at : (a : ℕ) (k : Key) (p : Link) → net0.links (master_party M) (app_id a) ≡ p → asked X a k ≡ cond (is_there w.cluster (unit_count M.jobs a) k) (at_key (at_index nothing (w.net.histories (party (app_id a) p.known) master_id) p.seq) k) 0
          → asked X a k ≡ cond (is_there w.cluster (unit_count X.jobs a) k) (at_key (view net0 (master_party X) (app_id a)) k) 0
      at a k p link h = h
          ∙ ap (λ (q : Link). cond (is_there w.cluster (unit_count M.jobs a) k) (at_key (at_index nothing (w.net.histories (party (app_id a) q.known) master_id) q.seq) k) 0) (sym link)
          ∙ (λ i. cond (is_there w.cluster (unit_count (sym same.jobs i) a) k) (at_key (view net0 (party master_id (sym same.epoch i)) (app_id a)) k) 0)

      by : (a : ℕ) → is_live M.jobs a ≡ true → (k : Key) (b : Bool) → same_id x.from.id (app_id a) ≡ b → asked X a k ≡ cond (is_there w.cluster (unit_count X.jobs a) k) (at_key (view net0 (master_party X) (app_id a)) k) 0
      by a live k true f =
          let is : x.from.id ≡ app_id a = id_is x.from.id (app_id a) f in
          at a k d.link (ap (λ (q : Id). set_at w.net.links (master_party M) q d.link (master_party M) (app_id a)) is ∙ set_here w.net.links (master_party M) (app_id a) d.link) (told_right a is live k)
      by a live k false f =
          at a k (w.net.links (master_party M) (app_id a)) (set_beside w.net.links (master_party M) x.from.id d.link (app_id a) f)
          (ap (λ (q : Ledger). at_key q k) (heard_has M d.fresh (is_taken d.what) x.from.id l (KeepsDemand a) (beside a (other_job w.cluster M x t a f))).it ∙ b.it a live k)

-- Each event
record HoldsHeeding (w : World) : Type 0 where
  inv : Invariant w
  heeds : AreHeeding w.cluster w.net w.masters

new_heeds : (c : ClusterRecord) (net : Net Ledger) (hard : HardState) (e : ℕ) → ((a : ℕ) → (net.links (party master_id e) (app_id a)).seq ≡ 0) → Heeds c net (new_master hard e)
new_heeds c net hard e none = record { it = λ a live k. unseen c (unit_count hard.jobs a) net (party master_id e) (app_id a) k 0 refl (none a) }

events_heed : (w : World) → HoldsHeeding w → WorldKept HoldsHeeding (λ _. ⊤) w
events_heed w b =
    let k = events_hold w b.inv in
    let h = b.inv in
    let g = b.heeds in
    record {
      counted = record { inv = k.counted; heeds = g };
      starts = λ e n s. record { inv = k.starts e n s; heeds = ends w h g (move w.net (Starts (party master_id e))) (new_master (raised w.hard e) e) (map app_id (job_numbers w.hard.jobs)) (record w { hard = raised w.hard e; ran = w.ran ++ party master_id e ∷ [] }) e refl refl refl (start_leaves w.net (party master_id e)) (grows_itself w.net) (new_heeds w.cluster (move w.net (Starts (party master_id e))) (raised w.hard e) e (λ a. ap (λ (l : Link). l.seq) (new_link w.net master_id e (app_id a) refl))) };
      stops = λ e l. record { inv = k.stops e l; heeds = record { it = λ q M f. g.it q M (still_runs e q M w.masters f).1 } };
      starts_agent = λ m n s. record { inv = k.starts_agent m n s; heeds = others w h g (move w.net (Starts (party (agent_id m) n))) (party (agent_id m) n) refl (start_leaves w.net (party (agent_id m) n)) (grows_itself w.net) };
      starts_app = λ a n s. record { inv = k.starts_app a n s; heeds = others w h g (move w.net (Starts (party (app_id a) n))) (party (app_id a) n) refl (start_leaves w.net (party (app_id a) n)) (grows_itself w.net) };
      submits = λ e M j f q o s. record { inv = k.submits e M j f q o s; heeds = acts w h g (record w { hard = submitted w.hard (eight_places j) }) (record M { jobs = with_job (eight_places j) M.jobs }) (app_id j.number ∷ []) refl refl (added_heeds w.cluster w.hard w.net e M (eight_places j) (h.masters e M f) (g.it e M f)) };
      finishes = λ e M a f s. record { inv = k.finishes e M a f s; heeds = acts w h g (record w { hard = finished w.hard a }) (ended_in M a) [] refl refl (ended_heeds w.cluster w.net M a (g.it e M f)) };
      bans = λ e M m f s. record { inv = k.bans e M m f s; heeds = acts w h g (record w { hard = banned w.hard m }) (banned_in M m) [] refl refl (same_wishes w.cluster w.net M (banned_in M m) refl refl refl (g.it e M f)) };
      unbans = λ e M m f s. record { inv = k.unbans e M m f s; heeds = acts w h g (record w { hard = unbanned w.hard m }) (record M { bans = without_number m M.bans }) [] refl refl (same_wishes w.cluster w.net M (record M { bans = without_number m M.bans }) refl refl refl (g.it e M f)) };
      begins = λ e M f. record { inv = k.begins e M f; heeds = acts w h g w (record M { serving = true }) [] refl refl (same_wishes w.cluster w.net M (record M { serving = true }) refl refl refl (g.it e M f)) };
      preempts = λ e M p f v s. record { inv = k.preempts e M p f v s; heeds = acts w h g w (preempted M p) [] refl refl (same_wishes w.cluster w.net M (preempted M p) refl refl refl (g.it e M f)) };
      asks = λ a q x f s. (let p = party (app_id a) q.boot in let os = to_master (changed_demand (present w.net p master_id) (command_key x) (command_number (given_back w a q) x)) in record { inv = k.asks a q x f s; heeds = others w h g (publish w.net p os) p refl (publish_leaves w.net p os) (publish_grows w.net p os) });
      master_turns = λ e M f. record { inv = k.master_turns e M f; heeds = turns w h g (master_party M) (peers w.cluster M) };
      agent_turns = λ m q f. record { inv = k.agent_turns m q f; heeds = turns w h g (party (agent_id m) q.boot) (master_id ∷ []) };
      app_turns = λ a q f. record { inv = k.app_turns a q f; heeds = turns w h g (party (app_id a) q.boot) (master_id ∷ []) };
      master_resyncs = λ e M f. record { inv = k.master_resyncs e M f; heeds = resyncs w h g (master_party M) (peers w.cluster M) };
      agent_resyncs = λ m q f. record { inv = k.agent_resyncs m q f; heeds = resyncs w h g (party (agent_id m) q.boot) (master_id ∷ []) };
      app_resyncs = λ a q f. record { inv = k.app_resyncs a q f; heeds = resyncs w h g (party (app_id a) q.boot) (master_id ∷ []) };
      hears = λ e M j x f s to t. record { inv = k.hears e M j x f s to t; heeds = ends w h g (comes w.net (master_party M) (talks w.cluster M) (Some x)) (told M (heard_of w.net (master_party M) (talks w.cluster M) x) x.from.id (received w.cluster M w.net x)) (adopted_now M (heard_of w.net (master_party M) (talks w.cluster M) x) x.from.id (received w.cluster M w.net x)) w M.epoch refl refl (told_same M (heard_of w.net (master_party M) (talks w.cluster M) x) x.from.id (received w.cluster M w.net x)).epoch (comes_leaves w.net (master_party M) (talks w.cluster M) x) (grows_itself w.net) (heard_heeds w h e M j x f s to t (g.it e M f)) };
      agent_hears = λ m q j x f s. record { inv = k.agent_hears m q j x f s; heeds = joins w h g (party (agent_id m) q.boot) x (joined_report x.from.inc (agent_table w.net (party (agent_id m) q.boot))) refl };
      app_hears = λ a q j x f s. record { inv = k.app_hears a q j x f s; heeds = joins w h g (party (app_id a) q.boot) x (joined_demand x.from.inc (present w.net (party (app_id a) q.boot) master_id)) refl };
    }

pub all_heed : (c : ClusterRecord) (events : List Event) → AllHeed (run c events)
all_heed c events e M f =
    let k = (run_keeps_world HoldsHeeding (λ _. ⊤) events_heed events (empty_world c) (unasked events) (record { inv = always c []; heeds = record { it = λ e M none. cc } })).it.heeds.it e M f in
    record {
      wishes = k.it;
      none = λ a live none q. k.it a live q ∙ ap (λ (l : Ledger). cond (is_there (run c events).cluster (unit_count M.jobs a) q) (at_key l q) 0) (seen_none (run c events).net (master_party M) (app_id a) none) ∙ none_at (is_there (run c events).cluster (unit_count M.jobs a) q);
    }
