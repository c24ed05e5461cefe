-- What is credited was given back, and so a give-back takes exactly its number.
use Rattle.std.proofs.Common.{◌≡◌, ℕ, zero, suc, ◌+◌, ◌-◌, ◌<◌, ◌≤◌, Bool, true, false, cond, not, nat_eq, nat_lt, List, [], ◌∷◌, ◌++◌, length, map, Option, Some, None, slice_get, refl, sym, ◌∙◌, ap, subst, arith, min}
use Rattle.std.specs.Prelude.{⊤, ◌&&◌, T}
use Rattle.std.specs.Option.{unwrap_or}
use Rattle.std.specs.List.{AllByRecursion}
use Rattle.std.specs.Ordering.{nat_cmp, eq_by_cmp, is_eq}
use Rattle.std.specs.Cmp.{tied_itself}
use Rattle.std.specs.FinMap.Entries.{find, put, is_sorted, is_sorted-where_key, find-where_key}
use Rattle.std.proofs.lemmas.Bool.Decides.{nat_tests}
use Rattle.fuxi_terms.specs.declared.Key.{Key}
use Rattle.fuxi_terms.specs.declared.answers.What.TheVariants.{Stranger, Stale}
use Rattle.fuxi_terms.specs.Cluster.{ClusterRecord}
use Rattle.fuxi_terms.specs.Counts.{count}
use Rattle.fuxi_terms.specs.Jobs.{KnownJob, eight_places, is_known, is_live, unit_count, job_numbers}
use Rattle.fuxi_terms.specs.Keys.{key_cmp}
use Rattle.fuxi_terms.specs.Lists.{below}
use Rattle.fuxi_terms.specs.Numbers.{without_number}
use Rattle.fuxi_terms.specs.TallyKeys.{credited_key, back_key}
use Rattle.fuxi_terms.proofs.Alls.{all_append, all_back, all_map, all_mapped}
use Rattle.fuxi_terms.proofs.Booleans.{both_true, either, number_is}
use Rattle.fuxi_terms.proofs.CountsLemmas.{tied, count-set_count}
use Rattle.fuxi_terms.proofs.KeyOrders.{key_total, same_key}
use Rattle.spec_net.specs.Net.{Net, Party, Id, Link, Packet, Heard, last, at_index, heard_of, is_taken, comes, move, Starts, met, word_of, unmoved, hear, hear_peer, same_id, set_at}
use Rattle.spec_net.specs.Ledgers.{Ledger, nothing, at_key}
use Rattle.spec_net.specs.Channels.{master_id, agent_id, app_id, party, is_agent, is_master, view, present, Offer, publish, shape, content}
use Rattle.spec_net.proofs.BoundedLemmas.{met_known}
use Rattle.spec_net.proofs.SoundLemmas.{Longer, Grows}
use Rattle.spec_net.proofs.PublishLemmas.{publish_leaves, publish_grows}
use Rattle.spec_roles.specs.Masters.{Master, credited_of}
use Rattle.spec_roles.specs.MasterSteps.{master_party, talks, projected, grants, peers, offers_of, ready, is_there, counted, credit, raise_credited, take_demand, meet_app}
use Rattle.spec_roles.specs.Transitions.{credited_at}
use Rattle.spec_roles.proofs.LosesCredited.{met_credited}
use Rattle.spec_roles.proofs.MapLemmas.{found_put}
use Rattle.spec_roles.proofs.RaisedCredits.{raised}
use Rattle.spec_roles.proofs.TransitionsLemmas.{ready_besides}
use Rattle.spec_world.specs.World.{World}
use Rattle.spec_world.specs.Parties.{end_step, projection, received, told}
use Rattle.spec_world.specs.Good.{AllGiven, EntryGiven, Invariant, IsGiven, IsShowing}
use Rattle.spec_world.proofs.AgreementLemmas.{at_numbers}
use Rattle.spec_world.proofs.Invariant.{ready_epoch}
use Rattle.spec_world.proofs.PartiesKept.{after_known, knows_sender}
use Rattle.spec_world.proofs.EventStepsLemmas.{master_is}
use Rattle.spec_world.proofs.DemandsLemmas.{publish_each}
use Rattle.spec_world.proofs.GrantsLemmas.{credits_in_grants}
use Rattle.fuxi_terms.specs.Cluster.{has_machine}
use Rattle.fuxi_terms.specs.Limits.{greatest_back}
use Rattle.fuxi_terms.specs.TallyKeys.{count_key}
use Rattle.spec_net.specs.Net.{Resyncs}
use Rattle.spec_net.specs.Channels.{to_master, resync_all}
use Rattle.spec_net.proofs.NetLemmas.{id_is}
use Rattle.spec_net.proofs.PublishLemmas.{same_id_itself, set_here, set_beside, view_grows, publish_links, publish_presents}
use Rattle.spec_roles.specs.Agents.{joined_report}
use Rattle.spec_roles.specs.Apps.{names, usable_of, usable_at, held_of, carried_in, changed_demand, joined_demand, command_tests, command_key, command_number, GivesBack}
use Rattle.spec_roles.specs.HardState.{raised as raised_to, submitted, finished, banned, unbanned, with_job}
use Rattle.spec_roles.specs.MasterSteps.{take_report, ended_in, banned_in, new_master}
use Rattle.spec_roles.specs.Preemption.{preempted}
use Rattle.spec_roles.specs.Refusals.{Refusal, NotRunning, NoUnit, NoMachine, NotUsable, BackRange, first_refusal, with_found}
use Rattle.spec_roles.proofs.MapLemmas.{put_beside}
use Rattle.spec_roles.proofs.TransitionsLemmas.{EachHeard, heard_has, reported_in}
use Rattle.spec_world.specs.World.{App, Step, refused, unless_refused, empty_world}
use Rattle.spec_world.specs.Parties.{agent_table, app_held, joined, adopted_now}
use Rattle.spec_world.specs.Events.{Event, GiveBack, act, counted_in, demanded, given_back, usable_now}
use Rattle.spec_world.specs.GivesBack.{HoldsLess, AllGiveBack}
use Rattle.spec_world.specs.Runs.{run}
use Rattle.spec_world.proofs.DemandsLemmas.{backs_between}
use Rattle.spec_world.proofs.EventsWalk.{StepHolds, WorldKept, act_keeps_world, run_keeps_world, unasked}
use Rattle.spec_world.proofs.InvariantKept.{always, counted_holds, events_hold, not_refused, told_same}
use Rattle.spec_world.proofs.KeepsGrantsLemmas.{sent_histories}
use Rattle.spec_world.proofs.SettledKept.{talks_app}

-- A number that is 0 is given back
no_number : (e : ℕ) (h : List Ledger) (u m v : ℕ) → v ≡ 0 → IsGiven e h u m v
no_number e h u m v z = record { place = 0; there = omega arith; head = λ l. absurd (omega (arith, l)); within = omega (arith, z) }

given_longer : (e : ℕ) (h h' : List Ledger) (u m v : ℕ) → Longer nothing h h' → IsGiven e h u m v → IsGiven e h' u m v
given_longer e h h' u m v l g =
    let same = l.same g.place g.there in
    let long = l.long in let there = g.there in
    record { place = g.place; there = omega (arith, long, there); head = λ p. ap (λ (d : Ledger). d.head) same ∙ g.head p; within = subst (λ (d : Ledger). v ≤ at_key d (back_key u m)) (sym same) g.within }

wider : (hs hs' : Party → Id → List Ledger) (e : ℕ) (q : Id) (l : Ledger) → Grows shape hs hs' → EntryGiven hs e q l → EntryGiven hs' e q l
wider hs hs' e q l g h = λ app u m. given_longer e (hs (party q l.head) master_id) (hs' (party q l.head) master_id) u m (at_key l (credited_key u m)) (g.longer (party q l.head) master_id) (h app u m)

-- where masters sent nothing more
pub given_grows : (hs hs' : Party → Id → List Ledger) → ((e : ℕ) (q : Id) → hs' (party master_id e) q ≡ hs (party master_id e) q) → Grows shape hs hs' → AllGiven hs → AllGiven hs'
given_grows hs hs' same g h = record { it = λ e q n. subst (λ k. EntryGiven hs' e q (at_index nothing k n)) (sym (same e q)) (wider hs hs' e q (at_index nothing (hs (party master_id e) q) n) g (h.it e q n)) }

-- what a master would credit
pub record MasterGiven (net : Net Ledger) (M : Master) : Type 0 where
  pub it : (a u m : ℕ) → IsGiven M.epoch (net.histories (party (app_id a) (net.links (master_party M) (app_id a)).known) master_id) u m (credited_at M a u m)

-- what it publishes
published_given : (c : ClusterRecord) (net : Net Ledger) (R : Master) (even_if_equal : List Id) → MasterGiven net R → AllByRecursion (λ (o : Offer). EntryGiven net.histories R.epoch o.to o.ledger) (offers_of c (λ q. (net.links (master_party R) q).known) R even_if_equal)
published_given c net R even_if_equal h = all_mapped (λ (o : Offer). EntryGiven net.histories R.epoch o.to o.ledger) _ (peers c R)
    (all_append (λ q. EntryGiven net.histories R.epoch q (projected R q (net.links (master_party R) q).known)) (map agent_id (below (length c.machines))) (map app_id (job_numbers R.jobs))
    (all_mapped (λ q. EntryGiven net.histories R.epoch q (projected R q (net.links (master_party R) q).known)) agent_id (below (length c.machines)) (agents (below (length c.machines))))
    (all_mapped (λ q. EntryGiven net.histories R.epoch q (projected R q (net.links (master_party R) q).known)) app_id (job_numbers R.jobs) (apps (job_numbers R.jobs))))
  where
    agents : (ms : List ℕ) → AllByRecursion (λ m. EntryGiven net.histories R.epoch (agent_id m) (projected R (agent_id m) (net.links (master_party R) (agent_id m)).known)) ms
    agents [] = tt
    agents (m ∷ ms) = (λ app. cc, agents ms)

    apps : (as_ : List ℕ) → AllByRecursion (λ a. EntryGiven net.histories R.epoch (app_id a) (projected R (app_id a) (net.links (master_party R) (app_id a)).known)) as_
    apps [] = tt
    apps (a ∷ as_) = (λ app u m. subst (IsGiven R.epoch (net.histories (party (app_id a) (net.links (master_party R) (app_id a)).known) master_id) u m) (sym (credits_in_grants R (net.links (master_party R) (app_id a)).known a u m)) (h.it a u m), apps as_)

pub ends_given : (c : ClusterRecord) (net : Net Ledger) (R : Master) (even_if_equal : List Id) → MasterGiven net R → AllGiven net.histories → AllGiven (publish net (master_party R) (offers_of c (λ q. (net.links (master_party R) q).known) R even_if_equal)).histories
ends_given c net R even_if_equal own h = record { it = λ e q n. by e q n (nat_eq R.epoch e) refl }
  where
    os : List Offer
    os = offers_of c (λ q. (net.links (master_party R) q).known) R even_if_equal

    net' : Net Ledger
    net' = publish net (master_party R) os

    g : Grows shape net.histories net'.histories
    g = publish_grows net (master_party R) os

    mine : (q : Id) (n : ℕ) → EntryGiven net.histories R.epoch q (at_index nothing (net'.histories (master_party R) q) n)
    mine = publish_each (EntryGiven net.histories R.epoch) net (master_party R) os (published_given c net R even_if_equal own) (λ q n. h.it R.epoch q n)

    by : (e : ℕ) (q : Id) (n : ℕ) (b : Bool) → nat_eq R.epoch e ≡ b → EntryGiven net'.histories e q (at_index nothing (net'.histories (party master_id e) q) n)
    by e q n true t = subst (λ k. EntryGiven net'.histories k q (at_index nothing (net'.histories (party master_id k) q) n)) (number_is R.epoch e t) (wider net.histories net'.histories R.epoch q (at_index nothing (net'.histories (master_party R) q) n) g (mine q n))
    by e q n false t = subst (λ k. EntryGiven net'.histories e q (at_index nothing k n)) (sym ((publish_leaves net (master_party R) os).histories (party master_id e) q (ap (λ b. true && b) t))) (wider net.histories net'.histories e q (at_index nothing (net.histories (party master_id e) q) n) g (h.it e q n))

-- What running masters credited
masters_given : (w : World) (e : ℕ) (M : Master) → Invariant w → AllGiven w.net.histories → find nat_cmp e w.masters ≡ Some M → MasterGiven w.net M
masters_given w e M h g found = record { it = λ a u m. by a u m (is_known M.jobs a) refl }
  where
    k : IsShowing w.cluster w.hard w.net e M
    k = h.masters e M found

    by : (a u m : ℕ) (b : Bool) → is_known M.jobs a ≡ b → IsGiven M.epoch (w.net.histories (party (app_id a) (w.net.links (master_party M) (app_id a)).known) master_id) u m (credited_at M a u m)
    by a u m true t =
        let shown : present w.net (master_party M) (app_id a) ≡ grants M (w.net.links (master_party M) (app_id a)).known a =
        at_numbers (λ n. present w.net (master_party M) (app_id n) ≡ projection w.net M (app_id n)) M.jobs a
        (all_map (λ q. present w.net (master_party M) q ≡ projection w.net M q) app_id (job_numbers M.jobs) (all_back (λ q. present w.net (master_party M) q ≡ projection w.net M q) (map agent_id (below (length w.cluster.machines))) (map app_id (job_numbers M.jobs)) k.shows)) t in
        subst (IsGiven M.epoch (w.net.histories (party (app_id a) (w.net.links (master_party M) (app_id a)).known) master_id) u m) (credits_in_grants M (w.net.links (master_party M) (app_id a)).known a u m)
        (subst (λ (l : Ledger). IsGiven M.epoch (w.net.histories (party (app_id a) l.head) master_id) u m (at_key l (credited_key u m))) shown (g.it M.epoch (app_id a) (last w.net (master_party M) (app_id a)) refl u m))
    by a u m false t = no_number M.epoch _ u m (credited_at M a u m) (ap (λ cs. count key_cmp cs (credited_key u m)) (k.credited.uncredited a t))

given_like : (net : Net Ledger) (M N : Master) → N.epoch ≡ M.epoch → N.credited ≡ M.credited → MasterGiven net M → MasterGiven net N
given_like net M N epoch credited h = record {
  it = λ a u m. subst (λ cs. IsGiven N.epoch (net.histories (party (app_id a) (net.links (master_party N) (app_id a)).known) master_id) u m (count key_cmp (unwrap_or (find nat_cmp a cs) []) (credited_key u m))) (sym credited)
      (subst (λ e. IsGiven e (net.histories (party (app_id a) (net.links (party master_id e) (app_id a)).known) master_id) u m (credited_at M a u m)) (sym epoch) (h.it a u m));
}

acts_given : (u : World) (net : Net Ledger) (X : Master) (even_if_equal : List Id) → MasterGiven net X → AllGiven net.histories → AllGiven (end_step u net X even_if_equal).net.histories
acts_given u net X even_if_equal own h = ends_given u.cluster net (ready u.cluster X) even_if_equal (given_like net X (ready u.cluster X) (ready_epoch u.cluster X) (ready_besides u.cluster X).credited own) h

-- Hearing. What is taken is of the incarnation that is then known
pub taken_known : (p : Party) (talk : Bool) (top : ℕ) (l : Link) (x : Packet) → is_taken (hear p talk top l x).what ≡ true → (hear p talk top l x).link.known ≡ x.from.inc
taken_known p talk top l x e = by (not (same_id x.to.id p.id && talk)) (nat_lt x.from.inc l.known) refl e
  where
    by : (a b : Bool) → nat_lt x.from.inc l.known ≡ b → is_taken (cond a (unmoved Stranger l) (cond b (unmoved Stale l) (hear_peer p.inc top l x))).what ≡ true → (cond a (unmoved Stranger l) (cond b (unmoved Stale l) (hear_peer p.inc top l x))).link.known ≡ x.from.inc
    by true b f e = cc
    by false true f e = cc
    by false false f e = after_known (word_of x.kind p.inc (met l x.from.inc) x) p.inc top (met l x.from.inc) x ∙ met_known l x.from.inc f

-- past its end a list has nothing
got_none : {A : Type 0} (xs : List A) (i : ℕ) → length xs ≤ i → slice_get xs i ≡ None
got_none [] i le = refl
got_none (x ∷ xs) zero le = absurd (omega (arith, le))
got_none (x ∷ xs) (suc i) le = got_none xs i (omega (arith, le))

past_end : (h : List Ledger) (n : ℕ) → length h < n → at_index nothing h n ≡ nothing
past_end h zero lt = absurd (omega (arith, lt))
past_end h (suc n) lt = ap (λ o. unwrap_or o nothing) (got_none h n (omega (arith, lt)))

-- a number that an entry gives back
entry_gives : (e : ℕ) (h : List Ledger) (u m n v : ℕ) → (at_index nothing h n).head ≡ e → v ≤ at_key (at_index nothing h n) (back_key u m) → IsGiven e h u m v
entry_gives e h u m n v head le = by (nat_lt (length h) n) refl
  where
    by : (b : Bool) → nat_lt (length h) n ≡ b → IsGiven e h u m v
    by true t = let z : at_key (at_index nothing h n) (back_key u m) ≡ 0 = ap (λ (l : Ledger). at_key l (back_key u m)) (past_end h n (grind (arith, nat_tests, t))) in no_number e h u m v (omega (arith, z, le))
    by false t = record { place = n; there = grind (arith, nat_tests, t); head = λ _. head; within = le }

-- what is counted of a demand gives back no more
counted_backs : (c : ClusterRecord) (jobs : List KnownJob) (a : ℕ) (d : Ledger) (u m : ℕ) → at_key (counted c jobs a d) (back_key u m) ≤ at_key d (back_key u m)
counted_backs c jobs a d u m =
    let p = is_there c (unit_count jobs a) in
    let e : at_key (counted c jobs a d) (back_key u m) ≡ unwrap_or (cond (p (back_key u m)) (find key_cmp (back_key u m) d.entries) None) 0 = ap (λ o. unwrap_or o 0) (find-where_key key_cmp p (back_key u m) (λ x t. ap p (sym (same_key (back_key u m) x t))) d.entries) in
    less (p (back_key u m)) (find key_cmp (back_key u m) d.entries) e
  where
    less : (b : Bool) (o : Option ℕ) → at_key (counted c jobs a d) (back_key u m) ≡ unwrap_or (cond b o None) 0 → at_key (counted c jobs a d) (back_key u m) ≤ unwrap_or o 0
    less true o e = omega (arith, e)
    less false o e = omega (arith, e)

-- a packet of an application that is not this one names another job
other_app : (x : Packet) (a : ℕ) → x.from.id ≡ app_id x.from.id.number → same_id x.from.id (app_id a) ≡ false → nat_eq a x.from.id.number ≡ false
other_app x a this e = by (nat_eq a x.from.id.number) refl
  where
    by : (b : Bool) → nat_eq a x.from.id.number ≡ b → nat_eq a x.from.id.number ≡ false
    by true f = let same : x.from.id ≡ app_id a = this ∙ ap app_id (sym (number_is a x.from.id.number f)) in let yes : same_id x.from.id (app_id a) ≡ true = ap (λ (q : Id). same_id q (app_id a)) same ∙ same_id_itself (app_id a) in absurd (let z : ⊥ = cc in z)
    by false f = f

-- who talks to a master and is no agent is an application, and where it is not this one its packet is of another job
pub other_job : (c : ClusterRecord) (M : Master) (x : Packet) → talks c M x.from.id ≡ true → (a : ℕ) → same_id x.from.id (app_id a) ≡ false → is_agent x.from.id ≡ false → nat_eq a x.from.id.number ≡ false
other_job c M x t a e other =
    let role = number_is x.from.id.role 3 (talks_app c M x.from.id t other) in
    other_app x a (λ i. record { role = role i; number = x.from.id.number }) e

-- what holds of a master whatever it hears of applications and reports
pub heard_beside : (M : Master) (fresh : Bool) (from : Id) (l : Ledger) (P : Master → Type 0) → P M → P (reported_in M from.number l) → (is_agent from ≡ false → (b : Bool) → P (meet_app b M from.number))
    → (is_agent from ≡ false → (N : Master) → P N → P (take_demand N from.number l)) → EachHeard M fresh from l P
heard_beside M fresh from l P same reports met taken = record {
  same = λ _. same;
  reports = λ _ _. reports;
  meets = λ app. met app fresh;
  demands = λ app. taken app (meet_app fresh M from.number) (met app fresh);
}

-- what a master makes of a packet of an application: it meets it, and takes what counts of the demand
pub told_app : (c : ClusterRecord) (net : Net Ledger) (M : Master) (d : Heard) (x : Packet) (a : ℕ) → x.from.id ≡ app_id a
    → told M d x.from.id (received c M net x) ≡ cond (is_taken d.what) (take_demand (meet_app d.fresh M a) a (counted c M.jobs a (content net x))) (meet_app d.fresh M a)
told_app c net M d x a is =
    let l = received c M net x in
    let agent : is_agent x.from.id ≡ false = ap is_agent is in
    let N = meet_app d.fresh M x.from.id.number in
    let L : l ≡ counted c M.jobs x.from.id.number (content net x) = ap (λ b. cond b (content net x) (counted c M.jobs x.from.id.number (content net x))) agent in
    ap (λ b. cond b (cond (is_taken d.what) (take_report M x.from.id.number l) M) (cond (is_taken d.what) (take_demand N x.from.id.number l) N)) agent
    ∙ ap (λ q. cond (is_taken d.what) (take_demand N x.from.id.number q) N) L
    ∙ ap (λ n. cond (is_taken d.what) (take_demand (meet_app d.fresh M n) n (counted c M.jobs n (content net x))) (meet_app d.fresh M n)) (ap (λ (q : Id). q.number) is)

-- what is credited to another application stays
record KeepsCredits (M : Master) (a : ℕ) (N : Master) : Type 0 where
  it : credited_of N a ≡ credited_of M a

module _ (w : World) (h : Invariant w) (g : AllGiven w.net.histories) (at_epoch : ℕ) (M : Master) (x : Packet) (found : find nat_cmp at_epoch w.masters ≡ Some M) (to : is_master x.to.id ≡ true) (t : talks w.cluster M x.from.id ≡ true) where
  abbrev d : Heard
  d = heard_of w.net (master_party M) (talks w.cluster M) x

  abbrev net0 : Net Ledger
  net0 = comes w.net (master_party M) (talks w.cluster M) (Some x)

  abbrev l : Ledger
  l = received w.cluster M w.net x

  own : MasterGiven w.net M
  own = masters_given w at_epoch M h g found

  -- of the application that is heard
  module _ (a u m : ℕ) (is : x.from.id ≡ app_id a) where
    abbrev Gives : Master → Type 0
    Gives N = IsGiven M.epoch (w.net.histories (party (app_id a) d.link.known) master_id) u m (credited_at N a u m)

    number : x.from.id.number ≡ a
    number = ap (λ (q : Id). q.number) is

    met_gives : (fresh : Bool) → d.fresh ≡ fresh → Gives (meet_app fresh M a)
    met_gives true f = no_number M.epoch _ u m (credited_at (meet_app true M a) a u m) (met_credited true M a u m)
    met_gives false f =
        let stays = (knows_sender (master_party M) (talks w.cluster M x.from.id) (last w.net (master_party M) x.from.id) (w.net.links (master_party M) x.from.id) x).stays f in
        subst (λ n. IsGiven M.epoch (w.net.histories (party (app_id a) n) master_id) u m (credited_at M a u m)) (ap (λ (q : Id). (w.net.links (master_party M) q).known) (sym is) ∙ sym stays) (own.it a u m)

    sorted : T (is_sorted key_cmp (content w.net x).entries)
    sorted = subst (λ (p : Id). T (is_sorted key_cmp (at_index nothing (w.net.histories (party p x.from.inc) x.to.id) x.seq).entries)) (sym is)
        (subst (λ (q : Id). T (is_sorted key_cmp (at_index nothing (w.net.histories (party (app_id a) x.from.inc) q) x.seq).entries)) (sym (master_is x.to.id to)) ((h.written a x.from.inc).tidy x.seq).sorted)

    abbrev demand : Ledger
    demand = counted w.cluster M.jobs a (content w.net x)

    taken_gives : is_taken d.what ≡ true → (N : Master) → N.epoch ≡ M.epoch → Gives N → Gives (take_demand N a demand)
    taken_gives taken N same before = either Gives (nat_eq demand.head N.epoch && is_live N.jobs a)
        (record N { demands = put nat_cmp a demand N.demands; table = credit a (credited_of N a) demand.entries N.table; credited = put nat_cmp a (raise_credited (credited_of N a) demand.entries) N.credited })
        (record N { demands = put nat_cmp a nothing N.demands })
        (λ e.
        let head : (content w.net x).head ≡ M.epoch = number_is (content w.net x).head N.epoch (both_true (nat_eq demand.head N.epoch) (is_live N.jobs a) e).0 ∙ same in
        let entry : content w.net x ≡ at_index nothing (w.net.histories (party (app_id a) d.link.known) master_id) x.seq = (let known = taken_known (master_party M) (talks w.cluster M x.from.id) (last w.net (master_party M) x.from.id) (w.net.links (master_party M) x.from.id) x taken in (λ i. at_index nothing (w.net.histories (party (is i) ((sym known) i)) (master_is x.to.id to i)) x.seq)) in
        let back = counted_backs w.cluster M.jobs a (content w.net x) u m in
        let new : IsGiven M.epoch (w.net.histories (party (app_id a) d.link.known) master_id) u m (at_key demand (back_key u m)) = entry_gives M.epoch _ u m x.seq (at_key demand (back_key u m)) (ap (λ (q : Ledger). q.head) (sym entry) ∙ head) (subst (λ (q : Ledger). at_key demand (back_key u m) ≤ at_key q (back_key u m)) entry back) in
        subst (IsGiven M.epoch (w.net.histories (party (app_id a) d.link.known) master_id) u m) (sym (ap (λ cs. count key_cmp cs (credited_key u m)) (found_put a (raise_credited (credited_of N a) demand.entries) [] N.credited) ∙ raised (credited_of N a) demand.entries (is_sorted-where_key key_cmp _ (content w.net x).entries sorted) u m))
        (either (IsGiven M.epoch (w.net.histories (party (app_id a) d.link.known) master_id) u m) (nat_lt (credited_at N a u m) (at_key demand (back_key u m))) (at_key demand (back_key u m)) (credited_at N a u m) (λ _. new) (λ _. before)))
        (λ _. before)

  -- of every application
  heard_given : MasterGiven net0 (told M d x.from.id l)
  heard_given = record { it = λ a u m. by a u m (same_id x.from.id (app_id a)) refl }
    where
      X : Master
      X = told M d x.from.id l

      epoch : X.epoch ≡ M.epoch
      epoch = (told_same M d x.from.id l).epoch

      -- with the place that is known then
      at : (a u m k : ℕ) → (net0.links (master_party M) (app_id a)).known ≡ k → IsGiven M.epoch (w.net.histories (party (app_id a) k) master_id) u m (credited_at X a u m) → IsGiven X.epoch (net0.histories (party (app_id a) (net0.links (master_party X) (app_id a)).known) master_id) u m (credited_at X a u m)
      at a u m k known h = subst (λ e. IsGiven e (w.net.histories (party (app_id a) (net0.links (party master_id e) (app_id a)).known) master_id) u m (credited_at X a u m)) (sym epoch)
          (subst (λ n. IsGiven M.epoch (w.net.histories (party (app_id a) n) master_id) u m (credited_at X a u m)) (sym known) h)

      -- another one
      beside : (a : ℕ) → (is_agent x.from.id ≡ false → nat_eq a x.from.id.number ≡ false) → EachHeard M d.fresh x.from.id l (KeepsCredits M a)
      beside a other = heard_beside M d.fresh x.from.id l (KeepsCredits M a) (record { it = refl }) (record { it = refl }) (λ app. met (other app)) (λ app. taken (other app))
        where
          met : nat_eq a x.from.id.number ≡ false → (fresh : Bool) → KeepsCredits M a (meet_app fresh M x.from.id.number)
          met o true = record { it = ap (λ r. unwrap_or r []) (put_beside x.from.id.number a [] M.credited o) }
          met o false = record { it = refl }

          taken : nat_eq a x.from.id.number ≡ false → (N : Master) → KeepsCredits M a N → KeepsCredits M a (take_demand N x.from.id.number l)
          taken o N k = either (KeepsCredits M a) (nat_eq l.head N.epoch && is_live N.jobs x.from.id.number)
              (record N { demands = put nat_cmp x.from.id.number l N.demands; table = credit x.from.id.number (credited_of N x.from.id.number) l.entries N.table; credited = put nat_cmp x.from.id.number (raise_credited (credited_of N x.from.id.number) l.entries) N.credited })
              (record N { demands = put nat_cmp x.from.id.number nothing N.demands })
              (λ _. record { it = ap (λ r. unwrap_or r []) (put_beside x.from.id.number a (raise_credited (credited_of N x.from.id.number) l.entries) N.credited o) ∙ k.it }) (λ _. record { it = k.it })

      told_this : (a u m : ℕ) (is : x.from.id ≡ app_id a) → Gives a u m is X
      told_this a u m is =
          let path = told_app w.cluster w.net M d x a is in
          subst (Gives a u m is) (sym path) (either (Gives a u m is) (is_taken d.what) (take_demand (meet_app d.fresh M a) a (counted w.cluster M.jobs a (content w.net x))) (meet_app d.fresh M a)
          (λ taken. taken_gives a u m is taken (meet_app d.fresh M a) (met_epoch d.fresh) (met_gives a u m is d.fresh refl)) (λ _. met_gives a u m is d.fresh refl))
        where
          met_epoch : (fresh : Bool) → (meet_app fresh M a).epoch ≡ M.epoch
          met_epoch true = refl
          met_epoch false = refl

      by : (a u m : ℕ) (b : Bool) → same_id x.from.id (app_id a) ≡ b → IsGiven X.epoch (net0.histories (party (app_id a) (net0.links (master_party X) (app_id a)).known) master_id) u m (credited_at X a u m)
      by a u m true e =
          let is : x.from.id ≡ app_id a = id_is x.from.id (app_id a) e in
          at a u m d.link.known (ap (λ (k : Link). k.known) (ap (λ (q : Id). set_at w.net.links (master_party M) q d.link (master_party M) (app_id a)) is ∙ set_here w.net.links (master_party M) (app_id a) d.link)) (told_this a u m is)
      by a u m false e =
          let same = (heard_has M d.fresh (is_taken d.what) x.from.id l (KeepsCredits M a) (beside a (other_job w.cluster M x t a e))).it in
          at a u m (w.net.links (master_party M) (app_id a)).known (ap (λ (k : Link). k.known) (set_beside w.net.links (master_party M) x.from.id d.link (app_id a) e))
          (subst (λ cs. IsGiven M.epoch (w.net.histories (party (app_id a) (w.net.links (master_party M) (app_id a)).known) master_id) u m (count key_cmp cs (credited_key u m))) (sym same) (own.it a u m))

-- Each event
pub record HoldsGiven (w : World) : Type 0 where
  pub inv : Invariant w
  pub given : AllGiven w.net.histories

pub reset_histories : (net : Net Ledger) (q : Party) (qs : List Id) → (resync_all net q qs).histories ≡ net.histories
reset_histories net q [] = refl
reset_histories net q (y ∷ ys) = reset_histories (move net (Resyncs q y)) q ys

-- an application or an agent publishes
others_given : (net : Net Ledger) (p : Party) (os : List Offer) → nat_eq p.id.role 1 ≡ false → AllGiven net.histories → AllGiven (publish net p os).histories
others_given net p os role h = given_grows net.histories (publish net p os).histories (λ e q. (publish_leaves net p os).histories (party master_id e) q (ap (λ b. (b && nat_eq p.id.number 0) && nat_eq p.inc e) role)) (publish_grows net p os) h

joined_given : (net : Net Ledger) (p : Party) (y : Packet) (k : Ledger) → nat_eq p.id.role 1 ≡ false → AllGiven net.histories → AllGiven (joined net p y k).histories
joined_given net p y k role h = either (λ (n : Net Ledger). AllGiven n.histories) (heard_of net p is_master y).fresh (publish (comes net p is_master (Some y)) p (to_master k)) (comes net p is_master (Some y)) (λ _. others_given (comes net p is_master (Some y)) p (to_master k) role h) (λ _. h)

events_given : (w : World) → HoldsGiven w → WorldKept HoldsGiven (λ _. ⊤) w
events_given w b =
    let k = events_hold w b.inv in
    let g = b.given in
    record {
      counted = record { inv = k.counted; given = g };
      starts = λ e n s. record { inv = k.starts e n s; given = acts_given (record w { hard = raised_to w.hard e; ran = w.ran ++ party master_id e ∷ [] }) (move w.net (Starts (party master_id e))) (new_master (raised_to w.hard e) e) (map app_id (job_numbers w.hard.jobs)) (record { it = λ a u m. no_number e _ u m 0 refl }) g };
      stops = λ e l. record { inv = k.stops e l; given = g };
      starts_agent = λ m n s. record { inv = k.starts_agent m n s; given = g };
      starts_app = λ a n s. record { inv = k.starts_app a n s; given = g };
      submits = λ e M j f q o s. record { inv = k.submits e M j f q o s; given = acts_given (record w { hard = submitted w.hard (eight_places j) }) w.net (record M { jobs = with_job (eight_places j) M.jobs }) (app_id j.number ∷ []) (given_like w.net M (record M { jobs = with_job (eight_places j) M.jobs }) refl refl (masters_given w e M b.inv g f)) g };
      finishes = λ e M a f s. record { inv = k.finishes e M a f s; given = acts_given (record w { hard = finished w.hard a }) w.net (ended_in M a) [] (given_like w.net M (ended_in M a) refl refl (masters_given w e M b.inv g f)) g };
      bans = λ e M m f s. record { inv = k.bans e M m f s; given = acts_given (record w { hard = banned w.hard m }) w.net (banned_in M m) [] (given_like w.net M (banned_in M m) refl refl (masters_given w e M b.inv g f)) g };
      unbans = λ e M m f s. record { inv = k.unbans e M m f s; given = acts_given (record w { hard = unbanned w.hard m }) w.net (record M { bans = without_number m M.bans }) [] (given_like w.net M (record M { bans = without_number m M.bans }) refl refl (masters_given w e M b.inv g f)) g };
      begins = λ e M f. record { inv = k.begins e M f; given = acts_given w w.net (record M { serving = true }) [] (given_like w.net M (record M { serving = true }) refl refl (masters_given w e M b.inv g f)) g };
      preempts = λ e M p f v s. record { inv = k.preempts e M p f v s; given = acts_given w w.net (preempted M p) [] (given_like w.net M (preempted M p) refl refl (masters_given w e M b.inv g f)) g };
      asks = λ a q x f s. record { inv = k.asks a q x f s; given = others_given w.net (party (app_id a) q.boot) (to_master (changed_demand (present w.net (party (app_id a) q.boot) master_id) (command_key x) (command_number (given_back w a q) x))) refl g };
      master_turns = λ e M f. record { inv = k.master_turns e M f; given = subst AllGiven (sym (sent_histories w.net (master_party M) (peers w.cluster M))) g };
      agent_turns = λ m q f. record { inv = k.agent_turns m q f; given = subst AllGiven (sym (sent_histories w.net (party (agent_id m) q.boot) (master_id ∷ []))) g };
      app_turns = λ a q f. record { inv = k.app_turns a q f; given = subst AllGiven (sym (sent_histories w.net (party (app_id a) q.boot) (master_id ∷ []))) g };
      master_resyncs = λ e M f. record { inv = k.master_resyncs e M f; given = subst AllGiven (sym (reset_histories w.net (master_party M) (peers w.cluster M))) g };
      agent_resyncs = λ m q f. record { inv = k.agent_resyncs m q f; given = subst AllGiven (sym (reset_histories w.net (party (agent_id m) q.boot) (master_id ∷ []))) g };
      app_resyncs = λ a q f. record { inv = k.app_resyncs a q f; given = subst AllGiven (sym (reset_histories w.net (party (app_id a) q.boot) (master_id ∷ []))) g };
      hears = λ e M j x f s to t. record { inv = k.hears e M j x f s to t; given = acts_given w (comes w.net (master_party M) (talks w.cluster M) (Some x)) (told M (heard_of w.net (master_party M) (talks w.cluster M) x) x.from.id (received w.cluster M w.net x)) (adopted_now M (heard_of w.net (master_party M) (talks w.cluster M) x) x.from.id (received w.cluster M w.net x)) (heard_given w b.inv g e M x f to t) g };
      agent_hears = λ m q j x f s. record { inv = k.agent_hears m q j x f s; given = joined_given w.net (party (agent_id m) q.boot) x (joined_report x.from.inc (agent_table w.net (party (agent_id m) q.boot))) refl g };
      app_hears = λ a q j x f s. record { inv = k.app_hears a q j x f s; given = joined_given w.net (party (app_id a) q.boot) x (joined_demand x.from.inc (present w.net (party (app_id a) q.boot) master_id)) refl g };
    }

-- one event
pub act_given : (w : World) (v : Event) → HoldsGiven w → StepHolds HoldsGiven (act w v)
act_given w v b = act_keeps_world HoldsGiven (λ _. ⊤) events_given w v tt b

-- the empty world
pub given_at_start : (e : ℕ) (q : Id) (n : ℕ) → EntryGiven (λ p q. []) e q (at_index nothing [] n)
given_at_start e q zero = λ app u m. no_number e [] u m 0 refl
given_at_start e q (suc n) = λ app u m. no_number e [] u m 0 refl

-- every run
always_given : (c : ClusterRecord) (es : List Event) → HoldsGiven (run c es)
always_given c es = (run_keeps_world HoldsGiven (λ _. ⊤) events_given es (empty_world c) (unasked es) (record { inv = always c []; given = record { it = given_at_start } })).it

-- What the grants of an application credit is at most what it gives back
module _ (w : World) (h : HoldsGiven w) (a : ℕ) (g : App) (found : find nat_cmp a w.apps ≡ Some g) where
  abbrev p : Party
  p = party (app_id a) g.boot

  abbrev V : Ledger
  V = view w.net p master_id

  abbrev D : Ledger
  D = present w.net p master_id

  at_most : (u m : ℕ) → cond (nat_eq V.head g.boot) (at_key V (credited_key u m)) 0 ≤ at_key D (back_key u m)
  at_most u m = by (nat_eq V.head g.boot) refl
    where
      sent : List Ledger
      sent = w.net.histories p master_id

      given : V.head ≡ g.boot → IsGiven (w.net.links p master_id).known sent u m (at_key V (credited_key u m))
      given e = subst (λ n. IsGiven (w.net.links p master_id).known (w.net.histories (party (app_id a) n) master_id) u m (at_key V (credited_key u m))) e (h.given.it (w.net.links p master_id).known (app_id a) (w.net.links p master_id).seq refl u m)

      of : IsGiven (w.net.links p master_id).known sent u m (at_key V (credited_key u m)) → at_key V (credited_key u m) ≤ at_key D (back_key u m)
      of k = placed (nat_lt 0 k.place) refl
        where
          placed : (b : Bool) → nat_lt 0 k.place ≡ b → at_key V (credited_key u m) ≤ at_key D (back_key u m)
          placed true t =
              let first : 1 ≤ k.place = grind (arith, nat_tests, t) in
              let heads : (at_index nothing sent k.place).head ≡ (at_index nothing sent (length sent)).head = k.head first ∙ sym (h.inv.apps a g found).joined.head in
              let more = backs_between sent (w.net.links p master_id).known (h.inv.sound.heads p master_id refl) (h.inv.written a g.boot).backs k.place (length sent) k.there (omega arith) heads u m in
              let within = k.within in
              omega (arith, within, more)
          placed false t =
              let none : k.place ≡ 0 = grind (arith, nat_tests, t) in
              let z : at_key (at_index nothing sent k.place) (back_key u m) ≡ 0 = ap (λ n. at_key (at_index nothing sent n) (back_key u m)) none in
              let within = k.within in
              omega (arith, within, z)

      by : (b : Bool) → nat_eq V.head g.boot ≡ b → cond b (at_key V (credited_key u m)) 0 ≤ at_key D (back_key u m)
      by true t = of (given (number_is V.head g.boot t))
      by false t = omega arith

  -- a demand that gives back so many more
  module _ (u m n : ℕ) (few : n ≤ usable_at V D g.boot u m) where
    abbrev E : Ledger
    E = changed_demand D (back_key u m) (at_key D (back_key u m) + n)

    abbrev net' : Net Ledger
    net' = publish w.net p (to_master E)

    seen : view net' p master_id ≡ V
    seen = view_grows w.net net' p master_id h.inv.sound (ap (λ (f : Party → Id → Link). f p master_id) (publish_links w.net p (to_master E))) (publish_grows w.net p (to_master E))

    mine : present net' p master_id ≡ E
    mine = (publish_presents (λ _. E) w.net p (to_master E) (record { wanted = refl }, tt)).0

    held_then : (o k : ℕ) → app_held net' p g o k ≡ held_of V E g.boot g.carried o k
    held_then o k = (λ i. held_of (seen i) (mine i) g.boot g.carried o k)

    numbers : (C B K x : ℕ) → K ≤ B → x ≤ C - min C (B - K) → C - min C (B + x - K) + x ≡ C - min C (B - K)
    numbers C B K x le less = omega (arith, le, less)

    here : at_key E (back_key u m) ≡ at_key D (back_key u m) + n
    here = count-set_count key_total D.entries (back_key u m) (at_key D (back_key u m) + n) (back_key u m) ∙ ap (λ o. cond (is_eq o) (at_key D (back_key u m) + n) (at_key D (back_key u m))) (tied_itself key_total (back_key u m))

    elsewhere : (o k : ℕ) → ((o ≡ u) × (k ≡ m) → ⊥) → at_key E (back_key o k) ≡ at_key D (back_key o k)
    elsewhere o k apart = count-set_count key_total D.entries (back_key u m) (at_key D (back_key u m) + n) (back_key o k) ∙ ap (λ b. cond b (at_key D (back_key u m) + n) (at_key D (back_key o k))) (by (eq_by_cmp key_cmp (back_key o k) (back_key u m)) refl)
      where
        by : (b : Bool) → eq_by_cmp key_cmp (back_key o k) (back_key u m) ≡ b → eq_by_cmp key_cmp (back_key o k) (back_key u m) ≡ false
        by true t = let same : back_key o k ≡ back_key u m = same_key _ _ (tied _ t) in absurd (apart (ap (λ (q : Key). q.unit) same, ap (λ (q : Key). q.number) same))
        by false t = t

    less : (b : Bool) → n ≤ cond b (usable_of V D g.boot u m) 0 → cond b (usable_of V E g.boot u m) (carried_in g.carried u m) + n ≡ cond b (usable_of V D g.boot u m) (carried_in g.carried u m)
    less true few =
        let C = at_key V (count_key u m) in
        let K = cond (nat_eq V.head g.boot) (at_key V (credited_key u m)) 0 in
        ap (λ x. C - min C (x - K) + n) here ∙ numbers C (at_key D (back_key u m)) K n (at_most u m) few
    less false few = omega (arith, few)

    pub gives_back : HoldsLess w (record w { net = net' }) a g u m n
    gives_back = record {
      less = ap (λ x. x + n) (held_then u m) ∙ less (names V m) few;
      others = λ o k apart. held_then o k ∙ ap (λ x. cond (names V k) (at_key V (count_key o k) - min (at_key V (count_key o k)) (x - cond (nat_eq V.head g.boot) (at_key V (credited_key o k)) 0)) (carried_in g.carried o k)) (elsewhere o k apart);
    }

-- a give-back that is done
record IsGivenBack (w : World) (a : ℕ) (g : App) (u m n : ℕ) (s : Step) : Type 0 where
  it : s.lines ≡ [] → (find nat_cmp a s.world.apps ≡ Some g) × HoldsLess w s.world a g u m n

back_done : (w : World) (a : ℕ) (g : App) (u m n : ℕ) → HoldsGiven w → find nat_cmp a w.apps ≡ Some g → IsGivenBack w a g u m n (act w (GiveBack a u m n))
back_done w a g u m n h found = subst (IsGivenBack w a g u m n) (sym (ap (λ o. with_found o (refused w NotRunning) asks_so) found)) (by (first_refusal tests) refl)
  where
    tests : List (Bool × Refusal)
    tests = command_tests w.cluster g.units (usable_now w a g) (given_back w a g) (GivesBack u m n)

    asks_so : App → Step
    asks_so k = unless_refused w (command_tests w.cluster k.units (usable_now w a k) (given_back w a k) (GivesBack u m n)) (λ w'. demanded w' a k (back_key u m) (given_back w a k u m + n))

    few : first_refusal tests ≡ None → n ≤ usable_now w a g u m
    few t =
        let a1 = (not_refused (not (nat_lt u g.units)) NoUnit ((not (has_machine w.cluster m), NoMachine) ∷ (nat_lt (usable_now w a g u m) n, NotUsable (usable_now w a g u m)) ∷ (nat_lt greatest_back (given_back w a g u m + n), BackRange) ∷ []) t).1 in
        let a2 = (not_refused (not (has_machine w.cluster m)) NoMachine ((nat_lt (usable_now w a g u m) n, NotUsable (usable_now w a g u m)) ∷ (nat_lt greatest_back (given_back w a g u m + n), BackRange) ∷ []) a1).1 in
        let a3 = (not_refused (nat_lt (usable_now w a g u m) n) (NotUsable (usable_now w a g u m)) ((nat_lt greatest_back (given_back w a g u m + n), BackRange) ∷ []) a2).0 in
        grind (arith, nat_tests, a3)

    by : (o : Option Refusal) → first_refusal tests ≡ o → IsGivenBack w a g u m n (elim o as (λ _. Step) [ None ↦ demanded w a g (back_key u m) (given_back w a g u m + n) | Some r ↦ refused w r ])
    by None t = record { it = λ _. (found, gives_back w h a g found u m n (few t)) }
    by (Some r) t = record { it = λ d. cc }

-- in every world of which both parts hold, and so in every run
pub all_give_back : (w : World) → Invariant w → AllGiven w.net.histories → AllGiveBack w
all_give_back w inv given = record {
  gives = λ a u m n g found done.
      let r = (back_done (counted_in w) a g u m n (record { inv = counted_holds w inv; given = given }) found).it done in
      (r.0, record { less = r.1.less; others = r.1.others });
}

pub runs_give_back : (c : ClusterRecord) (events : List Event) → AllGiveBack (run c events)
runs_give_back c events = let k = always_given c events in all_give_back (run c events) k.inv k.given
