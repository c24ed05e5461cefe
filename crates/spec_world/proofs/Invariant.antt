-- In every state the net is sound, and what the running parties would have the others see is what they sent last.
use Rattle.std.proofs.Common.{◌≡◌, ◌⊎◌, inl, inr, ℕ, zero, suc, ◌<◌, ◌≤◌, Bool, true, false, cond, not, nat_eq, List, [], ◌∷◌, length, map, Some, None, refl, sym, ◌∙◌, ap, subst, arith, nat_lt}
use Rattle.std.specs.Prelude.{◌||◌}
use Rattle.std.specs.List.{AllByRecursion}
use Rattle.std.specs.Ordering.{nat_cmp, eq_by_cmp}
use Rattle.std.specs.Cmp.{nat_cmp_total}
use Rattle.std.specs.FinMap.Entries.{find, put, find-put}
use Rattle.std.proofs.lemmas.Bool.Decides.{nat_tests}
use Rattle.fuxi_terms.specs.Cluster.{ClusterRecord, has_machine}
use Rattle.spec_net.specs.Net.{Net, Party, Id, Link, same_id, same_party, at_index, last}
use Rattle.spec_net.specs.Ledgers.{Ledger, nothing, at_key}
use Rattle.fuxi_terms.specs.TallyKeys.{count_key}
use Rattle.spec_net.specs.Channels.{master_id, agent_id, app_id, party, is_agent, present, Offer, publish, has_heads, shape}
use Rattle.spec_roles.specs.Masters.{Master}
use Rattle.spec_roles.specs.Placing.{first_placeable, granted, settle, settled, all_out, line_up}
use Rattle.spec_roles.specs.HardState.{HardState}
use Rattle.spec_world.specs.World.{World, Agent, App, top}
use Rattle.spec_roles.specs.Apps.{Carried}
use Rattle.spec_roles.specs.MasterSteps.{master_party, peers, row, grants, is_one_of, phased, ready}
use Rattle.spec_world.specs.Parties.{offers, projection, end_step}
use Rattle.spec_net.specs.Sound.{Sound}
use Rattle.spec_world.specs.Good.{greatest_in_grants, NamesJobs, IsCredited, DemandsHold, EntryHolds, FitsMachines, GrantHolds, HasUnits, Invariant, IsBounded, IsInOrder, IsJoined, IsShowing, KnowsMore, Origins, ReportHolds}
use Rattle.spec_net.proofs.NetLemmas.{party_is}
use Rattle.fuxi_terms.proofs.Booleans.{number_is}
use Rattle.fuxi_terms.specs.Jobs.{KnownJob, unit_count}
use Rattle.spec_world.proofs.DemandsLemmas.{knows_then, more_units, wider, publish_each}
use Rattle.spec_world.proofs.CreditsLemmas.{credited_view, credited_like}
use Rattle.spec_net.proofs.PublishLemmas.{view_grows, Leaves, leaves_then, grows_then, publish_grows, HeadIsKnown, IsWanted, publish_links, publish_leaves, publish_sound, publish_presents}
use Rattle.spec_world.specs.Safe.{RowsFit}
use Rattle.spec_world.proofs.GrantsFit.{grant_wider, grants_hold}
use Rattle.spec_world.proofs.TablesFit.{ready_fits_machines, row_fits}
use Rattle.spec_world.proofs.TablesBounded.{ready_bounded}
use Rattle.spec_world.proofs.RowsShown.{shown_after}
use Rattle.fuxi_terms.specs.Numbers.{has_number}
use Rattle.spec_world.proofs.EntriesBounded.{row_named, named_wider, grants_counted, grants_in_range}
use Rattle.fuxi_terms.specs.Keys.{key_cmp, RowKey}
use Rattle.fuxi_terms.specs.Counts.{AreCounts}
use Rattle.spec_world.proofs.TablesInOrder.{ready_in_order, ready_waits}
use Rattle.spec_net.proofs.SoundLemmas.{Grows}

entry_wider : (c : ClusterRecord) (jobs jobs' : List KnownJob) (q : Id) (l : Ledger) → KnowsMore jobs jobs' → EntryHolds c jobs q l → EntryHolds c jobs' q l
entry_wider c jobs jobs' q l more h = record {
  rows = h.rows;
  named = λ e. named_wider jobs jobs' l.rows more (h.named e);
  grants = λ e. grant_wider c jobs jobs' q.number l more (h.grants e);
  tally = λ e. grants_in_range c (unit_count jobs q.number) (unit_count jobs' q.number) l.entries (more_units jobs jobs' more q.number) (h.tally e);
}

report_wider : (c : ClusterRecord) (jobs jobs' : List KnownJob) (m : ℕ) (rows : List (RowKey × ℕ)) → KnowsMore jobs jobs' → ReportHolds c jobs m rows → ReportHolds c jobs' m rows
report_wider c jobs jobs' m rows more h = record { fits = h.fits; named = named_wider jobs jobs' rows more h.named }

-- an entry of a table after one was put is an old one at another key, or the new one
pub put_found : {A : Type 0} (k a : ℕ) (x y : A) (es : List (ℕ × A)) → find nat_cmp k (put nat_cmp a x es) ≡ Some y → ((nat_eq a k ≡ false) × (find nat_cmp k es ≡ Some y)) ⊎ ((k ≡ a) × (x ≡ y))
put_found {A} k a x y es f = by (eq_by_cmp nat_cmp k a) refl (sym (find-put nat_cmp nat_cmp_total k a x es) ∙ f)
  where
    by : (b : Bool) → eq_by_cmp nat_cmp k a ≡ b → cond b (Some x) (find nat_cmp k es) ≡ Some y → ((nat_eq a k ≡ false) × (find nat_cmp k es ≡ Some y)) ⊎ ((k ≡ a) × (x ≡ y))
    by true t g = inr (grind (arith, nat_tests, t), cc)
    by false t g = inl (grind (arith, nat_tests, t), g)

-- what is said of the parties that did not act
master_stays : (c : ClusterRecord) (hard hard' : HardState) (p : Party) (net net' : Net Ledger) (e : ℕ) (M : Master) → hard.fence ≤ hard'.fence → KnowsMore hard.jobs hard'.jobs → Sound shape net → Grows shape net.histories net'.histories → Leaves p net net' → same_party p (party master_id e) ≡ false → IsShowing c hard net e M → IsShowing c hard' net' e M
master_stays c hard hard' p net net' e M up more s g l apart h =
    let own = subst (λ n. same_party p (party master_id n) ≡ false) (sym h.epoch) apart in
    record {
      epoch = h.epoch;
      ran = omega (arith, h.ran, up);
      knows = knows_then M.jobs hard.jobs hard'.jobs h.knows more;
      tabled = h.tabled;
      housed = h.housed;
      bounded = h.bounded;
      waits = h.waits;
      credited = credited_view net net' M (λ a. view_grows net net' (master_party M) (app_id a) s (l.links (master_party M) (app_id a) own) g) (λ a. ap (λ (k : Link). k.seq) (l.links (master_party M) (app_id a) own)) h.credited;
      shows = all own (peers c M) h.shows;
      rows = λ m. ap (λ (hs : List Ledger). nat_lt 0 (length hs)) (l.histories (master_party M) (agent_id m) own) ∙ h.rows m;
    }
  where
    all : same_party p (master_party M) ≡ false → (qs : List Id) → AllByRecursion (λ q. present net (master_party M) q ≡ projection net M q) qs → AllByRecursion (λ q. present net' (master_party M) q ≡ projection net' M q) qs
    all own [] h = tt
    all own (q ∷ qs) h = (
      ap (λ (hs : List Ledger). at_index nothing hs (length hs)) (l.histories (master_party M) q own) ∙ h.0 ∙ ap (λ (k : Link). cond (is_agent q) (row M q.number) (grants M k.known q.number)) (sym (l.links (master_party M) q own)),
      all own qs h.1,
    )

joined_stays : (boot boot' : ℕ) (p p' : Party) (net net' : Net Ledger) → boot ≤ boot' → Leaves p net net' → same_party p p' ≡ false → IsJoined boot net p' → IsJoined boot' net' p'
joined_stays boot boot' p p' net net' up l apart h = record {
  ran = omega (arith, h.ran, up);
  joined = record { head = ap (λ (hs : List Ledger). (at_index nothing hs (length hs)).head) (l.histories p' master_id apart) ∙ h.joined.head ∙ ap (λ (k : Link). k.known) (sym (l.links p' master_id apart)) };
}

-- origins stay where histories grow
pub origins_grow : (net net' : Net Ledger) (a : ℕ) (carried : List (ℕ × Carried)) → Grows shape net.histories net'.histories → Origins net a carried → Origins net' a carried
origins_grow net net' a carried g h = record {
  has = λ m r f.
      let o = h.has m r f in
      let l = g.longer (party master_id r.inc) (app_id a) in
      record {
        first = o.first;
        there = omega (arith, o.there, l.long);
        counts = λ u held e. subst (λ (x : Ledger). held ≤ at_key x (count_key u m)) (sym (l.same r.seq o.there)) (o.counts u held e);
      };
}

-- A step of one party: what it leaves, and what has to be shown of it
pub record Stepped (w w' : World) (p : Party) : Type 0 where
  pub cluster : w'.cluster ≡ w.cluster
  pub sound : Sound shape w'.net
  pub leaves : Leaves p w.net w'.net
  pub grows : Grows shape w.net.histories w'.net.histories
  pub fence : w.hard.fence ≤ w'.hard.fence
  pub more : KnowsMore w.hard.jobs w'.hard.jobs
  pub boots : (d : Id) → w.boots d ≤ w'.boots d
  pub own : p.inc ≤ top w' p.id
  pub masters : (e : ℕ) (M : Master) → find nat_cmp e w'.masters ≡ Some M → ((same_party p (party master_id e) ≡ false) × (find nat_cmp e w.masters ≡ Some M)) ⊎ IsShowing w'.cluster w'.hard w'.net e M
  pub agents : (m : ℕ) (g : Agent) → find nat_cmp m w'.agents ≡ Some g → ((same_party p (party (agent_id m) g.boot) ≡ false) × (find nat_cmp m w.agents ≡ Some g)) ⊎ IsJoined (w'.boots (agent_id m)) w'.net (party (agent_id m) g.boot)
  pub apps : (a : ℕ) (g : App) → find nat_cmp a w'.apps ≡ Some g → ((same_party p (party (app_id a) g.boot) ≡ false) × (find nat_cmp a w.apps ≡ Some g)) ⊎ IsJoined (w'.boots (app_id a)) w'.net (party (app_id a) g.boot)
  pub machines : (m : ℕ) (g : Agent) → find nat_cmp m w'.agents ≡ Some g → has_machine w'.cluster m ≡ true
  pub origins : (a : ℕ) (g : App) → find nat_cmp a w'.apps ≡ Some g → (find nat_cmp a w.apps ≡ Some g) ⊎ (Origins w'.net a g.carried × HasUnits w'.hard.jobs a g)
  pub written : (a b : ℕ) → (same_party p (party (app_id a) b) ≡ false) ⊎ DemandsHold w'.cluster (unit_count w'.hard.jobs a) (w'.net.histories (party (app_id a) b) master_id)
  pub entries : (e : ℕ) → (same_party p (party master_id e) ≡ false) ⊎ ((q : Id) (n : ℕ) → EntryHolds w'.cluster w'.hard.jobs q (at_index nothing (w'.net.histories (party master_id e) q) n))
  pub reports : (m b : ℕ) → (same_party p (party (agent_id m) b) ≡ false) ⊎ ((n : ℕ) → ReportHolds w'.cluster w'.hard.jobs m (at_index nothing (w'.net.histories (party (agent_id m) b) master_id) n).rows)

-- a step of one party keeps it
pub stepped : (w w' : World) (p : Party) → Invariant w → Stepped w w' p → Invariant w'
stepped w w' p h s = record {
  sound = s.sound;
  unstarted = λ p' q above. s.leaves.histories p' q (other p' above) ∙ h.unstarted p' q (omega (arith, above, tops p'.id));
  masters = λ e M f. master e M (s.masters e M f);
  agents = λ m g f. agent m g (s.agents m g f);
  apps = λ a g f. app a g (s.apps a g f);
  machines = s.machines;
  origins = λ a g f. origin a g (s.origins a g f);
  units = λ a g f. unit a g (s.origins a g f);
  written = λ a b. demands a b (s.written a b);
  entries = λ e. sent e (s.entries e);
  reports = λ m b. kept m (party (agent_id m) b) master_id (h.reports m b) (s.reports m b);
}
  where
    sent : (e : ℕ) → (same_party p (party master_id e) ≡ false) ⊎ ((q : Id) (n : ℕ) → EntryHolds w'.cluster w'.hard.jobs q (at_index nothing (w'.net.histories (party master_id e) q) n))
        → (q : Id) (n : ℕ) → EntryHolds w'.cluster w'.hard.jobs q (at_index nothing (w'.net.histories (party master_id e) q) n)
    sent e (inl apart) q n = subst (λ c. EntryHolds c w'.hard.jobs q (at_index nothing (w'.net.histories (party master_id e) q) n)) (sym s.cluster)
        (subst (λ (hs : List Ledger). EntryHolds w.cluster w'.hard.jobs q (at_index nothing hs n)) (sym (s.leaves.histories (party master_id e) q apart))
        (entry_wider w.cluster w.hard.jobs w'.hard.jobs q (at_index nothing (w.net.histories (party master_id e) q) n) s.more (h.entries e q n)))
    sent e (inr new) q n = new q n

    origin : (a : ℕ) (g : App) → (find nat_cmp a w.apps ≡ Some g) ⊎ (Origins w'.net a g.carried × HasUnits w'.hard.jobs a g) → Origins w'.net a g.carried
    origin a g (inl f) = origins_grow w.net w'.net a g.carried s.grows (h.origins a g f)
    origin a g (inr n) = n.0

    unit : (a : ℕ) (g : App) → (find nat_cmp a w.apps ≡ Some g) ⊎ (Origins w'.net a g.carried × HasUnits w'.hard.jobs a g) → HasUnits w'.hard.jobs a g
    unit a g (inl f) = let u = h.units a g f in let k = s.more.known a u.known in record { known = k.0; units = u.units ∙ sym (ap length k.1) }
    unit a g (inr n) = n.1

    kept : (m : ℕ) (r : Party) (q : Id) → ((n : ℕ) → ReportHolds w.cluster w.hard.jobs m (at_index nothing (w.net.histories r q) n).rows) → (same_party p r ≡ false) ⊎ ((n : ℕ) → ReportHolds w'.cluster w'.hard.jobs m (at_index nothing (w'.net.histories r q) n).rows)
        → (n : ℕ) → ReportHolds w'.cluster w'.hard.jobs m (at_index nothing (w'.net.histories r q) n).rows
    kept m r q old (inl apart) n = subst (λ c. ReportHolds c w'.hard.jobs m (at_index nothing (w'.net.histories r q) n).rows) (sym s.cluster)
        (subst (λ (hs : List Ledger). ReportHolds w.cluster w'.hard.jobs m (at_index nothing hs n).rows) (sym (s.leaves.histories r q apart)) (report_wider w.cluster w.hard.jobs w'.hard.jobs m (at_index nothing (w.net.histories r q) n).rows s.more (old n)))
    kept m r q old (inr new) n = new n

    demands : (a b : ℕ) → (same_party p (party (app_id a) b) ≡ false) ⊎ DemandsHold w'.cluster (unit_count w'.hard.jobs a) (w'.net.histories (party (app_id a) b) master_id) → DemandsHold w'.cluster (unit_count w'.hard.jobs a) (w'.net.histories (party (app_id a) b) master_id)
    demands a b (inl apart) = subst (λ c. DemandsHold c (unit_count w'.hard.jobs a) (w'.net.histories (party (app_id a) b) master_id)) (sym s.cluster)
        (subst (DemandsHold w.cluster (unit_count w'.hard.jobs a)) (sym (s.leaves.histories (party (app_id a) b) master_id apart)) (wider w.cluster w.hard.jobs w'.hard.jobs a (w.net.histories (party (app_id a) b) master_id) s.more (h.written a b)))
    demands a b (inr n) = n

    tops : (d : Id) → top w d ≤ top w' d
    tops d = elim (same_id master_id d) as (λ b. cond b w.hard.fence (w.boots d) ≤ cond b w'.hard.fence (w'.boots d)) [ true ↦ s.fence | false ↦ s.boots d ]

    other : (p' : Party) → top w' p'.id < p'.inc → same_party p p' ≡ false
    other p' above = elim (same_party p p') as (λ b. same_party p p' ≡ b → b ≡ false) [
      | true ↦ λ e. let same = party_is p p' e in let lt : top w' p.id < p.inc = subst (λ (r : Party). top w' r.id < r.inc) (sym same) above in absurd (omega (arith, lt, s.own))
      | false ↦ λ e. refl
    ] refl

    master : (e : ℕ) (M : Master) → ((same_party p (party master_id e) ≡ false) × (find nat_cmp e w.masters ≡ Some M)) ⊎ IsShowing w'.cluster w'.hard w'.net e M → IsShowing w'.cluster w'.hard w'.net e M
    master e M (inl o) = subst (λ c. IsShowing c w'.hard w'.net e M) (sym s.cluster) (master_stays w.cluster w.hard w'.hard p w.net w'.net e M s.fence s.more h.sound s.grows s.leaves o.0 (h.masters e M o.1))
    master e M (inr n) = n

    agent : (m : ℕ) (g : Agent) → ((same_party p (party (agent_id m) g.boot) ≡ false) × (find nat_cmp m w.agents ≡ Some g)) ⊎ IsJoined (w'.boots (agent_id m)) w'.net (party (agent_id m) g.boot) → IsJoined (w'.boots (agent_id m)) w'.net (party (agent_id m) g.boot)
    agent m g (inl o) = joined_stays (w.boots (agent_id m)) (w'.boots (agent_id m)) p (party (agent_id m) g.boot) w.net w'.net (s.boots (agent_id m)) s.leaves o.0 (h.agents m g o.1)
    agent m g (inr n) = n

    app : (a : ℕ) (g : App) → ((same_party p (party (app_id a) g.boot) ≡ false) × (find nat_cmp a w.apps ≡ Some g)) ⊎ IsJoined (w'.boots (app_id a)) w'.net (party (app_id a) g.boot) → IsJoined (w'.boots (app_id a)) w'.net (party (app_id a) g.boot)
    app a g (inl o) = joined_stays (w.boots (app_id a)) (w'.boots (app_id a)) p (party (app_id a) g.boot) w.net w'.net (s.boots (app_id a)) s.leaves o.0 (h.apps a g o.1)
    app a g (inr n) = n

-- What placing does not touch
record Kept (M N : Master) : Type 0 where
  epoch : N.epoch ≡ M.epoch
  jobs : N.jobs ≡ M.jobs
  credited : N.credited ≡ M.credited
  reported : N.reported ≡ M.reported

settle_keeps : (c : ClusterRecord) (fuel : ℕ) (M : Master) → Kept M (settle c fuel M)
settle_keeps c zero M = record { epoch = refl; jobs = refl; credited = refl; reported = refl }
settle_keeps c (suc fuel) M = elim (first_placeable c M) as (λ o. Kept M (elim o as (λ _. Master) [ None ↦ M | Some s ↦ settle c fuel (granted M s) ])) [
  | None ↦ record { epoch = refl; jobs = refl; credited = refl; reported = refl }
  | Some s ↦ let k = settle_keeps c fuel (granted M s) in record { epoch = k.epoch; jobs = k.jobs; credited = k.credited; reported = k.reported }
]

ready_keeps : (c : ClusterRecord) (M : Master) → Kept M (ready c M)
ready_keeps c M = let N = line_up (phased c M) in
    elim N.serving as (λ b. Kept M (elim b as (λ _. Master) [ true ↦ settled c N | false ↦ N ])) [
      | true ↦ let k = settle_keeps c (all_out N) N in record { epoch = k.epoch; jobs = k.jobs; credited = k.credited; reported = k.reported }
      | false ↦ record { epoch = refl; jobs = refl; credited = refl; reported = refl }
    ]

-- the epoch stays
pub ready_epoch : (c : ClusterRecord) (M : Master) → (ready c M).epoch ≡ M.epoch
ready_epoch c M = (ready_keeps c M).epoch

-- the head of what an application should hold is the incarnation that is known
pub projection_head : (net : Net Ledger) (M : Master) (q : Id) → has_heads master_id q ≡ true → (projection net M q).head ≡ (net.links (master_party M) q).known
projection_head net M q hd = elim (is_agent q) as (λ b. not b ≡ true → (cond b (row M q.number) (grants M (net.links (master_party M) q).known q.number)).head ≡ (net.links (master_party M) q).known) [ true ↦ λ e. cc | false ↦ λ e. refl ] hd

-- The end of a master's step
record Finished (c : ClusterRecord) (net : Net Ledger) (R : Master) (net' : Net Ledger) : Type 0 where
  sound : Sound shape net'
  leaves : Leaves (master_party R) net net'
  grows : Grows shape net.histories net'.histories
  shows : AllByRecursion (λ q. present net' (master_party R) q ≡ projection net' R q) (peers c R)

finished : (c : ClusterRecord) (net : Net Ledger) (R : Master) (even_if_equal : List Id) → Sound shape net → Finished c net R (publish net (master_party R) (offers c net R even_if_equal))
finished c net R even_if_equal s = record {
  sound = publish_sound net p (offers c net R even_if_equal) (heads (peers c R)) s;
  leaves = publish_leaves net p (offers c net R even_if_equal);
  grows = publish_grows net p (offers c net R even_if_equal);
  shows = shows (peers c R) (publish_presents (projection net R) net p (offers c net R even_if_equal) (wanted (peers c R)));
}
  where
    p : Party
    p = master_party R

    offer : Id → Offer
    offer q = record { to = q; even_if_equal = is_one_of q even_if_equal; ledger = projection net R q }

    heads : (qs : List Id) → AllByRecursion (HeadIsKnown net (master_party R)) (map (λ q. record { to = q; even_if_equal = is_one_of q even_if_equal; ledger = projection net R q }) qs)
    heads [] = tt
    heads (q ∷ qs) = (record { head = projection_head net R q }, heads qs)

    wanted : (qs : List Id) → AllByRecursion (IsWanted (projection net R)) (map (λ q. record { to = q; even_if_equal = is_one_of q even_if_equal; ledger = projection net R q }) qs)
    wanted [] = tt
    wanted (q ∷ qs) = (record { wanted = refl }, wanted qs)

    shows : (qs : List Id) → AllByRecursion (λ (o : Offer). present (publish net (master_party R) (offers c net R even_if_equal)) (master_party R) o.to ≡ projection net R o.to) (map (λ q. record { to = q; even_if_equal = is_one_of q even_if_equal; ledger = projection net R q }) qs)
        → AllByRecursion (λ q. present (publish net (master_party R) (offers c net R even_if_equal)) (master_party R) q ≡ projection (publish net (master_party R) (offers c net R even_if_equal)) R q) qs
    shows [] h = tt
    shows (q ∷ qs) h = (h.0 ∙ ap (λ (l : Party → Id → Link). cond (is_agent q) (row R q.number) (grants R (l (master_party R) q).known q.number)) (sym (publish_links net (master_party R) (offers c net R even_if_equal))), shows qs h.1)

-- the end of a master's step keeps it
pub finish_invariant : (w : World) (hard : HardState) (ran : List Party) (net : Net Ledger) (M : Master) (even_if_equal : List Id) → Invariant w → w.hard.fence ≤ hard.fence → KnowsMore w.hard.jobs hard.jobs → M.epoch ≤ hard.fence → KnowsMore M.jobs hard.jobs → IsInOrder M → FitsMachines w.cluster M → IsBounded w.cluster M → ((m : ℕ) → (nat_lt 0 (last net (master_party M) (agent_id m)) || is_one_of (agent_id m) even_if_equal) ≡ has_number m M.reported) → IsCredited net M
    → Sound shape net → Leaves (master_party M) w.net net → Grows shape w.net.histories net.histories → net.histories ≡ w.net.histories → Invariant (end_step (record w { hard = hard; ran = ran }) net M even_if_equal)
finish_invariant w hard ran net M even_if_equal h up more own knows t hs bs sh cr s l gr kept =
    let R = ready w.cluster M in
    let f = finished w.cluster net R even_if_equal s in
    let same : R.epoch ≡ M.epoch = ready_epoch w.cluster M in
    let w' = end_step (record w { hard = hard; ran = ran }) net M even_if_equal in
    stepped w w' (master_party R) h (record {
      cluster = refl;
      sound = f.sound;
      leaves = leaves_then (master_party R) w.net net w'.net (subst (λ n. Leaves (party master_id n) w.net net) (sym same) l) f.leaves;
      grows = grows_then w.net net w'.net gr f.grows;
      fence = up;
      more = more;
      boots = λ d. omega arith;
      own = omega (arith, same, own);
      masters = λ e N found. by_put e N (put_found e R.epoch R N w.masters found);
      agents = λ m g found. inl (refl, found);
      apps = λ a g found. inl (refl, found);
      machines = h.machines;
      origins = λ a g found. inl found;
      written = λ a b. inl refl;
      entries = λ e. sent e (nat_eq R.epoch e) refl;
      reports = λ m b. inl refl;
    })
  where
    -- each entry that the master ever sent holds
    projected : (q : Id) → EntryHolds w.cluster hard.jobs q (projection net (ready w.cluster M) q)
    projected q =
        let R = ready w.cluster M in
        let boot = (net.links (master_party R) q).known in
        let fits = ready_fits_machines w.cluster M t hs in
        let tabled = ready_in_order w.cluster M t in
        let bounded = ready_bounded w.cluster M bs in
        let more : KnowsMore R.jobs hard.jobs = subst (λ js. KnowsMore js hard.jobs) (sym (ready_keeps w.cluster M).jobs) knows in
        record {
          rows = λ e. subst (λ b. RowsFit w.cluster q.number (cond b (row R q.number) (grants R boot q.number)).rows) (sym e) (row_fits w.cluster R q.number fits);
          named = λ e. subst (λ b. NamesJobs hard.jobs (cond b (row R q.number) (grants R boot q.number)).rows) (sym e) (row_named w.cluster R hard.jobs q.number tabled fits bounded more);
          grants = λ e. subst (λ b. GrantHolds w.cluster hard.jobs q.number (cond b (row R q.number) (grants R boot q.number))) (sym (ap (λ r. nat_eq r 2) (number_is q.role 3 e)))
              (grants_hold w.cluster hard.jobs R boot q.number tabled more fits);
          tally = λ e. subst (λ b. AreCounts key_cmp (greatest_in_grants w.cluster (unit_count hard.jobs q.number)) (cond b (row R q.number) (grants R boot q.number)).entries) (sym (ap (λ r. nat_eq r 2) (number_is q.role 3 e)))
              (grants_in_range w.cluster (unit_count R.jobs q.number) (unit_count hard.jobs q.number) (grants R boot q.number).entries (more_units R.jobs hard.jobs more q.number) (grants_counted w.cluster R boot q.number tabled fits bounded));
        }

    offered : (qs : List Id) → AllByRecursion (λ (o : Offer). EntryHolds w.cluster hard.jobs o.to o.ledger) (map (λ q. record { to = q; even_if_equal = is_one_of q even_if_equal; ledger = projection net (ready w.cluster M) q }) qs)
    offered [] = tt
    offered (q ∷ qs) = (projected q, offered qs)

    before : (q : Id) (n : ℕ) → EntryHolds w.cluster hard.jobs q (at_index nothing (net.histories (master_party (ready w.cluster M)) q) n)
    before q n = subst (λ (hs : Party → Id → List Ledger). EntryHolds w.cluster hard.jobs q (at_index nothing (hs (master_party (ready w.cluster M)) q) n)) (sym kept)
        (entry_wider w.cluster w.hard.jobs hard.jobs q (at_index nothing (w.net.histories (master_party (ready w.cluster M)) q) n) more (h.entries (ready w.cluster M).epoch q n))

    sent : (e : ℕ) (b : Bool) → nat_eq (ready w.cluster M).epoch e ≡ b
        → (same_party (master_party (ready w.cluster M)) (party master_id e) ≡ false) ⊎ ((q : Id) (n : ℕ) → EntryHolds w.cluster hard.jobs q (at_index nothing ((end_step (record w { hard = hard; ran = ran }) net M even_if_equal).net.histories (party master_id e) q) n))
    sent e false t = inl t
    sent e true t = inr (subst (λ k. (q : Id) (n : ℕ) → EntryHolds w.cluster hard.jobs q (at_index nothing ((end_step (record w { hard = hard; ran = ran }) net M even_if_equal).net.histories (party master_id k) q) n)) (number_is (ready w.cluster M).epoch e t)
        (publish_each (EntryHolds w.cluster hard.jobs) net (master_party (ready w.cluster M)) (offers w.cluster net (ready w.cluster M) even_if_equal) (offered (peers w.cluster (ready w.cluster M))) before))

    by_put : (e : ℕ) (N : Master) → ((nat_eq (ready w.cluster M).epoch e ≡ false) × (find nat_cmp e w.masters ≡ Some N)) ⊎ ((e ≡ (ready w.cluster M).epoch) × (ready w.cluster M ≡ N))
        → ((same_party (master_party (ready w.cluster M)) (party master_id e) ≡ false) × (find nat_cmp e w.masters ≡ Some N)) ⊎ IsShowing w.cluster hard (end_step (record w { hard = hard; ran = ran }) net M even_if_equal).net e N
    by_put e N (inl o) = inl (o.0, o.1)
    by_put e N (inr n) = inr (subst (IsShowing w.cluster hard (end_step (record w { hard = hard; ran = ran }) net M even_if_equal).net e) n.1 (record {
      epoch = sym n.0;
      ran = omega (arith, n.0, ready_epoch w.cluster M, own);
      knows = subst (λ js. KnowsMore js hard.jobs) (sym (ready_keeps w.cluster M).jobs) knows;
      tabled = ready_in_order w.cluster M t;
      housed = ready_fits_machines w.cluster M t hs;
      bounded = ready_bounded w.cluster M bs;
      waits = ready_waits w.cluster M;
      credited =
          let R = ready w.cluster M in
          let k = ready_keeps w.cluster M in
          let f = finished w.cluster net R even_if_equal s in
          let net' = publish net (master_party R) (offers w.cluster net R even_if_equal) in
          let links : net'.links ≡ net.links = publish_links net (master_party R) (offers w.cluster net R even_if_equal) in
          credited_view net net' R
          (λ a. ap (λ (ls : Party → Id → Link). at_index nothing (net'.histories (party (app_id a) (ls (master_party R) (app_id a)).known) master_id) (ls (master_party R) (app_id a)).seq) links
          ∙ ap (λ hs. at_index nothing hs (net.links (master_party R) (app_id a)).seq) (f.leaves.histories (party (app_id a) (net.links (master_party R) (app_id a)).known) master_id refl))
          (λ a. ap (λ (ls : Party → Id → Link). (ls (master_party R) (app_id a)).seq) links)
          (credited_like net M R k.epoch k.jobs k.credited cr);
      shows = (finished w.cluster net (ready w.cluster M) even_if_equal s).shows;
      rows = shown_after w.cluster net (ready w.cluster M) even_if_equal (ready_fits_machines w.cluster M t hs) (ready_bounded w.cluster M bs).reported
          (λ m. ap (λ n. nat_lt 0 (last net (party master_id n) (agent_id m)) || is_one_of (agent_id m) even_if_equal) (ready_keeps w.cluster M).epoch ∙ sh m ∙ ap (has_number m) (sym (ready_keeps w.cluster M).reported));
    }))
