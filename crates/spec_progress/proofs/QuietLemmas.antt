-- A world in which all channels between the master of the fence and those who run are caught up is quiet.
use Rattle.std.proofs.Common.{◌≡◌, ℕ, zero, suc, ◌<◌, ◌≤◌, Bool, true, false, cond, not, nat_eq, nat_lt, T, List, [], ◌∷◌, length, Option, Some, None, is_some, refl, sym, ◌∙◌, ap, subst, arith}
use Rattle.std.specs.Prelude.{◌&&◌, ◌||◌}
use Rattle.std.specs.Option.{option_map}
use Rattle.std.specs.List.{AllByRecursion, list_all}
use Rattle.std.specs.Ordering.{nat_cmp, eq_by_cmp, is_lt}
use Rattle.std.specs.FinMap.Entries.{below_all, find, is_sorted}
use Rattle.std.proofs.lemmas.Bool.Decides.{nat_tests}
use Rattle.fuxi_terms.specs.Cluster.{ClusterRecord, is_valid_cluster}
use Rattle.fuxi_terms.specs.Jobs.{is_known}
use Rattle.fuxi_terms.specs.Lists.{below}
use Rattle.fuxi_terms.specs.Numbers.{has_number}
use Rattle.fuxi_terms.proofs.Alls.{all_append, all_more}
use Rattle.fuxi_terms.proofs.Booleans.{and_true, both_true, or_right}
use Rattle.spec_net.specs.Net.{Party, Id, last, same_id, at_index}
use Rattle.spec_net.proofs.NetLemmas.{id_is}
use Rattle.spec_net.specs.Ledgers.{Ledger, nothing}
use Rattle.spec_net.specs.Channels.{master_id, agent_id, app_id, party, present}
use Rattle.spec_roles.specs.Masters.{Master}
use Rattle.spec_roles.specs.MasterSteps.{master_party, peers, is_all_reported, is_one_of}
use Rattle.spec_roles.proofs.TransitionsLemmas.{ready_besides}
use Rattle.spec_roles.specs.Refusals.{with_found}
use Rattle.spec_roles.proofs.StepEnds.{peers_talk}
use Rattle.spec_world.specs.World.{World, Agent, App, empty_world}
use Rattle.spec_world.specs.Events.{Event, counted_in, world_step}
use Rattle.spec_world.specs.EventRanges.{IsInput, is_from_line}
use Rattle.spec_world.specs.Parties.{projection}
use Rattle.spec_world.specs.Quiet.{has_all, is_at_rest, is_agent_quiet, is_app_quiet, is_quiet}
use Rattle.spec_world.specs.Runs.{run, run_from}
use Rattle.spec_world.proofs.GoodKept.{always_good, good_at_start, good_kept, safe_of}
use Rattle.spec_world.proofs.JobsKept.{act_has, few_resources}
use Rattle.spec_world.specs.Good.{Good}
use Rattle.spec_world.specs.Orders.{IsInOrder}
use Rattle.spec_progress.specs.CalmRounds.{CalmBringsQuiet, CalmKeeps, IsManned, calm_rounds, closed}
use Rattle.spec_progress.proofs.ArrivalsLemmas.{boot_of}
use Rattle.spec_progress.proofs.ProgressKept.{always_progresses}
use Rattle.spec_progress.proofs.CalmRoundsLemmas.{Caught, heard_after, last_turn, rounds_keep}
use Rattle.spec_progress.proofs.SteadyLemmas.{IsPeer, Steady, TheMaster, is_peer, the_master}

-- Lists
all_list : {A : Type 0} (f : A → Bool) (xs : List A) → AllByRecursion (λ x. f x ≡ true) xs → list_all f xs ≡ true
all_list f [] h = refl
all_list f (x ∷ xs) h = and_true (f x) (list_all f xs) h.0 (all_list f xs h.1)

all_below : (P : ℕ → Type 0) (n : ℕ) → ((m : ℕ) → m < n → P m) → AllByRecursion P (below n)
all_below P zero h = tt
all_below P (suc n) h = all_append P (below n) (n ∷ []) (all_below P n (λ m lt. h m (omega (arith, lt)))) (h n (omega arith), tt)

-- the entries of a sorted list are those that are found
split_both : (a b : Bool) → T (a && b) → T a × T b
split_both true b t = (tt, t)
split_both false b t = absurd t

apart_below : (k : ℕ) (es : List (ℕ × App)) → T (below_all nat_cmp k es) → AllByRecursion (λ e. eq_by_cmp nat_cmp e.0 k ≡ false) es
apart_below k [] h = tt
apart_below k (e ∷ es) h =
    let b = split_both (is_lt (nat_cmp k e.0)) (below_all nat_cmp k es) h in
    (less e.0 (is_lt (nat_cmp k e.0)) refl b.0, apart_below k es b.1)
  where
    less : (n : ℕ) (t : Bool) → is_lt (nat_cmp k n) ≡ t → T t → eq_by_cmp nat_cmp n k ≡ false
    less n true e _ = grind (arith, nat_tests, e)
    less n false e t = absurd t

all_found : (es : List (ℕ × App)) → T (is_sorted nat_cmp es) → AllByRecursion (λ e. find nat_cmp e.0 es ≡ Some e.1) es
all_found [] h = tt
all_found (e ∷ es) h =
    let b = split_both (below_all nat_cmp e.0 es) (is_sorted nat_cmp es) h in
    (ap (λ t. cond t (Some e.1) (find nat_cmp e.0 es)) (let z : eq_by_cmp nat_cmp e.0 e.0 ≡ true = grind (arith, nat_tests) in z), both es (apart_below e.0 es b.0) (all_found es b.1))
  where
    both : (fs : List (ℕ × App)) → AllByRecursion (λ f. eq_by_cmp nat_cmp f.0 e.0 ≡ false) fs → AllByRecursion (λ f. find nat_cmp f.0 es ≡ Some f.1) fs → AllByRecursion (λ f. cond (eq_by_cmp nat_cmp f.0 e.0) (Some e.1) (find nat_cmp f.0 es) ≡ Some f.1) fs
    both [] a b = tt
    both (f ∷ fs) a b = (ap (λ t. cond t (Some e.1) (find nat_cmp f.0 es)) a.0 ∙ b.0, both fs a.1 b.1)

-- a history whose last entry has a head is not empty
some_sent : (h : List Ledger) → 1 ≤ (at_index nothing h (length h)).head → 1 ≤ length h
some_sent [] le = absurd (omega (arith, le))
some_sent (x ∷ xs) le = omega arith

-- what a master shows to one of its applications
shown_at : (w : World) (M : Master) (qs : List Id) (a : ℕ) → is_one_of (app_id a) qs ≡ true → AllByRecursion (λ q. present w.net (master_party M) q ≡ projection w.net M q) qs → (present w.net (master_party M) (app_id a)).head ≡ (w.net.links (master_party M) (app_id a)).known
shown_at w M [] a e h = cc
shown_at w M (r ∷ rs) a e h = by (λ k. shown_at w M rs a k h.1) (same_id r (app_id a)) refl e
  where
    by : (is_one_of (app_id a) rs ≡ true → (present w.net (master_party M) (app_id a)).head ≡ (w.net.links (master_party M) (app_id a)).known) → (b : Bool) → same_id r (app_id a) ≡ b → (b || is_one_of (app_id a) rs) ≡ true → (present w.net (master_party M) (app_id a)).head ≡ (w.net.links (master_party M) (app_id a)).known
    by rest true t e = subst (λ q. present w.net (master_party M) q ≡ projection w.net M q → (present w.net (master_party M) (app_id a)).head ≡ (w.net.links (master_party M) (app_id a)).known) (sym (id_is r (app_id a) t)) (λ same. ap (λ (l : Ledger). l.head) same) h.0
    by rest false t e = rest e

module _ (e : ℕ) (w : World) (h : Caught e w) where
  m : TheMaster w
  m = the_master w h.steady

  abbrev P : Party
  P = party master_id e

  epoch : m.master.epoch ≡ e
  epoch = m.epoch ∙ h.fence

  first : 1 ≤ e
  first = let f = m.first in let z = h.fence in omega (arith, f, z)

  found : find nat_cmp e w.masters ≡ Some m.master
  found = ap (λ n. find nat_cmp n w.masters) (sym h.fence) ∙ m.runs

  module _ (q : Id) (b : ℕ) (runs : boot_of w q ≡ Some b) where
    abbrev p : Party
    p = party q b

    peer : IsPeer w m.master q b
    peer = is_peer w h.steady m.master m.runs q b runs

    -- it has sent its ledger, and the master has come to that
    some_up : 1 ≤ last w.net p master_id
    some_up = some_sent (w.net.histories p master_id) (let j = peer.joined.head in let k = h.joined q b runs in let f = first in omega (arith, j, k, f))

    place_up : (w.net.links P q).seq ≡ last w.net p master_id
    place_up =
        let there = subst (λ i. (w.net.links P q).seq ≤ last w.net (party q i) master_id) (h.known q b runs) (h.steady.good.stands.sound.links P q).place.there in
        let up = h.up q b runs in
        omega (arith, there, up)

    place_down : (w.net.links p master_id).seq ≡ last w.net P q
    place_down =
        let there = subst (λ i. (w.net.links p master_id).seq ≤ last w.net (party master_id i) q) (h.joined q b runs) (h.steady.good.stands.sound.links p master_id).place.there in
        let down = h.down q b runs in
        omega (arith, there, down)

    -- where the master sent it something, both are at rest
    rests : 1 ≤ last w.net P q → is_at_rest w.net m.master p ≡ true
    rests some = subst (λ n. (nat_eq (w.net.links p master_id).known n && (has_all w.net (party master_id n) p && has_all w.net p (party master_id n))) ≡ true) (sym epoch)
        (and_true (nat_eq (w.net.links p master_id).known e) (has_all w.net P p && has_all w.net p P) at_epoch (and_true (has_all w.net P p) (has_all w.net p P) down up))
      where
        at_epoch : nat_eq (w.net.links p master_id).known e ≡ true
        at_epoch = let j = h.joined q b runs in grind (arith, nat_tests, j)

        down : has_all w.net P p ≡ true
        down =
            let x = place_down in
            let y : nat_eq (w.net.links p master_id).seq (last w.net P q) ≡ true = grind (arith, nat_tests, x) in
            let z : nat_lt 0 (last w.net P q) ≡ true = grind (arith, nat_tests, some) in
            and_true (nat_eq (w.net.links p master_id).known e && nat_eq (w.net.links p master_id).seq (last w.net P q)) (nat_lt 0 (last w.net P q)) (and_true (nat_eq (w.net.links p master_id).known e) (nat_eq (w.net.links p master_id).seq (last w.net P q)) at_epoch y) z

        up : has_all w.net p P ≡ true
        up =
            let k = h.known q b runs in
            let x = place_up in
            let s = some_up in
            let c : nat_eq (w.net.links P q).known b ≡ true = grind (arith, nat_tests, k) in
            let y : nat_eq (w.net.links P q).seq (last w.net p master_id) ≡ true = grind (arith, nat_tests, x) in
            let z : nat_lt 0 (last w.net p master_id) ≡ true = grind (arith, nat_tests, s) in
            and_true (nat_eq (w.net.links P q).known b && nat_eq (w.net.links P q).seq (last w.net p master_id)) (nat_lt 0 (last w.net p master_id)) (and_true (nat_eq (w.net.links P q).known b) (nat_eq (w.net.links P q).seq (last w.net p master_id)) c y) z

  -- an agent is reported then, and so has a row
  agent_rests : (k : ℕ) (g : Agent) → find nat_cmp k w.agents ≡ Some g → (has_number k m.master.reported && is_at_rest w.net m.master (party (agent_id k) g.boot)) ≡ true
  agent_rests k g f =
      let q = agent_id k in
      let runs : boot_of w q ≡ Some g.boot = ap (option_map (λ (g : Agent). g.boot)) f in
      let up = place_up q g.boot runs in
      let some = some_up q g.boot runs in
      let reported : has_number k m.master.reported ≡ true = (h.steady.can.masters w.hard.fence m.master m.runs).reports k (subst (λ n. 1 ≤ (w.net.links (party master_id n) q).seq) (sym epoch) (omega (arith, up, some))) in
      let rows = (h.steady.good.stands.masters w.hard.fence m.master m.runs).rows k in
      let sent : nat_lt 0 (last w.net P q) ≡ true = ap (λ n. nat_lt 0 (last w.net (party master_id n) q)) (sym epoch) ∙ rows ∙ reported in
      and_true (has_number k m.master.reported) (is_at_rest w.net m.master (party q g.boot)) reported (rests q g.boot runs (grind (arith, nat_tests, sent)))

  -- an application has its boot in what it is granted
  app_rests : (a : ℕ) (g : App) → find nat_cmp a w.apps ≡ Some g → is_app_quiet w m.master a g ≡ true
  app_rests a g f =
      let q = app_id a in
      let runs : boot_of w q ≡ Some g.boot = ap (option_map (λ (g : App). g.boot)) f in
      let p = peer q g.boot runs in
      let k = h.known q g.boot runs in
      let one = p.first in
      let shown = shown_at w m.master (peers w.cluster m.master) a (peers_talk w.cluster m.master q ∙ p.talks) (h.steady.good.stands.masters w.hard.fence m.master m.runs).shows in
      let head : (at_index nothing (w.net.histories P q) (last w.net P q)).head ≡ (w.net.links P q).known = subst (λ n. (present w.net (party master_id n) q).head ≡ (w.net.links (party master_id n) q).known) epoch shown in
      or_right (not (is_known m.master.jobs a)) (is_at_rest w.net m.master (party q g.boot)) (rests q g.boot runs (some_sent (w.net.histories P q) (omega (arith, head, k, one))))

  -- every machine is reported, so the master serves
  all_agents : (R : ℕ → Bool) → ((k : ℕ) (g : Agent) → find nat_cmp k w.agents ≡ Some g → R k ≡ true) → AllByRecursion (λ k. R k ≡ true) (below (length w.cluster.machines))
  all_agents R has = all_below (λ k. R k ≡ true) (length w.cluster.machines) (λ k lt. by k (find nat_cmp k w.agents) refl (h.steady.manned.agents k (grind (arith, nat_tests, lt))))
    where
      by : (k : ℕ) (o : Option Agent) → find nat_cmp k w.agents ≡ o → is_some o ≡ true → R k ≡ true
      by k None f t = cc
      by k (Some g) f t = has k g f

  pub master_serves : (M : Master) → find nat_cmp e w.masters ≡ Some M → M.serving ≡ true
  master_serves M f =
      let one : m.master ≡ M = (let z : Some m.master ≡ Some M = sym found ∙ f in cc) in
      let all : is_all_reported w.cluster m.master ≡ true = all_list (λ k. has_number k m.master.reported) (below (length w.cluster.machines)) (all_agents (λ k. has_number k m.master.reported) (λ k g r. (both_true (has_number k m.master.reported) (is_at_rest w.net m.master (party (agent_id k) g.boot)) (agent_rests k g r)).0)) in
      let done = (h.steady.can.masters w.hard.fence m.master m.runs).done in
      subst (λ (N : Master). N.serving ≡ true) one (sym (ap (λ (N : Master). N.serving) done) ∙ (ready_besides w.cluster m.master).serving ∙ or_right m.master.serving (is_all_reported w.cluster m.master) all)

  pub caught_quiet : is_quiet w e ≡ true
  caught_quiet = ap (λ o. with_found o false (λ M. list_all (is_agent_quiet w M) (below (length w.cluster.machines)) && list_all (λ (g : ℕ × App). is_app_quiet w M g.0 g.1) w.apps)) found
      ∙ and_true (list_all (is_agent_quiet w m.master) (below (length w.cluster.machines))) (list_all (λ (g : ℕ × App). is_app_quiet w m.master g.0 g.1) w.apps)
      (all_list (is_agent_quiet w m.master) (below (length w.cluster.machines)) (all_below (λ k. is_agent_quiet w m.master k ≡ true) (length w.cluster.machines) agents))
      (all_list (λ (g : ℕ × App). is_app_quiet w m.master g.0 g.1) w.apps (all_more (λ (x : ℕ × App). find nat_cmp x.0 w.apps ≡ Some x.1) (λ x. is_app_quiet w m.master x.0 x.1 ≡ true) (λ x f. app_rests x.0 x.1 f) w.apps (all_found w.apps h.steady.sorted)))
    where
      agents : (k : ℕ) → k < length w.cluster.machines → is_agent_quiet w m.master k ≡ true
      agents k lt = by (find nat_cmp k w.agents) refl (h.steady.manned.agents k (grind (arith, nat_tests, lt)))
        where
          by : (o : Option Agent) → find nat_cmp k w.agents ≡ o → is_some o ≡ true → with_found o false (λ g. has_number k m.master.reported && is_at_rest w.net m.master (party (agent_id k) g.boot)) ≡ true
          by None f t = cc
          by (Some g) f t = agent_rests k g f

-- Every input. That parties stand in order is a law of another crate
abbrev pub KeepsOrder : Type 0
KeepsOrder = (w : World) (e : Event) → is_valid_cluster w.cluster ≡ true → is_from_line e ≡ true → IsInOrder w → IsInOrder (world_step w e).world

in_order : KeepsOrder → (es : List Event) (w : World) → is_valid_cluster w.cluster ≡ true → AllByRecursion (λ e. is_from_line e ≡ true) es → Good w → IsInOrder w → IsInOrder (run_from es w).world
in_order kept [] w valid lines g o = o
in_order kept (e ∷ es) w valid lines g o =
    let j = (act_has w.cluster (few_resources w.cluster valid) (counted_in w) e lines.0 (record { same = refl; hard = g.hard })).it in
    in_order kept es (world_step w e).world (ap is_valid_cluster j.same ∙ valid) lines.1 (good_kept w e valid lines.0 g) (kept w e valid lines.0 o)

input_steady : KeepsOrder → (c : ClusterRecord) (es : List Event) → IsInput c es → IsInOrder (empty_world c) → IsManned (run c es) → Steady (run c es)
input_steady kept c es input start manned = record {
  good = always_good c es input;
  can = (always_progresses c es).can;
  sorted = (in_order kept es (empty_world c) input.cluster input.lines (good_at_start c) start).apps;
  manned = manned;
}

pub calm_brings_quiet : KeepsOrder → (c : ClusterRecord) (es : List Event) → IsInput c es → IsInOrder (empty_world c) → CalmBringsQuiet c es
calm_brings_quiet kept c es input start manned apps named n le =
    let w = run c es in
    let k = last_turn w.hard.fence apps (calm_rounds n apps w) (heard_after w.hard.fence apps w (input_steady kept c es input start manned) refl named n le) in
    record { quiet = caught_quiet w.hard.fence (closed n apps w) k; serves = master_serves w.hard.fence (closed n apps w) k; safe = safe_of (closed n apps w) k.steady.good }

pub calm_keeps : KeepsOrder → (c : ClusterRecord) (es : List Event) → IsInput c es → IsInOrder (empty_world c) → CalmKeeps c es
calm_keeps kept c es input start manned apps named n = rounds_keep apps (run c es) (input_steady kept c es input start manned) named n
