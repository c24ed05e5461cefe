-- What stopped stays so, and what starts has nothing.
use Rattle.std.proofs.Common.{◌≡◌, ◌⊎◌, inl, inr, ℕ, ◌<◌, ◌≤◌, Bool, true, false, cond, not, nat_eq, nat_lt, List, [], ◌∷◌, ◌++◌, length, Option, Some, None, refl, sym, ◌∙◌, ap, subst, arith}
use Rattle.std.specs.Prelude.{⊤, ◌&&◌}
use Rattle.std.specs.Option.{option_map}
use Rattle.std.specs.Ordering.{nat_cmp, eq_by_cmp, is_eq}
use Rattle.std.specs.Cmp.{nat_cmp_total, tied_itself}
use Rattle.std.specs.FinMap.Entries.{find, put, where_key, find-put}
use Rattle.std.proofs.lemmas.Bool.Decides.{nat_tests}
use Rattle.fuxi_terms.specs.Cluster.{ClusterRecord, has_machine}
use Rattle.fuxi_terms.specs.Jobs.{is_known, has_ended, eight_places, unit_count}
use Rattle.fuxi_terms.specs.Lists.{below}
use Rattle.fuxi_terms.specs.Limits.{most_masters}
use Rattle.fuxi_terms.specs.Numbers.{without_number}
use Rattle.fuxi_terms.proofs.Booleans.{and_true, nat_itself, number_is}
use Rattle.spec_net.specs.Net.{Net, Party, Id, Link, unknown, same_id, move, Starts, heard_of, at_index, Packet}
use Rattle.spec_net.specs.Ledgers.{Ledger, nothing}
use Rattle.spec_net.specs.Channels.{master_id, agent_id, app_id, party, is_master, view, present}
use Rattle.spec_net.proofs.NetLemmas.{id_is}
use Rattle.spec_roles.specs.Apps.{Carried, held_of}
use Rattle.spec_roles.specs.Masters.{Master}
use Rattle.spec_roles.specs.HardState.{HardState, raised, submitted, finished, banned, unbanned, with_job}
use Rattle.spec_roles.specs.MasterSteps.{master_party, talks, ready, ended_in, banned_in, new_master}
use Rattle.spec_roles.specs.Preemption.{preempted}
use Rattle.spec_roles.specs.Refusals.{Refusal, NotRising, TooManyMasters, NotRunning, NoMachine, NoJob, Ended, first_refusal, with_found}
use Rattle.spec_roles.proofs.MapLemmas.{put_beside}
use Rattle.spec_world.specs.World.{World, Agent, App, Step, empty_world, prints_nothing, refused, set_boot}
use Rattle.spec_world.specs.Parties.{told, received, agent_table, app_held, carry, app_hears}
use Rattle.spec_world.specs.Events.{Event, StopMaster, StartAgent, StartApp, counted_in, agent_started, app_started, world_step, packet_of}
use Rattle.spec_world.specs.Good.{IsShowing}
use Rattle.spec_world.specs.Runs.{run, run_from}
use Rattle.spec_world.specs.Starts.{StaysStopped, IsNewAgent, IsNewApp, StartsWithNothing}
use Rattle.spec_world.specs.EventSteps.{IsDone}
use Rattle.spec_world.proofs.LeftLemmas.{left_out, still_runs}
use Rattle.spec_world.proofs.EventsWalk.{KeptBy, WorldKept, with_ready, run_keeps, run_keeps_world, unasked}
use Rattle.spec_world.proofs.Invariant.{put_found, ready_epoch}
use Rattle.spec_world.proofs.InvariantKept.{always, left_fence, not_refused, rising, told_same}

-- A run goes on from where its beginning led
pub run_append : (es fs : List Event) (w : World) → (run_from (es ++ fs) w).world ≡ (run_from fs (run_from es w).world).world
run_append [] fs w = refl
run_append (e ∷ es) fs w = run_append es fs (world_step w e).world

-- Masters. None of the epoch runs, nor will: a new one is above the fence
pub record IsGone (e : ℕ) (h : HardState) (masters : List (ℕ × Master)) : Type 0 where
  pub below : e ≤ h.fence
  pub gone : find nat_cmp e masters ≡ None
  pub epochs : (k : ℕ) (M : Master) → find nat_cmp k masters ≡ Some M → M.epoch ≡ k

apart : (a b : ℕ) → (a ≡ b → ⊥) → nat_eq a b ≡ false
apart a b never = by (nat_eq a b) refl
  where
    by : (t : Bool) → nat_eq a b ≡ t → nat_eq a b ≡ false
    by true t = absurd (never (number_is a b t))
    by false t = t

-- a master of another epoch takes a step
ends_gone : (c : ClusterRecord) (e : ℕ) (h h' : HardState) (masters : List (ℕ × Master)) (N : Master) → IsGone e h masters → (e ≡ N.epoch → ⊥) → e ≤ h'.fence → IsGone e h' (with_ready c N masters)
ends_gone c e h h' masters N g never up =
    let R = ready c N in
    record {
      below = up;
      gone = put_beside R.epoch e R masters (subst (λ n. nat_eq e n ≡ false) (sym (ready_epoch c N)) (apart e N.epoch never)) ∙ g.gone;
      epochs = λ k M found. by k M (put_found k R.epoch R M masters found);
    }
  where
    by : (k : ℕ) (M : Master) → ((nat_eq (ready c N).epoch k ≡ false) × (find nat_cmp k masters ≡ Some M)) ⊎ ((k ≡ (ready c N).epoch) × (ready c N ≡ M)) → M.epoch ≡ k
    by k M (inl o) = g.epochs k M o.1
    by k M (inr o) = ap (λ (X : Master). X.epoch) (sym o.1) ∙ sym o.0

acts_gone : (c : ClusterRecord) (e : ℕ) (h h' : HardState) (masters : List (ℕ × Master)) (k : ℕ) (M N : Master) → IsGone e h masters → find nat_cmp k masters ≡ Some M → N.epoch ≡ M.epoch → h'.fence ≡ h.fence → IsGone e h' (with_ready c N masters)
acts_gone c e h h' masters k M N g found same fence = ends_gone c e h h' masters N g
    (λ is. let here : find nat_cmp e masters ≡ Some M = ap (λ n. find nat_cmp n masters) (is ∙ same ∙ g.epochs k M found) ∙ found in let none = g.gone in absurd (let f : ⊥ = cc in f))
    (let b = g.below in omega (arith, b, fence))

pub stopped_epochs : (e : ℕ) (masters : List (ℕ × Master)) → ((k : ℕ) (M : Master) → find nat_cmp k masters ≡ Some M → M.epoch ≡ k) → (k : ℕ) (M : Master) → find nat_cmp k (where_key nat_cmp (λ k. not (nat_eq k e)) masters) ≡ Some M → M.epoch ≡ k
stopped_epochs e masters h k M found = h k M (still_runs e k M masters found).1

abbrev pub gone_of : ℕ → ClusterRecord → HardState → List (ℕ × Master) → Type 0
gone_of e = λ _ h masters. IsGone e h masters

pub events_gone : (e : ℕ) (c : ClusterRecord) (h : HardState) (masters : List (ℕ × Master)) → IsGone e h masters → KeptBy (gone_of e) (λ _. ⊤) c h masters
events_gone e c h masters g = record {
  starts = λ k t _.
      let up = rising (not_refused (not (nat_lt h.fence k)) (NotRising h.fence) ((not (nat_lt (length masters) most_masters), TooManyMasters most_masters) ∷ []) t).0 in
      let b = g.below in
      ends_gone c e h (raised h k) masters (new_master (raised h k) k) g (λ is. omega (arith, is, up, b)) (omega (arith, up, b));
  stops = λ k l. record { below = (let b = g.below in let up = left_fence (λ _. ⊤) c h masters k l in omega (arith, b, up)); gone = left_out k e masters ∙ none (not (nat_eq e k)); epochs = stopped_epochs k masters g.epochs };
  submits = λ k M j f _ _ _. acts_gone c e h (submitted h (eight_places j)) masters k M (record M { jobs = with_job (eight_places j) M.jobs }) g f refl refl;
  finishes = λ k M a f _. acts_gone c e h (finished h a) masters k M (ended_in M a) g f refl refl;
  bans = λ k M m f _. acts_gone c e h (banned h m) masters k M (banned_in M m) g f refl refl;
  unbans = λ k M m f _. acts_gone c e h (unbanned h m) masters k M (record M { bans = without_number m M.bans }) g f refl refl;
  begins = λ k M f. acts_gone c e h h masters k M (record M { serving = true }) g f refl refl;
  preempts = λ k M p f _ _. acts_gone c e h h masters k M (preempted M p) g f refl refl;
  hears = λ k M net x f _. let d = heard_of net (master_party M) (talks c M) x in let l = received c M net x in acts_gone c e h h masters k M (told M d x.from.id l) g f (told_same M d x.from.id l).epoch refl;
}
  where
    none : (b : Bool) → cond b (find nat_cmp e masters) None ≡ None
    none true = g.gone
    none false = refl

-- right behind the stop
record GoneStep (e : ℕ) (s : Step) : Type 0 where
  it : IsGone e s.world.hard s.world.masters

stops_gone : (w : World) (e : ℕ) → ((k : ℕ) (M : Master) → find nat_cmp k w.masters ≡ Some M → IsShowing w.cluster w.hard w.net k M) → IsDone w (StopMaster e) → GoneStep e (world_step w (StopMaster e))
stops_gone w e shows done = by (find nat_cmp e w.masters) refl done
  where
    stop : Master → Step
    stop M = prints_nothing (record (counted_in w) { masters = where_key nat_cmp (λ k. not (nat_eq k e)) w.masters })

    none : cond (not (nat_eq e e)) (find nat_cmp e w.masters) None ≡ None
    none = ap (λ b. cond (not b) (find nat_cmp e w.masters) None) (nat_itself e)

    by : (o : Option Master) → find nat_cmp e w.masters ≡ o → (with_found o (refused (counted_in w) NotRunning) stop).lines ≡ [] → GoneStep e (with_found o (refused (counted_in w) NotRunning) stop)
    by None found d = cc
    by (Some M) found d = record { it = record { below = (shows e M found).ran; gone = left_out e e w.masters ∙ none; epochs = stopped_epochs e w.masters (λ k N f. (shows k N f).epoch) } }

masters_stay : (c : ClusterRecord) (before after : List Event) (e : ℕ) → IsDone (run c before) (StopMaster e) → find nat_cmp e (run c (before ++ StopMaster e ∷ after)).masters ≡ None
masters_stay c before after e done =
    let w = run c before in
    let s = world_step w (StopMaster e) in
    ap (λ (v : World). find nat_cmp e v.masters) (run_append before (StopMaster e ∷ after) (empty_world c))
    ∙ (run_keeps (gone_of e) (λ _. ⊤) (events_gone e) after s.world (unasked after) (stops_gone w e (always c before).masters done).it).it.gone

-- Agents and applications. Boots rise: the last one is above a number, and so is the one that runs
record IsAbove (n top : ℕ) (runs : Option ℕ) : Type 0 where
  last : n < top
  boot : (b : ℕ) → runs ≡ Some b → n < b

abbrev agent_boot : World → ℕ → Option ℕ
agent_boot w m = option_map (λ (g : Agent). g.boot) (find nat_cmp m w.agents)

abbrev app_boot : World → ℕ → Option ℕ
app_boot w a = option_map (λ (g : App). g.boot) (find nat_cmp a w.apps)

boot_put : {A : Type 0} (f : A → ℕ) (n k m : ℕ) (x : A) (es : List (ℕ × A)) → n < f x → ((b : ℕ) → option_map f (find nat_cmp m es) ≡ Some b → n < b) → (b : ℕ) → option_map f (find nat_cmp m (put nat_cmp k x es)) ≡ Some b → n < b
boot_put f n k m x es new old b e = by (eq_by_cmp nat_cmp m k) (sym (ap (option_map f) (find-put nat_cmp nat_cmp_total m k x es)) ∙ e)
  where
    by : (t : Bool) → option_map f (cond t (Some x) (find nat_cmp m es)) ≡ Some b → n < b
    by true h = let same : f x ≡ b = cc in omega (arith, same, new)
    by false h = old b h

boot_set : (boots : Id → ℕ) (d : Id) (b n : ℕ) (q : Id) → n < boots q → (same_id d q ≡ true → n < b) → n < set_boot boots d b q
boot_set boots d b n q old new = by (same_id d q) new
  where
    by : (t : Bool) → (t ≡ true → n < b) → n < cond t b (boots q)
    by true h = h refl
    by false h = old

-- what holds of boots that rise is kept by every event, where it is by the starts of agents and of applications, and by what an application hears
abbrev Above : ℕ → Id → (List (ℕ × Agent) → List (ℕ × App) → Option ℕ) → World → Type 0
Above n d runs v = IsAbove n (v.boots d) (runs v.agents v.apps)

above_kept : (n : ℕ) (d : Id) (runs : List (ℕ × Agent) → List (ℕ × App) → Option ℕ) (w : World) → Above n d runs w
    → ((m b : ℕ) → first_refusal ((not (has_machine w.cluster m), NoMachine) ∷ (not (nat_lt (w.boots (agent_id m)) b), NotRising (w.boots (agent_id m))) ∷ []) ≡ None → Above n d runs (agent_started w m b))
    → ((a b : ℕ) → first_refusal ((not (is_known w.hard.jobs a), NoJob) ∷ (has_ended w.hard.jobs a, Ended) ∷ (not (nat_lt (w.boots (app_id a)) b), NotRising (w.boots (app_id a))) ∷ []) ≡ None → Above n d runs (app_started w a b))
    → ((a : ℕ) (g : App) (k : ℕ) (x : Packet) → find nat_cmp a w.apps ≡ Some g → packet_of w k ≡ Some x → Above n d runs (app_hears w a g x))
    → WorldKept (Above n d runs) (λ _. ⊤) w
above_kept n d runs w g agent_starts app_starts hears = record {
  counted = g;
  starts = λ _ _ _. g;
  stops = λ _ _. g;
  starts_agent = agent_starts;
  starts_app = app_starts;
  submits = λ _ _ _ _ _ _ _. g;
  finishes = λ _ _ _ _ _. g;
  bans = λ _ _ _ _ _. g;
  unbans = λ _ _ _ _ _. g;
  begins = λ _ _ _. g;
  preempts = λ _ _ _ _ _ _. g;
  asks = λ _ _ _ _ _. g;
  master_turns = λ _ _ _. g;
  agent_turns = λ _ _ _. g;
  app_turns = λ _ _ _. g;
  master_resyncs = λ _ _ _. g;
  agent_resyncs = λ _ _ _. g;
  app_resyncs = λ _ _ _. g;
  hears = λ _ _ _ _ _ _ _ _. g;
  agent_hears = λ _ _ _ _ _ _. g;
  app_hears = hears;
}

agents_above : (n m : ℕ) (w : World) → IsAbove n (w.boots (agent_id m)) (agent_boot w m) → WorldKept (λ v. IsAbove n (v.boots (agent_id m)) (agent_boot v m)) (λ _. ⊤) w
agents_above n m w g = above_kept n (agent_id m) (λ agents _. option_map (λ (g : Agent). g.boot) (find nat_cmp m agents)) w g
    (λ k b t.
    let up = rising (not_refused (not (nat_lt (w.boots (agent_id k)) b)) (NotRising (w.boots (agent_id k))) [] (not_refused (not (has_machine w.cluster k)) NoMachine ((not (nat_lt (w.boots (agent_id k)) b), NotRising (w.boots (agent_id k))) ∷ []) t).1).0 in
    record { last = boot_set w.boots (agent_id k) b n (agent_id m) g.last (λ same. newer k b same up); boot = λ d e. put_agent k b up d e })
    (λ _ _ _. record { last = g.last; boot = g.boot }) (λ _ _ _ _ _ _. g)
  where
    newer : (k b : ℕ) → same_id (agent_id k) (agent_id m) ≡ true → w.boots (agent_id k) < b → n < b
    newer k b same up = let here : w.boots (agent_id k) ≡ w.boots (agent_id m) = ap w.boots (id_is (agent_id k) (agent_id m) same) in let old = g.last in omega (arith, here, old, up)

    put_agent : (k b : ℕ) → w.boots (agent_id k) < b → (d : ℕ) → option_map (λ (g : Agent). g.boot) (find nat_cmp m (put nat_cmp k (record { boot = b }) w.agents)) ≡ Some d → n < d
    put_agent k b up d e = by (nat_eq k m) refl
      where
        by : (t : Bool) → nat_eq k m ≡ t → n < d
        by true t = boot_put (λ (g : Agent). g.boot) n k m (record { boot = b }) w.agents (newer k b (and_true (nat_eq 2 2) (nat_eq k m) refl t) up) g.boot d e
        by false t = g.boot d (ap (option_map (λ (g : Agent). g.boot)) (sym (put_beside k m (record { boot = b }) w.agents (other t))) ∙ e)
          where
            other : nat_eq k m ≡ false → nat_eq m k ≡ false
            other t = grind (arith, nat_tests, t)

apps_above : (n a : ℕ) (w : World) → IsAbove n (w.boots (app_id a)) (app_boot w a) → WorldKept (λ v. IsAbove n (v.boots (app_id a)) (app_boot v a)) (λ _. ⊤) w
apps_above n a w g = above_kept n (app_id a) (λ _ apps. option_map (λ (g : App). g.boot) (find nat_cmp a apps)) w g (λ _ _ _. record { last = g.last; boot = g.boot })
    (λ k b t.
    let up = rising (not_refused (not (nat_lt (w.boots (app_id k)) b)) (NotRising (w.boots (app_id k))) [] (not_refused (has_ended w.hard.jobs k) Ended ((not (nat_lt (w.boots (app_id k)) b), NotRising (w.boots (app_id k))) ∷ []) (not_refused (not (is_known w.hard.jobs k)) NoJob ((has_ended w.hard.jobs k, Ended) ∷ (not (nat_lt (w.boots (app_id k)) b), NotRising (w.boots (app_id k))) ∷ []) t).1).1).0 in
    record { last = boot_set w.boots (app_id k) b n (app_id a) g.last (λ same. newer k b same up); boot = λ d e. put_app k b up d e })
    (λ k h _ x f _. let p = party (app_id k) h.boot in record { last = g.last; boot = λ d e. again k h (cond (heard_of w.net p is_master x).fresh (carry w.net p h.units (below (length w.cluster.machines)) h.carried) h.carried) f d e })
  where
    newer : (k b : ℕ) → same_id (app_id k) (app_id a) ≡ true → w.boots (app_id k) < b → n < b
    newer k b same up = let here : w.boots (app_id k) ≡ w.boots (app_id a) = ap w.boots (id_is (app_id k) (app_id a) same) in let old = g.last in omega (arith, here, old, up)

    put_app : (k b : ℕ) → w.boots (app_id k) < b → (d : ℕ) → option_map (λ (g : App). g.boot) (find nat_cmp a (put nat_cmp k (record { boot = b; units = unit_count w.hard.jobs k; carried = [] }) w.apps)) ≡ Some d → n < d
    put_app k b up d e = by (nat_eq k a) refl
      where
        by : (t : Bool) → nat_eq k a ≡ t → n < d
        by true t = boot_put (λ (g : App). g.boot) n k a (record { boot = b; units = unit_count w.hard.jobs k; carried = [] }) w.apps (newer k b (and_true (nat_eq 3 3) (nat_eq k a) refl t) up) g.boot d e
        by false t = g.boot d (ap (option_map (λ (g : App). g.boot)) (sym (put_beside k a (record { boot = b; units = unit_count w.hard.jobs k; carried = [] }) w.apps (other t))) ∙ e)
          where
            other : nat_eq k a ≡ false → nat_eq a k ≡ false
            other t = grind (arith, nat_tests, t)

    again : (k : ℕ) (h : App) (carried : List (ℕ × Carried)) → find nat_cmp k w.apps ≡ Some h → (d : ℕ) → option_map (λ (g : App). g.boot) (find nat_cmp a (put nat_cmp k (record h { carried = carried }) w.apps)) ≡ Some d → n < d
    again k h carried f d e = by (nat_eq k a) refl
      where
        by : (t : Bool) → nat_eq k a ≡ t → n < d
        by true t = boot_put (λ (g : App). g.boot) n k a (record h { carried = carried }) w.apps (g.boot h.boot (ap (λ x. option_map (λ (g : App). g.boot) (find nat_cmp x w.apps)) (sym (number_is k a t)) ∙ ap (option_map (λ (g : App). g.boot)) f)) g.boot d e
        by false t = g.boot d (ap (option_map (λ (g : App). g.boot)) (sym (put_beside k a (record h { carried = carried }) w.apps (other t))) ∙ e)
          where
            other : nat_eq k a ≡ false → nat_eq a k ≡ false
            other t = grind (arith, nat_tests, t)

-- A start that is done
record IsStarted (v : World) (s : Step) (last b : ℕ) : Type 0 where
  world : s.world ≡ v
  up : last < b

starts_checked : (w v : World) (o : Option Refusal) (last b : ℕ) → (o ≡ None → last < b) → (elim o as (λ _. Step) [ None ↦ prints_nothing v | Some r ↦ refused w r ]).lines ≡ [] → IsStarted v (elim o as (λ _. Step) [ None ↦ prints_nothing v | Some r ↦ refused w r ]) last b
starts_checked w v None last b up d = record { world = refl; up = up refl }
starts_checked w v (Some r) last b up d = cc

agent_starts_so : (w : World) (m b : ℕ) → IsDone w (StartAgent m b) → IsStarted (agent_started (counted_in w) m b) (world_step w (StartAgent m b)) (w.boots (agent_id m)) b
agent_starts_so w m b done = starts_checked (counted_in w) (agent_started (counted_in w) m b) (first_refusal ((not (has_machine w.cluster m), NoMachine) ∷ (not (nat_lt (w.boots (agent_id m)) b), NotRising (w.boots (agent_id m))) ∷ [])) (w.boots (agent_id m)) b
    (λ t. rising (not_refused (not (nat_lt (w.boots (agent_id m)) b)) (NotRising (w.boots (agent_id m))) [] (not_refused (not (has_machine w.cluster m)) NoMachine ((not (nat_lt (w.boots (agent_id m)) b), NotRising (w.boots (agent_id m))) ∷ []) t).1).0) done

app_starts_so : (w : World) (a b : ℕ) → IsDone w (StartApp a b) → IsStarted (app_started (counted_in w) a b) (world_step w (StartApp a b)) (w.boots (app_id a)) b
app_starts_so w a b done = starts_checked (counted_in w) (app_started (counted_in w) a b) (first_refusal ((not (is_known w.hard.jobs a), NoJob) ∷ (has_ended w.hard.jobs a, Ended) ∷ (not (nat_lt (w.boots (app_id a)) b), NotRising (w.boots (app_id a))) ∷ [])) (w.boots (app_id a)) b
    (λ t. rising (not_refused (not (nat_lt (w.boots (app_id a)) b)) (NotRising (w.boots (app_id a))) [] (not_refused (has_ended w.hard.jobs a) Ended ((not (nat_lt (w.boots (app_id a)) b), NotRising (w.boots (app_id a))) ∷ []) (not_refused (not (is_known w.hard.jobs a)) NoJob ((has_ended w.hard.jobs a, Ended) ∷ (not (nat_lt (w.boots (app_id a)) b), NotRising (w.boots (app_id a))) ∷ []) t).1).1).0) done

-- what is put is found
pub put_here : {A : Type 0} (k : ℕ) (x : A) (es : List (ℕ × A)) → find nat_cmp k (put nat_cmp k x es) ≡ Some x
put_here k x es = find-put nat_cmp nat_cmp_total k k x es ∙ ap (λ r. cond (is_eq r) (Some x) (find nat_cmp k es)) (tied_itself nat_cmp_total k)

boot_itself : (boots : Id → ℕ) (d : Id) (b : ℕ) → same_id d d ≡ true → set_boot boots d b d ≡ b
boot_itself boots d b e = ap (λ t. cond t b (boots d)) e

itself : (r n : ℕ) → (nat_eq r r && nat_eq n n) ≡ true
itself r n = and_true (nat_eq r r) (nat_eq n n) (nat_itself r) (nat_itself n)

started_agent_above : (w : World) (m b : ℕ) (g : Agent) → g.boot < b → IsAbove g.boot ((agent_started w m b).boots (agent_id m)) (agent_boot (agent_started w m b) m)
started_agent_above w m b g lt = record {
  last = subst (λ n. g.boot < n) (sym (boot_itself w.boots (agent_id m) b (itself 2 m))) lt;
  boot = λ d e. (let same : Some b ≡ Some d = sym (ap (option_map (λ (g : Agent). g.boot)) (put_here m (record { boot = b }) w.agents)) ∙ e in let is : b ≡ d = cc in omega (arith, is, lt));
}

started_app_above : (w : World) (a b : ℕ) (g : App) → g.boot < b → IsAbove g.boot ((app_started w a b).boots (app_id a)) (app_boot (app_started w a b) a)
started_app_above w a b g lt = record {
  last = subst (λ n. g.boot < n) (sym (boot_itself w.boots (app_id a) b (itself 3 a))) lt;
  boot = λ d e. (let same : Some b ≡ Some d = sym (ap (option_map (λ (g : App). g.boot)) (put_here a (record { boot = b; units = unit_count w.hard.jobs a; carried = [] }) w.apps)) ∙ e in let is : b ≡ d = cc in omega (arith, is, lt));
}

agents_stay : (c : ClusterRecord) (before after : List Event) (m b : ℕ) (g h : Agent) → find nat_cmp m (run c before).agents ≡ Some g → IsDone (run c before) (StartAgent m b) → find nat_cmp m (run c (before ++ StartAgent m b ∷ after)).agents ≡ Some h → g.boot < h.boot
agents_stay c before after m b g h runs done found =
    let w = run c before in
    let s = agent_starts_so w m b done in
    let old = ((always c before).agents m g runs).ran in
    let up = s.up in
    let start : IsAbove g.boot ((world_step w (StartAgent m b)).world.boots (agent_id m)) (agent_boot (world_step w (StartAgent m b)).world m) = subst (λ (v : World). IsAbove g.boot (v.boots (agent_id m)) (agent_boot v m)) (sym s.world) (started_agent_above (counted_in w) m b g (omega (arith, old, up))) in
    let k = (run_keeps_world (λ (v : World). IsAbove g.boot (v.boots (agent_id m)) (agent_boot v m)) (λ _. ⊤) (agents_above g.boot m) after (world_step w (StartAgent m b)).world (unasked after) start).it in
    k.boot h.boot (ap (λ (v : World). agent_boot v m) (sym (run_append before (StartAgent m b ∷ after) (empty_world c))) ∙ ap (option_map (λ (g : Agent). g.boot)) found)

apps_stay : (c : ClusterRecord) (before after : List Event) (a b : ℕ) (g h : App) → find nat_cmp a (run c before).apps ≡ Some g → IsDone (run c before) (StartApp a b) → find nat_cmp a (run c (before ++ StartApp a b ∷ after)).apps ≡ Some h → g.boot < h.boot
apps_stay c before after a b g h runs done found =
    let w = run c before in
    let s = app_starts_so w a b done in
    let old = ((always c before).apps a g runs).ran in
    let up = s.up in
    let start : IsAbove g.boot ((world_step w (StartApp a b)).world.boots (app_id a)) (app_boot (world_step w (StartApp a b)).world a) = subst (λ (v : World). IsAbove g.boot (v.boots (app_id a)) (app_boot v a)) (sym s.world) (started_app_above (counted_in w) a b g (omega (arith, old, up))) in
    let k = (run_keeps_world (λ (v : World). IsAbove g.boot (v.boots (app_id a)) (app_boot v a)) (λ _. ⊤) (apps_above g.boot a) after (world_step w (StartApp a b)).world (unasked after) start).it in
    k.boot h.boot (ap (λ (v : World). app_boot v a) (sym (run_append before (StartApp a b ∷ after) (empty_world c))) ∙ ap (option_map (λ (g : App). g.boot)) found)

pub stays_stopped : (c : ClusterRecord) (before after : List Event) → StaysStopped c before after
stays_stopped c before after = record { masters = masters_stay c before after; agents = agents_stay c before after; apps = apps_stay c before after }

-- Starts with nothing: a new incarnation knows nobody, and has sent nothing
pub new_link : (net : Net Ledger) (d : Id) (b : ℕ) (q : Id) → same_id d d ≡ true → (move net (Starts (party d b))).links (party d b) q ≡ unknown
new_link net d b q e = ap (λ t. elim t as (λ _. Link) [ true ↦ unknown | false ↦ net.links (party d b) q ]) (and_true (same_id d d) (nat_eq b b) e (nat_itself b))

sent_nothing : (net : Net Ledger) (p : Party) (q : Id) → net.histories p q ≡ [] → present net p q ≡ nothing
sent_nothing net p q e = ap (λ h. at_index nothing h (length h)) e

seen_nothing : (net : Net Ledger) (p : Party) (q : Id) → net.links p q ≡ unknown → view net p q ≡ nothing
seen_nothing net p q e = ap (λ (l : Link). at_index nothing (net.histories (party q l.known) p.id) l.seq) e

no_table : (net : Net Ledger) (p : Party) → net.links p master_id ≡ unknown → net.histories p master_id ≡ [] → agent_table net p ≡ []
no_table net p link none = ap (λ (l : Link). cond (nat_eq l.seq 0) (present net p master_id).rows (view net p master_id).rows) link ∙ ap (λ (l : Ledger). l.rows) (sent_nothing net p master_id none)

holds_nothing : (net : Net Ledger) (p : Party) (g : App) (u m : ℕ) → net.links p master_id ≡ unknown → g.carried ≡ [] → app_held net p g u m ≡ 0
holds_nothing net p g u m link none = ap (λ (got : Ledger). held_of got (present net p master_id) p.inc g.carried u m) (seen_nothing net p master_id link) ∙ ap (λ carried. held_of nothing (present net p master_id) p.inc carried u m) none

pub starts_with_nothing : (c : ClusterRecord) (events : List Event) → StartsWithNothing (run c events)
starts_with_nothing c events = record {
  agents = λ m b done.
      let s = agent_starts_so (run c events) m b done in
      subst (λ (v : World). IsNewAgent v m b) (sym s.world) (record {
        agent = record { boot = b };
        runs = put_here m (record { boot = b }) (run c events).agents;
        boot = refl;
        table = no_table (move (run c events).net (Starts (party (agent_id m) b))) (party (agent_id m) b) (new_link (run c events).net (agent_id m) b master_id (itself 2 m)) ((always c events).unstarted (party (agent_id m) b) master_id s.up);
      });
  apps = λ a b done.
      let s = app_starts_so (run c events) a b done in
      let g : App = record { boot = b; units = unit_count (run c events).hard.jobs a; carried = [] } in
      subst (λ (v : World). IsNewApp v a b) (sym s.world) (record {
        app = g;
        runs = put_here a g (run c events).apps;
        boot = refl;
        carried = refl;
        held = λ u m. holds_nothing (move (run c events).net (Starts (party (app_id a) b))) (party (app_id a) b) g u m (new_link (run c events).net (app_id a) b master_id (itself 3 a)) refl;
      });
}
