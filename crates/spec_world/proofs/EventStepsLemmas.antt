-- What one event makes of each running master.
use Rattle.std.proofs.Common.{◌≡◌, ◌⊎◌, inl, inr, ℕ, ◌+◌, ◌-◌, ◌<◌, ◌≤◌, Bool, true, false, cond, not, nat_eq, nat_lt, List, [], ◌∷◌, length, Some, refl, sym, ◌∙◌, ap, subst, arith}
use Rattle.std.specs.Prelude.{⊤, ◌&&◌, T}
use Rattle.std.specs.Ordering.{nat_cmp}
use Rattle.std.specs.FinMap.Entries.{find, where_key, is_sorted}
use Rattle.std.proofs.lemmas.Bool.Decides.{nat_tests}
use Rattle.fuxi_terms.specs.Cluster.{ClusterRecord, JobRecord}
use Rattle.fuxi_terms.specs.Jobs.{eight_places, is_live, unit_count}
use Rattle.fuxi_terms.specs.Keys.{key_cmp, Spot}
use Rattle.fuxi_terms.specs.Limits.{most_masters}
use Rattle.fuxi_terms.specs.Numbers.{has_number, without_number}
use Rattle.fuxi_terms.specs.TallyKeys.{want_key}
use Rattle.fuxi_terms.specs.Tables.{spot, held_on}
use Rattle.fuxi_terms.proofs.Alls.{all_more}
use Rattle.fuxi_terms.proofs.Booleans.{both_true, number_is}
use Rattle.fuxi_terms.proofs.Spots.{each_found}
use Rattle.spec_net.specs.Net.{Net, Party, Id, Packet, Link, Heard, heard_of, hear_peer, unmoved, last, same_id, at_index, is_taken}
use Rattle.fuxi_terms.specs.declared.answers.What.TheVariants.{Stranger, Stale}
use Rattle.spec_net.specs.Ledgers.{Ledger, nothing, at_key}
use Rattle.spec_net.specs.Channels.{master_id, app_id, party, is_master, is_agent, content}
use Rattle.spec_net.proofs.NetLemmas.{id_is}
use Rattle.spec_net.proofs.PublishLemmas.{same_id_itself}
use Rattle.spec_roles.specs.HardState.{HardState, raised, with_job}
use Rattle.spec_roles.specs.Masters.{Master, asked, out}
use Rattle.spec_roles.specs.MasterSteps.{master_party, talks, ready, ended_in, banned_in, new_master}
use Rattle.spec_roles.specs.Preemption.{Plan, plan_of, preempted}
use Rattle.spec_roles.specs.Refusals.{NotRising, TooManyMasters, NotRunning}
use Rattle.spec_roles.specs.Transitions.{IsOrderly, GrowsAsAllowed, IsBare, credited_at, LosesOnlyCredited}
use Rattle.spec_roles.proofs.BareMachines.{ready_bare, new_bare, each_change as each_bare, hearing_bare}
use Rattle.spec_roles.proofs.GrowsAllowed.{fewer_grow, ready_grows, each_change as each_grown, hearing_grows}
use Rattle.spec_roles.proofs.LosesCredited.{each_change as each_kept, hearing_loses, numbers}
use Rattle.spec_roles.proofs.MapLemmas.{with_here}
use Rattle.spec_roles.proofs.TransitionsLemmas.{ready_besides, ready_rises}
use Rattle.spec_world.specs.World.{World, Step, refused, empty_world}
use Rattle.spec_world.specs.Parties.{told, received}
use Rattle.spec_world.specs.Events.{Event, StartMaster, StopMaster, Submit, Finish, Ban, Unban, Begin, Preempt, Deliver, Halt, writer_of, act, counted_in, packet_of}
use Rattle.spec_world.specs.Good.{Invariant, IsShowing}
use Rattle.spec_world.specs.Runs.{run}
use Rattle.spec_world.specs.EventSteps.{is_single, AllGrow, AllBare, MayFall, AllLose}
use Rattle.spec_world.proofs.CommandLemmas.{bans_has, found_has}
use Rattle.spec_world.proofs.LeftLemmas.{still_runs}
use Rattle.spec_world.proofs.EventsWalk.{EventSteps, KeptBy, StepHolds, act_steps, with_ready, run_keeps, unasked}
use Rattle.spec_world.proofs.Invariant.{put_found, ready_epoch}
use Rattle.spec_world.proofs.InvariantKept.{always, counted_holds, not_refused, rising, told_same}
use Rattle.spec_world.proofs.SettledKept.{talks_app}

-- A running master before and behind one event is the same, or it took a step
pub record MasterSteps (w : World) (Q : Event → ℕ → Master → Master → Type 0) : Type 0 where
  pub same : (v : Event) (e : ℕ) (M : Master) → find nat_cmp e w.masters ≡ Some M → Q v e M M
  pub submits : (e : ℕ) (M : Master) (j : JobRecord) → find nat_cmp e w.masters ≡ Some M → Q (Submit e j) e M (ready w.cluster (record M { jobs = with_job (eight_places j) M.jobs }))
  pub finishes : (e : ℕ) (M : Master) (a : ℕ) → find nat_cmp e w.masters ≡ Some M → Q (Finish e a) e M (ready w.cluster (ended_in M a))
  pub bans : (e : ℕ) (M : Master) (m : ℕ) → find nat_cmp e w.masters ≡ Some M → Q (Ban e m) e M (ready w.cluster (banned_in M m))
  pub unbans : (e : ℕ) (M : Master) (m : ℕ) → find nat_cmp e w.masters ≡ Some M → Q (Unban e m) e M (ready w.cluster (record M { bans = without_number m M.bans }))
  pub begins : (e : ℕ) (M : Master) → find nat_cmp e w.masters ≡ Some M → Q (Begin e) e M (ready w.cluster (record M { serving = true }))
  pub preempts : (e : ℕ) (M : Master) (p : Plan) → find nat_cmp e w.masters ≡ Some M → M.serving ≡ true → plan_of w.cluster M ≡ Some p → Q (Preempt e) e M (ready w.cluster (preempted M p))
  pub hears : (M : Master) (k : ℕ) (x : Packet) → find nat_cmp x.to.inc w.masters ≡ Some M → packet_of w k ≡ Some x → is_master x.to.id ≡ true → talks w.cluster M x.from.id ≡ true
      → Q (Deliver k) x.to.inc M (ready w.cluster (told M (heard_of w.net (master_party M) (talks w.cluster M) x) x.from.id (received w.cluster M w.net x)))

module _ (w : World) (h : Invariant w) (Q : Event → ℕ → Master → Master → Type 0) (s : MasterSteps w Q) where
  -- of each master that runs before and behind an event
  pub record Through (v : Event) (masters : List (ℕ × Master)) : Type 0 where
    pub it : is_single v ≡ true → (e : ℕ) (M N : Master) → find nat_cmp e w.masters ≡ Some M → find nat_cmp e masters ≡ Some N → Q v e M N

  abbrev pub ThroughWorld : Event → World → Type 0
  ThroughWorld v x = Through v x.masters

  stays : (v : Event) (e : ℕ) (M N : Master) → find nat_cmp e w.masters ≡ Some M → find nat_cmp e w.masters ≡ Some N → Q v e M N
  stays v e M N f g = let same : M ≡ N = cc in subst (Q v e M) same (s.same v e M f)

  unchanged : (v : Event) → Through v w.masters
  unchanged v = record { it = λ _ e M N f g. stays v e M N f g }

  -- the master of an epoch took a step, all others stay
  acted : (v : Event) (e : ℕ) (M X : Master) → find nat_cmp e w.masters ≡ Some M → X.epoch ≡ M.epoch → Q v e M (ready w.cluster X) → Through v (with_ready w.cluster X w.masters)
  acted v e M X found same q = record { it = λ _ k K N f g. by k K N f (put_found k R.epoch R N w.masters g) }
    where
      R : Master
      R = ready w.cluster X

      epoch : R.epoch ≡ e
      epoch = ready_epoch w.cluster X ∙ same ∙ (h.masters e M found).epoch

      by : (k : ℕ) (K N : Master) → find nat_cmp k w.masters ≡ Some K → ((nat_eq R.epoch k ≡ false) × (find nat_cmp k w.masters ≡ Some N)) ⊎ ((k ≡ R.epoch) × (R ≡ N)) → Q v k K N
      by k K N f (inl o) = stays v k K N f o.1
      by k K N f (inr o) =
          let here : k ≡ e = o.0 ∙ epoch in
          let at : find nat_cmp e w.masters ≡ Some K = ap (λ n. find nat_cmp n w.masters) (sym here) ∙ f in
          let is : M ≡ K = cc in
          subst (λ n. Q v n K N) (sym here) (subst (λ (Z : Master). Q v e Z N) is (subst (Q v e M) o.1 q))

  started : (e : ℕ) (X : Master) → w.hard.fence < e → X.epoch ≡ e → Through (StartMaster e) (with_ready w.cluster X w.masters)
  started e X up epoch = record { it = λ _ k K N f g. by k K N f (put_found k R.epoch R N w.masters g) }
    where
      R : Master
      R = ready w.cluster X

      by : (k : ℕ) (K N : Master) → find nat_cmp k w.masters ≡ Some K → ((nat_eq R.epoch k ≡ false) × (find nat_cmp k w.masters ≡ Some N)) ⊎ ((k ≡ R.epoch) × (R ≡ N)) → Q (StartMaster e) k K N
      by k K N f (inl o) = stays (StartMaster e) k K N f o.1
      by k K N f (inr o) = let a = o.0 in let b = ready_epoch w.cluster X in let r = (h.masters k K f).ran in absurd (omega (arith, a, b, epoch, r, up))

  stopped : (v : Event) (e : ℕ) → Through v (where_key nat_cmp (λ k. not (nat_eq k e)) w.masters)
  stopped v e = record { it = λ _ k K N f g. stays v k K N f (still_runs e k N w.masters g).1 }

  steps : EventSteps ThroughWorld (λ _. ⊤) w
  steps = record {
    same = unchanged;
    starts = λ e t _. started e (new_master (raised w.hard e) e) (rising (not_refused (not (nat_lt w.hard.fence e)) (NotRising w.hard.fence) ((not (nat_lt (length w.masters) most_masters), TooManyMasters most_masters) ∷ []) t).0) refl;
    stops = λ e. stopped (StopMaster e) e;
    halts = λ calls all x _. stopped (Halt calls all x) (writer_of x);
    starts_agent = λ m n _. record { it = (unchanged _).it };
    starts_app = λ a n _. record { it = (unchanged _).it };
    submits = λ e M j f _ _ _. acted (Submit e j) e M (record M { jobs = with_job (eight_places j) M.jobs }) f refl (s.submits e M j f);
    finishes = λ e M a f _. acted (Finish e a) e M (ended_in M a) f refl (s.finishes e M a f);
    bans = λ e M m f _. acted (Ban e m) e M (banned_in M m) f refl (s.bans e M m f);
    unbans = λ e M m f _. acted (Unban e m) e M (record M { bans = without_number m M.bans }) f refl (s.unbans e M m f);
    begins = λ e M f. acted (Begin e) e M (record M { serving = true }) f refl (s.begins e M f);
    preempts = λ e M p f serves t. acted (Preempt e) e M (preempted M p) f refl (s.preempts e M p f serves t);
    asks = λ a g x _ _. unchanged _;
    master_turns = λ e M _. unchanged _;
    agent_turns = λ m g _. unchanged _;
    app_turns = λ a g _. unchanged _;
    master_resyncs = λ e M _. unchanged _;
    agent_resyncs = λ m g _. unchanged _;
    app_resyncs = λ a g _. unchanged _;
    hears = λ M k x f sent to t. let d = heard_of w.net (master_party M) (talks w.cluster M) x in let l = received w.cluster M w.net x in acted (Deliver k) x.to.inc M (told M d x.from.id l) f (told_same M d x.from.id l).epoch (s.hears M k x f sent to t);
    agent_hears = λ g k x _ _ _. unchanged (Deliver k);
    app_hears = λ g k x _ _. unchanged (Deliver k);
  }

  pub single_steps : (v : Event) → StepHolds (ThroughWorld v) (act w v)
  single_steps v = act_steps ThroughWorld (λ _. ⊤) w steps (λ n k l. record { it = λ never. cc }) (λ e least percent votes ms. record { it = λ never. cc }) v tt

  pub master_through : (v : Event) (e : ℕ) (M N : Master) → is_single v ≡ true → find nat_cmp e w.masters ≡ Some M → find nat_cmp e (act w v).world.masters ≡ Some N → Q v e M N
  master_through v e M N one f g = (single_steps v).it.it one e M N f g

-- A running master is orderly
pub orderly : (w : World) (e : ℕ) (M : Master) → Invariant w → find nat_cmp e w.masters ≡ Some M → IsOrderly M
orderly w e M h found = record {
  sorted = k.tabled.sorted;
  reported = λ a u m none. nothing_there a u m none (nat_lt 0 (held_on M.table a u m)) refl;
  wanted = λ a u some. (live a u some (is_live M.jobs a) refl, unit a u some (nat_lt u (unit_count M.jobs a)) refl);
  waits = all_more (λ p. nat_lt 0 (out M p.0 p.1) ≡ true) (λ p. 0 < out M p.0 p.1) (λ p t. grind (arith, nat_tests, t)) M.line k.waits;
}
  where
    k : IsShowing w.cluster w.hard w.net e M
    k = h.masters e M found

    nothing_there : (a u m : ℕ) → has_number m M.reported ≡ false → (b : Bool) → nat_lt 0 (held_on M.table a u m) ≡ b → held_on M.table a u m ≡ 0
    nothing_there a u m none true t = let there : has_number m M.reported ≡ true = each_found (λ (s : Spot). has_number s.machine M.reported ≡ true) (spot a u m) M.table (grind (arith, nat_tests, t)) k.housed.reported in absurd (let f : ⊥ = cc in f)
    nothing_there a u m none false t = grind (arith, nat_tests, t)

    live : (a u : ℕ) → 0 < asked M a (want_key u) → (b : Bool) → is_live M.jobs a ≡ b → is_live M.jobs a ≡ true
    live a u some true t = t
    live a u some false t = let z : asked M a (want_key u) ≡ 0 = ap (λ (d : Ledger). at_key d (want_key u)) (k.tabled.empty a t) in absurd (omega (arith, some, z))

    unit : (a u : ℕ) → 0 < asked M a (want_key u) → (b : Bool) → nat_lt u (unit_count M.jobs a) ≡ b → u < unit_count M.jobs a
    unit a u some true t = grind (arith, nat_tests, t)
    unit a u some false t = let z : asked M a (want_key u) ≡ 0 = (k.bounded.demands a).1 (want_key u) (ap (λ b. b && true) t) in absurd (omega (arith, some, z))

-- Grows as allowed
grows_steps : (w : World) → Invariant w → MasterSteps w (λ v e M N. GrowsAsAllowed w.cluster M N)
grows_steps w h = record {
  same = λ v e M f. fewer_grow w.cluster M M (λ a u m. omega arith);
  submits = λ e M j f. let k = (each_grown w.cluster M (orderly w e M h f)).admits (eight_places j) in ready_grows w.cluster M _ k.sorted k.wanted k.grows;
  finishes = λ e M a f. let k = (each_grown w.cluster M (orderly w e M h f)).ends a in ready_grows w.cluster M (ended_in M a) k.sorted k.wanted k.grows;
  bans = λ e M m f. let k = (each_grown w.cluster M (orderly w e M h f)).bans m in ready_grows w.cluster M (banned_in M m) k.sorted k.wanted k.grows;
  unbans = λ e M m f. let k = (each_grown w.cluster M (orderly w e M h f)).unbans m in ready_grows w.cluster M (record M { bans = without_number m M.bans }) k.sorted k.wanted k.grows;
  begins = λ e M f. let k = (each_grown w.cluster M (orderly w e M h f)).begins in ready_grows w.cluster M (record M { serving = true }) k.sorted k.wanted k.grows;
  preempts = λ e M p f serves t. let k = (each_grown w.cluster M (orderly w e M h f)).preempts p serves t in ready_grows w.cluster M (preempted M p) k.sorted k.wanted k.grows;
  hears = λ M k x f _ _ _. let d = heard_of w.net (master_party M) (talks w.cluster M) x in hearing_grows w.cluster M d.fresh (is_taken d.what) x.from.id (content w.net x) (orderly w x.to.inc M h f);
}

pub all_grow : (c : ClusterRecord) (events : List Event) → AllGrow (run c events)
all_grow c events = let w = run c events in record {
  grow = λ v e M N r. master_through (counted_in w) (counted_holds w (always c events)) _ (grows_steps (counted_in w) (counted_holds w (always c events))) v e M N r.single r.before r.behind;
}

-- Banned machines are bare
record AreBare (masters : List (ℕ × Master)) : Type 0 where
  it : (e : ℕ) (M : Master) → find nat_cmp e masters ≡ Some M → IsBare M

bare_put : (c : ClusterRecord) (N : Master) (masters : List (ℕ × Master)) → AreBare masters → IsBare (ready c N) → AreBare (with_ready c N masters)
bare_put c N masters b r = record { it = λ e M f. by e M (put_found e (ready c N).epoch (ready c N) M masters f) }
  where
    by : (e : ℕ) (M : Master) → ((nat_eq (ready c N).epoch e ≡ false) × (find nat_cmp e masters ≡ Some M)) ⊎ ((e ≡ (ready c N).epoch) × (ready c N ≡ M)) → IsBare M
    by e M (inl o) = b.it e M o.1
    by e M (inr o) = subst IsBare o.1 r

abbrev bare_of : ClusterRecord → HardState → List (ℕ × Master) → Type 0
bare_of = λ _ _ masters. AreBare masters

events_bare : (c : ClusterRecord) (h : HardState) (masters : List (ℕ × Master)) → AreBare masters → KeptBy bare_of (λ _. ⊤) c h masters
events_bare c h masters b = record {
  starts = λ e _ _. bare_put c (new_master (raised h e) e) masters b (ready_bare c (new_master (raised h e) e) (new_bare (raised h e) e));
  stops = λ e _. record { it = λ k M f. b.it k M (still_runs e k M masters f).1 };
  submits = λ e M j f _ _ _. bare_put c (record M { jobs = with_job (eight_places j) M.jobs }) masters b (ready_bare c _ ((each_bare c M (b.it e M f)).admits (eight_places j)));
  finishes = λ e M a f _. bare_put c (ended_in M a) masters b (ready_bare c (ended_in M a) ((each_bare c M (b.it e M f)).ends a));
  bans = λ e M m f _. bare_put c (banned_in M m) masters b (ready_bare c (banned_in M m) ((each_bare c M (b.it e M f)).bans m));
  unbans = λ e M m f _. bare_put c (record M { bans = without_number m M.bans }) masters b (ready_bare c (record M { bans = without_number m M.bans }) ((each_bare c M (b.it e M f)).unbans m));
  begins = λ e M f. bare_put c (record M { serving = true }) masters b (ready_bare c (record M { serving = true }) (each_bare c M (b.it e M f)).begins);
  preempts = λ e M p f serves t. bare_put c (preempted M p) masters b (ready_bare c (preempted M p) ((each_bare c M (b.it e M f)).preempts p serves t));
  hears = λ e M net x f _. let d = heard_of net (master_party M) (talks c M) x in let l = received c M net x in bare_put c (told M d x.from.id l) masters b (hearing_bare c M d.fresh (is_taken d.what) x.from.id l (b.it e M f));
}

-- a ban that is done
record BanDone (e m : ℕ) (s : Step) : Type 0 where
  it : s.lines ≡ [] → (N : Master) → find nat_cmp e s.world.masters ≡ Some N → (has_number m N.bans ≡ true) × (has_number m s.world.hard.bans ≡ true)

ban_done : (w : World) (e m : ℕ) → Invariant w → BanDone e m (act w (Ban e m))
ban_done w e m h = found_has (BanDone e m) (find nat_cmp e w.masters) (refused w NotRunning) _ (record { it = λ d. cc })
    (λ M f. bans_has (BanDone e m) w (λ r. record { it = λ d. cc }) M _ m (λ _. record { it = λ _ N g. (own M f N g, with_here m w.hard.bans) }))
  where
    own : (M : Master) → find nat_cmp e w.masters ≡ Some M → (N : Master) → find nat_cmp e (with_ready w.cluster (banned_in M m) w.masters) ≡ Some N → has_number m N.bans ≡ true
    own M f N g = by (put_found e R.epoch R N w.masters g)
      where
        R : Master
        R = ready w.cluster (banned_in M m)

        by : ((nat_eq R.epoch e ≡ false) × (find nat_cmp e w.masters ≡ Some N)) ⊎ ((e ≡ R.epoch) × (R ≡ N)) → has_number m N.bans ≡ true
        by (inl o) = let same : R.epoch ≡ e = ready_epoch w.cluster (banned_in M m) ∙ (h.masters e M f).epoch in let yes : nat_eq R.epoch e ≡ true = grind (arith, nat_tests, same) in let apart = o.0 in absurd (let z : ⊥ = cc in z)
        by (inr o) = subst (λ (X : Master). has_number m X.bans ≡ true) o.1 (subst (λ ms. has_number m ms ≡ true) (sym (ready_besides w.cluster (banned_in M m)).bans) (with_here m M.bans))

pub all_bare : (c : ClusterRecord) (events : List Event) → AllBare (run c events)
all_bare c events = record {
  bare = (run_keeps bare_of (λ _. ⊤) events_bare events (empty_world c) (unasked events) (record { it = λ e M none. cc })).it.it;
  bans = λ e m N done f. (ban_done (counted_in (run c events)) e m (counted_holds (run c events) (always c events))).it done N f;
}

-- Loses only what is credited. Where no count may fall, none does
kept_all : (w : World) (v : Event) (e : ℕ) (c : ClusterRecord) (M X : Master) → ((a u m : ℕ) → held_on M.table a u m ≤ held_on X.table a u m) → (a u m : ℕ) → held_on (ready c X).table a u m < held_on M.table a u m → MayFall w v e M (ready c X) a u m
kept_all w v e c M X keeps a u m lt = absurd (let k = keeps a u m in let r = ready_rises c X (spot a u m) in omega (arith, k, r, lt))

-- whether a packet tells of a new boot
fresh_is : (net : Net Ledger) (p : Party) (talks : Id → Bool) (x : Packet) → same_id x.to.id p.id ≡ true → talks x.from.id ≡ true → (heard_of net p talks x).fresh ≡ nat_lt (net.links p x.from.id).known x.from.inc
fresh_is net p talks x to t = ap (λ b. (cond (not b) (unmoved Stranger l) rest).fresh) (ap (λ b. b && talks x.from.id) to ∙ t) ∙ by (nat_lt x.from.inc l.known) refl
  where
    l : Link
    l = net.links p x.from.id

    rest : Heard
    rest = cond (nat_lt x.from.inc l.known) (unmoved Stale l) (hear_peer p.inc (last net p x.from.id) l x)

    by : (b : Bool) → nat_lt x.from.inc l.known ≡ b → (cond b (unmoved Stale l) (hear_peer p.inc (last net p x.from.id) l x)).fresh ≡ nat_lt l.known x.from.inc
    by true e = (let z : nat_lt l.known x.from.inc ≡ false = grind (arith, nat_tests, e) in sym z)
    by false e = refl

pub master_is : (d : Id) → is_master d ≡ true → d ≡ master_id
master_is d t = let b = both_true (nat_eq d.role 1) (nat_eq d.number 0) t in let role = number_is d.role 1 b.0 in let number = number_is d.number 0 b.1 in (λ i. record { role = role i; number = number i })

-- whose packet it is
whose : (d : Id) (a : ℕ) → (d ≡ app_id a) ⊎ (d ≡ app_id a → ⊥)
whose d a = by (same_id d (app_id a)) refl
  where
    by : (b : Bool) → same_id d (app_id a) ≡ b → (d ≡ app_id a) ⊎ (d ≡ app_id a → ⊥)
    by true t = inl (id_is d (app_id a) t)
    by false t = inr (λ same. (let yes : same_id d (app_id a) ≡ true = ap (λ (q : Id). same_id q (app_id a)) same ∙ same_id_itself (app_id a) in absurd (let f : ⊥ = cc in f)))

-- a demand that is delivered
heard_loses : (w : World) → Invariant w → (M : Master) (k : ℕ) (x : Packet) → find nat_cmp x.to.inc w.masters ≡ Some M → packet_of w k ≡ Some x → is_master x.to.id ≡ true → talks w.cluster M x.from.id ≡ true → (a u m : ℕ)
    → let N = ready w.cluster (told M (heard_of w.net (master_party M) (talks w.cluster M) x) x.from.id (received w.cluster M w.net x)) in held_on N.table a u m < held_on M.table a u m → MayFall w (Deliver k) x.to.inc M N a u m
heard_loses w h M k x f sent to t a u m lt = by (whose x.from.id a)
  where
    d : Heard
    d = heard_of w.net (master_party M) (talks w.cluster M) x

    N : Master
    N = ready w.cluster (told M d x.from.id (received w.cluster M w.net x))

    sorted : is_agent x.from.id ≡ false → T (is_sorted key_cmp (content w.net x).entries)
    sorted other =
        let app : x.from.id ≡ app_id x.from.id.number = (let role = number_is x.from.id.role 3 (talks_app w.cluster M x.from.id t other) in (λ i. record { role = role i; number = x.from.id.number })) in
        subst (λ (p : Id). T (is_sorted key_cmp (at_index nothing (w.net.histories (party p x.from.inc) x.to.id) x.seq).entries)) (sym app)
        (subst (λ (q : Id). T (is_sorted key_cmp (at_index nothing (w.net.histories (party (app_id x.from.id.number) x.from.inc) q) x.seq).entries)) (sym (master_is x.to.id to)) ((h.written x.from.id.number x.from.inc).tidy x.seq).sorted)

    loses : LosesOnlyCredited d.fresh x.from.id M N
    loses = hearing_loses w.cluster M d.fresh (is_taken d.what) x.from.id (content w.net x) (orderly w x.to.inc M h f) sorted t

    by : (x.from.id ≡ app_id a) ⊎ (x.from.id ≡ app_id a → ⊥) → MayFall w (Deliver k) x.to.inc M N a u m
    by (inl is) = record {
      packet = x;
      sent = sent;
      from = is;
      to = to;
      epoch = sym (h.masters x.to.inc M f).epoch;
      within = subst (λ (q : Id). held_on M.table a u m ≤ held_on N.table a u m + (credited_at N a u m - cond (nat_lt (w.net.links (master_party M) q).known x.from.inc) 0 (credited_at M a u m))) is
          (subst (λ b. held_on M.table a u m ≤ held_on N.table a u m + (credited_at N a u m - cond b 0 (credited_at M a u m))) (fresh_is w.net (master_party M) (talks w.cluster M) x (ap (λ (q : Id). same_id q master_id) (master_is x.to.id to)) t) (loses.own a u m is));
    }
    by (inr not_this) = absurd (let o = loses.others a u m not_this in omega (arith, o, lt))

loses_steps : (w : World) → Invariant w → MasterSteps (counted_in w) (λ v e M N. (a u m : ℕ) → held_on N.table a u m < held_on M.table a u m → MayFall w v e M N a u m)
loses_steps w h = record {
  same = λ v e M f a u m lt. absurd (omega (arith, lt));
  submits = λ e M j f a u m lt. kept_all w (Submit e j) e w.cluster M (record M { jobs = with_job (eight_places j) M.jobs }) (λ a u m. ((each_kept w.cluster M).admits (eight_places j)).keeps a u m (λ z. z)) a u m lt;
  finishes = λ e M b f a u m lt. finished e M b a u m lt (numbers b a);
  bans = λ e M n f a u m lt. banned e M n a u m lt (numbers n m);
  unbans = λ e M n f a u m lt. kept_all w (Unban e n) e w.cluster M (record M { bans = without_number n M.bans }) (λ a u m. ((each_kept w.cluster M).unbans n).keeps a u m (λ z. z)) a u m lt;
  begins = λ e M f a u m lt. kept_all w (Begin e) e w.cluster M (record M { serving = true }) (λ a u m. (each_kept w.cluster M).begins.keeps a u m (λ z. z)) a u m lt;
  preempts = λ e M p f _ _ a u m lt. refl;
  hears = λ M k x f sent to t a u m lt. heard_loses w h M k x f sent to t a u m lt;
}
  where
    finished : (e : ℕ) (M : Master) (b a u m : ℕ) → held_on (ready w.cluster (ended_in M b)).table a u m < held_on M.table a u m → (b ≡ a) ⊎ (b ≡ a → ⊥) → (e ≡ e) × (b ≡ a)
    finished e M b a u m lt (inl same) = (refl, same)
    finished e M b a u m lt (inr apart) = absurd (let k = ((each_kept w.cluster M).ends b).keeps a u m apart in let r = ready_rises w.cluster (ended_in M b) (spot a u m) in omega (arith, k, r, lt))

    banned : (e : ℕ) (M : Master) (n a u m : ℕ) → held_on (ready w.cluster (banned_in M n)).table a u m < held_on M.table a u m → (n ≡ m) ⊎ (n ≡ m → ⊥) → (e ≡ e) × (n ≡ m)
    banned e M n a u m lt (inl same) = (refl, same)
    banned e M n a u m lt (inr apart) = absurd (let k = ((each_kept w.cluster M).bans n).keeps a u m apart in let r = ready_rises w.cluster (banned_in M n) (spot a u m) in omega (arith, k, r, lt))

pub all_lose : (c : ClusterRecord) (events : List Event) → AllLose (run c events)
all_lose c events = let w = run c events in record {
  lose = λ v e M N r a u m lt. master_through (counted_in w) (counted_holds w (always c events)) _ (loses_steps w (always c events)) v e M N r.single r.before r.behind a u m lt;
}
