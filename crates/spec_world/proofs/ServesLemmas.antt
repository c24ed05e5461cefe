-- A serving master was told of all, or told to begin.
use Rattle.std.proofs.Common.{◌≡◌, ◌⊎◌, inl, inr, ℕ, zero, suc, ◌+◌, Bool, true, false, not, nat_eq, List, [], ◌∷◌, ◌++◌, length, take, Some, slice_get, refl, sym, ◌∙◌, ap, subst}
use Rattle.std.specs.Prelude.{⊤, is_some}
use Rattle.std.specs.Ordering.{nat_cmp}
use Rattle.std.specs.FinMap.Entries.{find, where_key}
use Rattle.fuxi_terms.specs.Cluster.{ClusterRecord}
use Rattle.fuxi_terms.specs.Jobs.{eight_places}
use Rattle.fuxi_terms.specs.Numbers.{has_number, without_number}
use Rattle.spec_net.specs.Net.{Packet, heard_of, is_taken}
use Rattle.spec_roles.specs.HardState.{raised, with_job}
use Rattle.spec_roles.specs.Masters.{Master}
use Rattle.spec_roles.specs.MasterSteps.{BansMachine, master_party, talks, ready, ended_in, banned_in, new_master}
use Rattle.spec_roles.specs.Preemption.{preempted}
use Rattle.spec_roles.specs.Transitions.{HasAllReports}
use Rattle.spec_roles.specs.Votes.{VotesRecord}
use Rattle.spec_roles.proofs.ServesWhenTold.{ready_serves, hearing_serves, hearing_reports}
use Rattle.spec_roles.proofs.TransitionsLemmas.{ready_besides}
use Rattle.spec_world.specs.World.{World, empty_world}
use Rattle.spec_world.specs.Parties.{told, received}
use Rattle.spec_world.specs.Events.{Event, StartMaster, StopMaster, Submit, Finish, Ban, Unban, Begin, Preempt, Judge, Deliver, DeliverRange, Halt, writer_of, counted_in, world_step, act, commanded, ban_each, deliver_one, deliver_all}
use Rattle.spec_world.specs.Runs.{run}
use Rattle.spec_world.specs.EventSteps.{WasBegun, AllServe}
use Rattle.spec_world.proofs.EventsWalk.{EventSteps, StepHolds, act_steps, ban_steps, deliver_steps, with_ready}
use Rattle.spec_world.proofs.Invariant.{put_found, ready_epoch}
use Rattle.spec_world.proofs.InvariantKept.{told_same}
use Rattle.spec_world.proofs.StartsLemmas.{run_append}
use Rattle.spec_world.proofs.LeftLemmas.{still_runs}

-- each running master that serves was told of all, or began
record AllTold (G : ℕ → Type 0) (c : ClusterRecord) (masters : List (ℕ × Master)) : Type 0 where
  epochs : (e : ℕ) (M : Master) → find nat_cmp e masters ≡ Some M → M.epoch ≡ e
  told : (e : ℕ) (M : Master) → find nat_cmp e masters ≡ Some M → M.serving ≡ true → HasAllReports c M ⊎ G e

-- so did those that began by this event too
abbrev OrBegan : (ℕ → Type 0) → World → Event → ℕ → Type 0
OrBegan G w v e = G e ⊎ ((v ≡ Begin e) × (is_some (find nat_cmp e w.masters) ≡ true))

module _ (G : ℕ → Type 0) (w : World) (b : AllTold G w.cluster w.masters) where
  abbrev ToldBy : Event → World → Type 0
  ToldBy v x = AllTold (OrBegan G w v) x.cluster x.masters

  more : (v : Event) (e : ℕ) (M : Master) → HasAllReports w.cluster M ⊎ G e → HasAllReports w.cluster M ⊎ OrBegan G w v e
  more v e M (inl h) = inl h
  more v e M (inr g) = inr (inl g)

  same : (v : Event) → AllTold (OrBegan G w v) w.cluster w.masters
  same v = record { epochs = b.epochs; told = λ e M f s. more v e M (b.told e M f s) }

  -- a master takes a step
  acted : (v : Event) (X : Master) → ((ready w.cluster X).serving ≡ true → HasAllReports w.cluster (ready w.cluster X) ⊎ OrBegan G w v X.epoch) → AllTold (OrBegan G w v) w.cluster (with_ready w.cluster X w.masters)
  acted v X h = record {
    epochs = λ e M f. epoch e M (put_found e R.epoch R M w.masters f);
    told = λ e M f s. by e M s (put_found e R.epoch R M w.masters f);
  }
    where
      R : Master
      R = ready w.cluster X

      epoch : (e : ℕ) (M : Master) → ((nat_eq R.epoch e ≡ false) × (find nat_cmp e w.masters ≡ Some M)) ⊎ ((e ≡ R.epoch) × (R ≡ M)) → M.epoch ≡ e
      epoch e M (inl o) = b.epochs e M o.1
      epoch e M (inr o) = ap (λ (Z : Master). Z.epoch) (sym o.1) ∙ sym o.0

      by : (e : ℕ) (M : Master) → M.serving ≡ true → ((nat_eq R.epoch e ≡ false) × (find nat_cmp e w.masters ≡ Some M)) ⊎ ((e ≡ R.epoch) × (R ≡ M)) → HasAllReports w.cluster M ⊎ OrBegan G w v e
      by e M s (inl o) = more v e M (b.told e M o.1 s)
      by e M s (inr o) = subst (λ n. HasAllReports w.cluster M ⊎ OrBegan G w v n) (sym (o.0 ∙ ready_epoch w.cluster X)) (subst (λ (Z : Master). HasAllReports w.cluster Z ⊎ OrBegan G w v X.epoch) o.1 (h (ap (λ (Z : Master). Z.serving) o.1 ∙ s)))

  -- one that serves as before, with its reports
  kept : (v : Event) (e : ℕ) (M X : Master) → find nat_cmp e w.masters ≡ Some M → X.epoch ≡ M.epoch → X.serving ≡ M.serving → ((m : ℕ) → has_number m M.reported ≡ true → has_number m X.reported ≡ true) → AllTold (OrBegan G w v) w.cluster (with_ready w.cluster X w.masters)
  kept v e M X f epoch serving reported = acted v X (λ s. by (M.serving) refl s)
    where
      R : Master
      R = ready w.cluster X

      still : HasAllReports w.cluster M ⊎ G e → HasAllReports w.cluster R ⊎ OrBegan G w v X.epoch
      still (inl h) = inl (record { reported = λ m there. subst (λ ms. has_number m ms ≡ true) (sym (ready_besides w.cluster X).reported) (reported m (h.reported m there)) })
      still (inr g) = inr (subst (OrBegan G w v) (sym (epoch ∙ b.epochs e M f)) (inl g))

      by : (t : Bool) → M.serving ≡ t → R.serving ≡ true → HasAllReports w.cluster R ⊎ OrBegan G w v X.epoch
      by true t s = still (b.told e M f t)
      by false t s = inl (ready_serves w.cluster X (serving ∙ t) s)

  began : (e : ℕ) (M : Master) → find nat_cmp e w.masters ≡ Some M → AllTold (OrBegan G w (Begin e)) w.cluster (with_ready w.cluster (record M { serving = true }) w.masters)
  began e M f = acted (Begin e) (record M { serving = true }) (λ _. inr (subst (OrBegan G w (Begin e)) (sym (b.epochs e M f)) (inr (refl, ap is_some f))))

  -- a master stops
  stopped : (v : Event) (e : ℕ) → AllTold (OrBegan G w v) w.cluster (where_key nat_cmp (λ k. not (nat_eq k e)) w.masters)
  stopped v e = record { epochs = λ k M f. b.epochs k M (still_runs e k M w.masters f).1; told = λ k M f s. more v k M (b.told k M (still_runs e k M w.masters f).1 s) }

  steps : EventSteps ToldBy (λ _. ⊤) w
  steps = record {
    same = same;
    starts = λ e _ _. acted (StartMaster e) (new_master (raised w.hard e) e) (λ s. inl (ready_serves w.cluster (new_master (raised w.hard e) e) refl s));
    stops = λ e. stopped (StopMaster e) e;
    halts = λ calls all x _. stopped (Halt calls all x) (writer_of x);
    starts_agent = λ m n _. same _;
    starts_app = λ a n _. same _;
    submits = λ e M j f _ _ _. kept (Submit e j) e M (record M { jobs = with_job (eight_places j) M.jobs }) f refl refl (λ m h. h);
    finishes = λ e M a f _. kept (Finish e a) e M (ended_in M a) f refl refl (λ m h. h);
    bans = λ e M m f _. kept (Ban e m) e M (banned_in M m) f refl refl (λ m h. h);
    unbans = λ e M m f _. kept (Unban e m) e M (record M { bans = without_number m M.bans }) f refl refl (λ m h. h);
    begins = began;
    preempts = λ e M p f _ _. kept (Preempt e) e M (preempted M p) f refl refl (λ m h. h);
    asks = λ a g x _ _. same _;
    master_turns = λ e M _. same _;
    agent_turns = λ m g _. same _;
    app_turns = λ a g _. same _;
    master_resyncs = λ e M _. same _;
    agent_resyncs = λ m g _. same _;
    app_resyncs = λ a g _. same _;
    hears = λ M k x f _ _ _. heard M k x f;
    agent_hears = λ g k x _ _ _. same (Deliver k);
    app_hears = λ g k x _ _. same (Deliver k);
  }
    where
      heard : (M : Master) (k : ℕ) (x : Packet) → find nat_cmp x.to.inc w.masters ≡ Some M → AllTold (OrBegan G w (Deliver k)) w.cluster (with_ready w.cluster (told M (heard_of w.net (master_party M) (talks w.cluster M) x) x.from.id (received w.cluster M w.net x)) w.masters)
      heard M k x f = acted (Deliver k) X (λ s. by M.serving refl s)
        where
          X : Master
          X = told M (heard_of w.net (master_party M) (talks w.cluster M) x) x.from.id (received w.cluster M w.net x)

          epoch : X.epoch ≡ x.to.inc
          epoch = (told_same M (heard_of w.net (master_party M) (talks w.cluster M) x) x.from.id (received w.cluster M w.net x)).epoch ∙ b.epochs x.to.inc M f

          fresh : Bool
          fresh = (heard_of w.net (master_party M) (talks w.cluster M) x).fresh

          taken : Bool
          taken = is_taken (heard_of w.net (master_party M) (talks w.cluster M) x).what

          still : HasAllReports w.cluster M ⊎ G x.to.inc → HasAllReports w.cluster (ready w.cluster X) ⊎ OrBegan G w (Deliver k) X.epoch
          still (inl h) = inl (record { reported = λ m there. hearing_reports w.cluster M fresh taken x.from.id (received w.cluster M w.net x) m (h.reported m there) })
          still (inr g) = inr (subst (OrBegan G w (Deliver k)) (sym epoch) (inl g))

          by : (t : Bool) → M.serving ≡ t → (ready w.cluster X).serving ≡ true → HasAllReports w.cluster (ready w.cluster X) ⊎ OrBegan G w (Deliver k) X.epoch
          by true t s = still (b.told x.to.inc M f t)
          by false t s = inl (hearing_serves w.cluster M fresh taken x.from.id (received w.cluster M w.net x) t s)

-- A delivery and a ban begin nothing
not_began : (G : ℕ → Type 0) (w : World) (v : Event) (c : ClusterRecord) (masters : List (ℕ × Master)) → ((e : ℕ) → v ≡ Begin e → ⊥) → AllTold (OrBegan G w v) c masters → AllTold G c masters
not_began G w v c masters never h = record { epochs = h.epochs; told = λ e M f s. by e M (h.told e M f s) }
  where
    by : (e : ℕ) (M : Master) → HasAllReports c M ⊎ OrBegan G w v e → HasAllReports c M ⊎ G e
    by e M (inl r) = inl r
    by e M (inr (inl g)) = inr g
    by e M (inr (inr o)) = absurd (never e o.0)

record WorldTold (G : ℕ → Type 0) (w : World) : Type 0 where
  it : AllTold G w.cluster w.masters

delivered : (G : ℕ → Type 0) (n k : ℕ) (w : World) → WorldTold G w → WorldTold G (deliver_all n k w).world
delivered G zero k w b = b
delivered G (suc n) k w b = delivered G n (k + 1) (deliver_one k w).world (record { it = not_began G w (Deliver k) _ _ (λ e same. cc) (deliver_steps (ToldBy G w b.it) (λ _. ⊤) w (steps G w b.it) k).it })

banned_each : (G : ℕ → Type 0) (e : ℕ) (votes : VotesRecord) (ms : List ℕ) (w : World) → WorldTold G w → WorldTold G (ban_each e votes ms w).world
banned_each G e votes [] w b = b
banned_each G e votes (m ∷ ms) w b = banned_each G e votes ms (commanded w e (BansMachine m)).world (record { it = not_began G w (Ban e m) _ _ (λ k same. cc) (ban_steps (ToldBy G w b.it) (λ _. ⊤) w (steps G w b.it) e m).it })

with_more : (G : ℕ → Type 0) (w : World) (v : Event) (c : ClusterRecord) (masters : List (ℕ × Master)) → AllTold G c masters → AllTold (OrBegan G w v) c masters
with_more G w v c masters h = record { epochs = h.epochs; told = λ e M f s. by e M (h.told e M f s) }
  where
    by : (e : ℕ) (M : Master) → HasAllReports c M ⊎ G e → HasAllReports c M ⊎ OrBegan G w v e
    by e M (inl r) = inl r
    by e M (inr g) = inr (inl g)

one_event : (G : ℕ → Type 0) (w : World) (v : Event) (b : AllTold G w.cluster w.masters) → StepHolds (ToldBy G w b v) (act w v)
one_event G w v b = act_steps (ToldBy G w b) (λ _. ⊤) w (steps G w b) (λ n k l. with_more G w (DeliverRange k l) _ _ (delivered G n k w (record { it = b })).it)
    (λ e least percent votes ms. with_more G w (Judge e least percent) _ _ (banned_each G e votes ms w (record { it = b })).it) v tt

-- One more event
got_front : {A : Type 0} (xs ys : List A) (i : ℕ) (x : A) → slice_get xs i ≡ Some x → slice_get (xs ++ ys) i ≡ Some x
got_front [] ys i x e = cc
got_front (z ∷ xs) ys zero x e = e
got_front (z ∷ xs) ys (suc i) x e = got_front xs ys i x e

got_last : {A : Type 0} (xs : List A) (x : A) → slice_get (xs ++ x ∷ []) (length xs) ≡ Some x
got_last [] x = refl
got_last (z ∷ xs) x = got_last xs x

take_front : {A : Type 0} (xs ys : List A) (i : ℕ) (x : A) → slice_get xs i ≡ Some x → take i (xs ++ ys) ≡ take i xs
take_front [] ys i x e = cc
take_front (z ∷ xs) ys zero x e = refl
take_front (z ∷ xs) ys (suc i) x e = ap (λ zs. z ∷ zs) (take_front xs ys i x e)

take_all : {A : Type 0} (xs ys : List A) → take (length xs) (xs ++ ys) ≡ xs
take_all [] ys = refl
take_all (z ∷ xs) ys = ap (λ zs. z ∷ zs) (take_all xs ys)

began_more : (c : ClusterRecord) (es : List Event) (v : Event) (e : ℕ) → OrBegan (WasBegun c es) (counted_in (run c es)) v e → WasBegun c (es ++ v ∷ []) e
began_more c es v e (inl g) = record { moment = g.moment; begun = got_front es (v ∷ []) g.moment (Begin e) g.begun; ran = ap (λ ts. is_some (find nat_cmp e (run c ts).masters)) (take_front es (v ∷ []) g.moment (Begin e) g.begun) ∙ g.ran }
began_more c es v e (inr o) = record { moment = length es; begun = got_last es v ∙ ap Some o.0; ran = ap (λ ts. is_some (find nat_cmp e (run c ts).masters)) (take_all es (v ∷ [])) ∙ o.1 }

record RunTold (c : ClusterRecord) (es : List Event) : Type 0 where
  it : AllTold (WasBegun c es) (run c es).cluster (run c es).masters

next_told : (c : ClusterRecord) (es : List Event) (v : Event) → RunTold c es → RunTold c (es ++ v ∷ [])
next_told c es v b =
    let w = run c es in
    let s = (one_event (WasBegun c es) (counted_in w) v b.it).it in
    let at : AllTold (WasBegun c (es ++ v ∷ [])) (world_step w v).world.cluster (world_step w v).world.masters = record { epochs = s.epochs; told = λ e M f t. by e M (s.told e M f t) } in
    record { it = subst (λ (x : World). AllTold (WasBegun c (es ++ v ∷ [])) x.cluster x.masters) (sym (run_append es (v ∷ []) (empty_world c))) at }
  where
    by : (e : ℕ) (M : Master) → HasAllReports (world_step (run c es) v).world.cluster M ⊎ OrBegan (WasBegun c es) (counted_in (run c es)) v e → HasAllReports (world_step (run c es) v).world.cluster M ⊎ WasBegun c (es ++ v ∷ []) e
    by e M (inl r) = inl r
    by e M (inr o) = inr (began_more c es v e o)

append_one : {A : Type 0} (xs ys : List A) (x : A) → (xs ++ x ∷ []) ++ ys ≡ xs ++ (x ∷ ys)
append_one [] ys x = refl
append_one (z ∷ xs) ys x = ap (λ zs. z ∷ zs) (append_one xs ys x)

runs_told : (c : ClusterRecord) (past es : List Event) → RunTold c past → RunTold c (past ++ es)
runs_told c past [] b = subst (RunTold c) (sym (append_nothing past)) b
  where
    append_nothing : (xs : List Event) → xs ++ [] ≡ xs
    append_nothing [] = refl
    append_nothing (x ∷ xs) = ap (λ zs. x ∷ zs) (append_nothing xs)
runs_told c past (v ∷ es) b = subst (RunTold c) (append_one past es v) (runs_told c (past ++ v ∷ []) es (next_told c past v b))

pub all_serve : (c : ClusterRecord) (events : List Event) → AllServe c events
all_serve c events = (runs_told c [] events (record { it = record { epochs = λ e M none. cc; told = λ e M none s. cc } })).it.told
