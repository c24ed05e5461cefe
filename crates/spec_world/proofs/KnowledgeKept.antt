-- What each running master knows of the hard state.
use Rattle.std.proofs.Common.{◌≡◌, ◌⊎◌, inl, inr, ℕ, zero, suc, ◌<◌, ◌≤◌, Bool, true, false, cond, not, nat_eq, nat_lt, List, [], ◌∷◌, ◌++◌, length, map, Some, None, refl, sym, ◌∙◌, ap, subst, arith}
use Rattle.std.specs.Prelude.{⊤, ◌&&◌}
use Rattle.std.specs.Ordering.{nat_cmp}
use Rattle.std.specs.FinMap.Entries.{find, where_key}
use Rattle.std.proofs.lemmas.Bool.Decides.{nat_tests}
use Rattle.fuxi_terms.specs.Cluster.{ClusterRecord, JobRecord}
use Rattle.fuxi_terms.specs.Limits.{most_masters}
use Rattle.fuxi_terms.specs.Jobs.{KnownJob, is_known, has_ended, is_live, eight_places}
use Rattle.fuxi_terms.specs.Numbers.{has_number, with_number, without_number}
use Rattle.spec_net.specs.Net.{Id, Heard, heard_of, is_taken}
use Rattle.spec_net.specs.Ledgers.{Ledger}
use Rattle.spec_net.specs.Channels.{is_agent}
use Rattle.spec_roles.specs.Masters.{Master}
use Rattle.spec_roles.specs.Placing.{first_placeable, granted, settle, settled, all_out, line_up}
use Rattle.spec_roles.specs.HardState.{HardState, raised, submitted, finished, banned, unbanned, with_job, with_ended, is_full}
use Rattle.spec_roles.specs.MasterSteps.{master_party, talks, phased, ready, adopts, take_report, take_demand, meet_app, ended_in, banned_in, new_master}
use Rattle.spec_roles.specs.Preemption.{preempted}
use Rattle.spec_roles.specs.Refusals.{Refusal, NotRising, TooManyMasters, Fenced, Known, NoJob, Ended, AlreadyBanned, NotBanned, first_refusal}
use Rattle.spec_world.specs.World.{World, Step}
use Rattle.spec_world.specs.Parties.{told, received}
use Rattle.spec_world.specs.Events.{Event, act}
use Rattle.spec_world.specs.Good.{KnowsHard}
use Rattle.fuxi_terms.proofs.Booleans.{either}
use Rattle.spec_world.proofs.Invariant.{put_found, ready_epoch}
use Rattle.spec_world.proofs.InvariantKept.{not_refused, rising}
use Rattle.spec_world.proofs.LeftLemmas.{BanWritten, FinishWritten, Left, StartWritten, SubmitWritten, UnbanWritten, Unwritten, left_hard, still_runs}
use Rattle.spec_world.proofs.EventsWalk.{KeptBy, with_ready, act_keeps}

-- a running master of an epoch, and what it knows
pub record IsOfHard (h : HardState) (e : ℕ) (M : Master) : Type 0 where
  pub epoch : M.epoch ≡ e
  pub ran : e ≤ h.fence
  pub knows : KnowsHard h M

pub record AllKnow (h : HardState) (masters : List (ℕ × Master)) : Type 0 where
  pub all : (e : ℕ) (M : Master) → find nat_cmp e masters ≡ Some M → IsOfHard h e M

-- after a step
pub record StepKnows (s : Step) : Type 0 where
  pub it : AllKnow s.world.hard s.world.masters

abbrev records_of : List KnownJob → List JobRecord
records_of jobs = map (λ (k : KnownJob). k.job) jobs

behind_nothing : (xs : List JobRecord) → xs ≡ xs ++ []
behind_nothing [] = refl
behind_nothing (x ∷ xs) = ap (λ ys. x ∷ ys) (behind_nothing xs)

-- a master with the jobs and bans of the hard state
exact : (h : HardState) (M : Master) → M.jobs ≡ h.jobs → M.bans ≡ h.bans → KnowsHard h M
exact h M jobs bans = record { later = []; first = ap records_of (sym jobs) ∙ behind_nothing (records_of M.jobs); marks = λ _. jobs; bans = λ _. bans }

records_added : (jobs : List KnownJob) (j : JobRecord) → records_of (with_job j jobs) ≡ records_of jobs ++ j ∷ []
records_added [] j = refl
records_added (k ∷ ks) j = ap (λ xs. k.job ∷ xs) (records_added ks j)

records_ended : (a : ℕ) (jobs : List KnownJob) → records_of (with_ended a jobs) ≡ records_of jobs ++ []
records_ended a [] = refl
records_ended a (k ∷ ks) = elim (nat_eq k.job.number a) as (λ b. (cond {A = KnownJob} b (record { job = k.job; ended = true }) k).job ∷ records_of (with_ended a ks) ≡ k.job ∷ (records_of ks ++ [])) [ true ↦ ap (λ xs. k.job ∷ xs) (records_ended a ks) | false ↦ ap (λ xs. k.job ∷ xs) (records_ended a ks) ]

-- the hard state grows under a master of another epoch than the fence
older : (h h' : HardState) (more : List JobRecord) (e : ℕ) (M : Master) → records_of h'.jobs ≡ records_of h.jobs ++ more → h.fence ≤ h'.fence → (e ≡ h'.fence → ⊥) → IsOfHard h e M → IsOfHard h' e M
older h h' more e M grown up apart k = record {
  epoch = k.epoch;
  ran = let r = k.ran in omega (arith, r, up);
  knows = record {
    later = k.knows.later ++ more;
    first = grown ∙ ap (λ xs. xs ++ more) k.knows.first ∙ assoc (records_of M.jobs) k.knows.later more;
    marks = λ same. absurd (apart (sym k.epoch ∙ same));
    bans = λ same. absurd (apart (sym k.epoch ∙ same));
  };
}
  where
    assoc : (xs ys zs : List JobRecord) → (xs ++ ys) ++ zs ≡ xs ++ (ys ++ zs)
    assoc [] ys zs = refl
    assoc (x ∷ xs) ys zs = ap (λ l. x ∷ l) (assoc xs ys zs)

-- The end of a step changes neither jobs nor bans
record SameKnowledge (M N : Master) : Type 0 where
  epoch : N.epoch ≡ M.epoch
  jobs : N.jobs ≡ M.jobs
  bans : N.bans ≡ M.bans

settle_same : (c : ClusterRecord) (fuel : ℕ) (M : Master) → SameKnowledge M (settle c fuel M)
settle_same c zero M = record { epoch = refl; jobs = refl; bans = refl }
settle_same c (suc fuel) M = elim (first_placeable c M) as (λ o. SameKnowledge M (elim o as (λ _. Master) [ None ↦ M | Some s ↦ settle c fuel (granted M s) ])) [
  | None ↦ record { epoch = refl; jobs = refl; bans = refl }
  | Some s ↦ let k = settle_same c fuel (granted M s) in record { epoch = k.epoch; jobs = k.jobs; bans = k.bans }
]

ready_same : (c : ClusterRecord) (M : Master) → SameKnowledge M (ready c M)
ready_same c M = let N = line_up (phased c M) in
    elim N.serving as (λ b. SameKnowledge M (elim b as (λ _. Master) [ true ↦ settled c N | false ↦ N ])) [
      | true ↦ let k = settle_same c (all_out N) N in record { epoch = k.epoch; jobs = k.jobs; bans = k.bans }
      | false ↦ record { epoch = refl; jobs = refl; bans = refl }
    ]

known_alike : (h : HardState) (M N : Master) → SameKnowledge M N → KnowsHard h M → KnowsHard h N
known_alike h M N s k = record {
  later = k.later;
  first = k.first ∙ ap (λ js. records_of js ++ k.later) (sym s.jobs);
  marks = λ e. s.jobs ∙ k.marks (sym s.epoch ∙ e);
  bans = λ e. s.bans ∙ k.bans (sym s.epoch ∙ e);
}

told_known : (M : Master) (h : Heard) (from : Id) (l : Ledger) → SameKnowledge M (told M h from l)
told_known M h from l =
    let N = meet_app h.fresh M from.number in
    either (SameKnowledge M) (is_agent from) (cond (is_taken h.what) (take_report M from.number l) M) (cond (is_taken h.what) (take_demand N from.number l) N)
    (λ _. either (SameKnowledge M) (is_taken h.what) (take_report M from.number l) M (λ _. reported from.number) (λ _. record { epoch = refl; jobs = refl; bans = refl }))
    (λ _. either (SameKnowledge M) (is_taken h.what) (take_demand N from.number l) N (λ _. demanded N from.number (met h.fresh)) (λ _. met h.fresh))
  where
    reported : (m : ℕ) → SameKnowledge M (take_report M m l)
    reported m = either (SameKnowledge M) (adopts M m l) _ M (λ _. record { epoch = refl; jobs = refl; bans = refl }) (λ _. record { epoch = refl; jobs = refl; bans = refl })

    demanded : (N : Master) (a : ℕ) → SameKnowledge M N → SameKnowledge M (take_demand N a l)
    demanded N a s = either (SameKnowledge M) (nat_eq l.head N.epoch && is_live N.jobs a) _ _ (λ _. record { epoch = s.epoch; jobs = s.jobs; bans = s.bans }) (λ _. record { epoch = s.epoch; jobs = s.jobs; bans = s.bans })

    met : (fresh : Bool) → SameKnowledge M (meet_app fresh M from.number)
    met true = record { epoch = refl; jobs = refl; bans = refl }
    met false = record { epoch = refl; jobs = refl; bans = refl }

-- the end of a master's step
ends : (c : ClusterRecord) (h : HardState) (masters : List (ℕ × Master)) (N : Master) → N.epoch ≤ h.fence → KnowsHard h N → ((e : ℕ) (M : Master) → nat_eq N.epoch e ≡ false → find nat_cmp e masters ≡ Some M → IsOfHard h e M) → AllKnow h (with_ready c N masters)
ends c h masters N own k others = record { all = λ e M found. by e M (put_found e (ready c N).epoch (ready c N) M masters found) }
  where
    by : (e : ℕ) (M : Master) → ((nat_eq (ready c N).epoch e ≡ false) × (find nat_cmp e masters ≡ Some M)) ⊎ ((e ≡ (ready c N).epoch) × (ready c N ≡ M)) → IsOfHard h e M
    by e M (inl o) = others e M (subst (λ n. nat_eq n e ≡ false) (ready_epoch c N) o.0) o.1
    by e M (inr o) = subst (IsOfHard h e) o.1 (record {
      epoch = sym o.0;
      ran = (let a = o.0 in let b = ready_epoch c N in omega (arith, a, b, own));
      knows = known_alike h N (ready c N) (ready_same c N) k;
    })

-- a step that writes nothing
acts : (c : ClusterRecord) (h : HardState) (masters : List (ℕ × Master)) (e : ℕ) (M N : Master) → AllKnow h masters → find nat_cmp e masters ≡ Some M → SameKnowledge M N → AllKnow h (with_ready c N masters)
acts c h masters e M N all found s =
    let k = all.all e M found in
    let a = s.epoch in
    let b = k.epoch in
    let r = k.ran in
    ends c h masters N (omega (arith, a, b, r)) (known_alike h M N s k.knows) (λ e' M' _ f. all.all e' M' f)

-- one that writes: it is of the master of the fence
writes : (c : ClusterRecord) (h : HardState) (masters : List (ℕ × Master)) (hard : HardState) (more : List JobRecord) (e : ℕ) (M N : Master) → AllKnow h masters → find nat_cmp e masters ≡ Some M → nat_lt M.epoch h.fence ≡ false → N.epoch ≡ M.epoch → hard.fence ≡ h.fence
    → records_of hard.jobs ≡ records_of h.jobs ++ more → (M.jobs ≡ h.jobs → N.jobs ≡ hard.jobs) → (M.bans ≡ h.bans → N.bans ≡ hard.bans) → AllKnow hard (with_ready c N masters)
writes c h masters hard more e M N all found unfenced same fence grown jobs bans =
    let k = all.all e M found in
    let r = k.ran in
    let ep = k.epoch in
    let at : M.epoch ≡ h.fence = (let least : h.fence ≤ M.epoch = grind (arith, nat_tests, unfenced) in omega (arith, r, ep, least)) in
    ends c hard masters N (omega (arith, same, at, fence)) (exact hard N (jobs (k.knows.marks at)) (bans (k.knows.bans at)))
    (λ e' M' other f. older h hard more e' M' grown (omega (arith, fence)) (λ is. let yes : nat_eq N.epoch e' ≡ true = grind (arith, nat_tests, same, at, fence, is) in cc) (all.all e' M' f))

not_fenced : (M : Master) (h : HardState) (ts : List (Bool × Refusal)) → first_refusal ((nat_lt M.epoch h.fence, Fenced h.fence) ∷ ts) ≡ None → nat_lt M.epoch h.fence ≡ false
not_fenced M h ts e = (not_refused (nat_lt M.epoch h.fence) (Fenced h.fence) ts e).0

starts_known : (c : ClusterRecord) (h : HardState) (masters : List (ℕ × Master)) (e : ℕ) → AllKnow h masters → h.fence < e → AllKnow (raised h e) (with_ready c (new_master (raised h e) e) masters)
starts_known c h masters e all lt = ends c (raised h e) masters (new_master (raised h e) e) (omega arith) (exact (raised h e) (new_master (raised h e) e) refl refl)
    (λ e' M' other f. let k = all.all e' M' f in let r = k.ran in older h (raised h e) [] e' M' (behind_nothing (records_of h.jobs)) (omega (arith, lt)) (λ is. omega (arith, is, r, lt)) k)

-- a master stops, and the hard state grows: those that are left are of other epochs than the fence
stopped_known : (h h' : HardState) (masters : List (ℕ × Master)) (e : ℕ) (more : List JobRecord) → AllKnow h masters → records_of h'.jobs ≡ records_of h.jobs ++ more → h.fence ≤ h'.fence → ((q : ℕ) → q ≤ h.fence → nat_eq q e ≡ false → q ≡ h'.fence → ⊥)
    → AllKnow h' (where_key nat_cmp (λ k. not (nat_eq k e)) masters)
stopped_known h h' masters e more b grown up apart = record { all = λ q M found. let o = still_runs e q M masters found in let k = b.all q M o.1 in older h h' more q M grown up (apart q k.ran o.0) k }

-- a master that may write is of the fence
last_epoch : (h : HardState) (masters : List (ℕ × Master)) (e : ℕ) (M : Master) → AllKnow h masters → find nat_cmp e masters ≡ Some M → nat_lt M.epoch h.fence ≡ false → e ≡ h.fence
last_epoch h masters e M b f unfenced = let k = b.all e M f in let r = k.ran in let ep = k.epoch in (let least : h.fence ≤ M.epoch = grind (arith, nat_tests, unfenced) in omega (arith, r, ep, least))

others : (e f q : ℕ) → e ≡ f → nat_eq q e ≡ false → q ≡ f → ⊥
others e f q last apart same = let yes : nat_eq q e ≡ true = grind (arith, nat_tests, last, same) in cc

left_known : (A : Event → Type 0) (c : ClusterRecord) (h : HardState) (masters : List (ℕ × Master)) (e : ℕ) → AllKnow h masters → (l : Left A c h masters e) → AllKnow (left_hard h l) (where_key nat_cmp (λ k. not (nat_eq k e)) masters)
left_known A c h masters e b Unwritten = record { all = λ q M found. b.all q M (still_runs e q M masters found).1 }
left_known A c h masters e b (StartWritten n t) =
    let up = rising (not_refused (not (nat_lt h.fence e)) (NotRising h.fence) ((not (nat_lt (length masters) most_masters), TooManyMasters most_masters) ∷ []) n).0 in
    stopped_known h (raised h e) masters e [] b (behind_nothing (records_of h.jobs)) (omega (arith, up)) (λ q ran apart same. omega (arith, ran, same, up))
left_known A c h masters e b (SubmitWritten M j calls all f line own t) =
    stopped_known h (submitted h (eight_places j)) masters e (eight_places j ∷ []) b (records_added h.jobs (eight_places j)) (omega arith) (λ q ran apart same. others e h.fence q (last_epoch h masters e M b f (not_fenced M h ((is_known h.jobs j.number, Known) ∷ is_full h ∷ []) t)) apart same)
left_known A c h masters e b (FinishWritten M a f t) =
    stopped_known h (finished h a) masters e [] b (records_ended a h.jobs) (omega arith) (λ q ran apart same. others e h.fence q (last_epoch h masters e M b f (not_fenced M h ((not (is_known h.jobs a), NoJob) ∷ (has_ended h.jobs a, Ended) ∷ is_full h ∷ []) t)) apart same)
left_known A c h masters e b (BanWritten M m f t) =
    stopped_known h (banned h m) masters e [] b (behind_nothing (records_of h.jobs)) (omega arith) (λ q ran apart same. others e h.fence q (last_epoch h masters e M b f (not_fenced M h ((has_number m h.bans, AlreadyBanned) ∷ is_full h ∷ []) t)) apart same)
left_known A c h masters e b (UnbanWritten M m f t) =
    stopped_known h (unbanned h m) masters e [] b (behind_nothing (records_of h.jobs)) (omega arith) (λ q ran apart same. others e h.fence q (last_epoch h masters e M b f (not_fenced M h ((not (has_number m h.bans), NotBanned) ∷ is_full h ∷ []) t)) apart same)

-- of a world
abbrev all_know : ClusterRecord → HardState → List (ℕ × Master) → Type 0
all_know = λ _ h masters. AllKnow h masters

masters_know : (c : ClusterRecord) (h : HardState) (masters : List (ℕ × Master)) → AllKnow h masters → KeptBy all_know (λ _. ⊤) c h masters
masters_know c h masters b = record {
  starts = λ e n _. starts_known c h masters e b (rising (not_refused (not (nat_lt h.fence e)) (NotRising h.fence) ((not (nat_lt (length masters) most_masters), TooManyMasters most_masters) ∷ []) n).0);
  stops = λ e l. left_known (λ _. ⊤) c h masters e b l;
  submits = λ e M j f _ _ t.
      writes c h masters (submitted h (eight_places j)) (eight_places j ∷ []) e M (record M { jobs = with_job (eight_places j) M.jobs }) b f (not_fenced M h ((is_known h.jobs j.number, Known) ∷ is_full h ∷ []) t) refl refl (records_added h.jobs (eight_places j)) (λ s. ap (with_job (eight_places j)) s) (λ s. s);
  finishes = λ e M a f t. writes c h masters (finished h a) [] e M (ended_in M a) b f (not_fenced M h ((not (is_known h.jobs a), NoJob) ∷ (has_ended h.jobs a, Ended) ∷ is_full h ∷ []) t) refl refl (records_ended a h.jobs) (λ s. ap (with_ended a) s) (λ s. s);
  bans = λ e M m f t. writes c h masters (banned h m) [] e M (banned_in M m) b f (not_fenced M h ((has_number m h.bans, AlreadyBanned) ∷ is_full h ∷ []) t) refl refl (behind_nothing (records_of h.jobs)) (λ s. s) (λ s. ap (with_number m) s);
  unbans = λ e M m f t. writes c h masters (unbanned h m) [] e M (record M { bans = without_number m M.bans }) b f (not_fenced M h ((not (has_number m h.bans), NotBanned) ∷ is_full h ∷ []) t) refl refl (behind_nothing (records_of h.jobs)) (λ s. s) (λ s. ap (without_number m) s);
  begins = λ e M f. acts c h masters e M (record M { serving = true }) b f (record { epoch = refl; jobs = refl; bans = refl });
  preempts = λ e M p f _ _. acts c h masters e M (preempted M p) b f (record { epoch = refl; jobs = refl; bans = refl });
  hears = λ e M net x f _. let k = heard_of net (master_party M) (talks c M) x in let l = received c M net x in acts c h masters e M (told M k x.from.id l) b f (told_known M k x.from.id l);
}

-- each event
pub act_known : (w : World) (e : Event) → AllKnow w.hard w.masters → StepKnows (act w e)
act_known w e b = record { it = (act_keeps all_know (λ _. ⊤) masters_know w e tt b).it }
