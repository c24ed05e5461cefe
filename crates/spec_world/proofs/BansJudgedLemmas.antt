-- A judgement bans the machines that it judges, and no others.
use Rattle.std.proofs.Common.{◌≡◌, ◌≢◌, ℕ, ◌+◌, ◌*◌, ◌/◌, ◌<◌, ◌≤◌, Bool, true, false, cond, not, nat_eq, nat_lt, List, [], ◌∷◌, length, map, Option, Some, None, Result, Ok, Err, refl, sym, ◌∙◌, ap, subst, arith}
use Rattle.std.specs.Prelude.{◌||◌, count_by, is_some}
use Rattle.std.specs.List.{AllByRecursion}
use Rattle.std.specs.Ordering.{nat_cmp}
use Rattle.std.specs.FinMap.Entries.{find, put}
use Rattle.std.proofs.lemmas.Bool.Decides.{nat_tests}
use Rattle.std.proofs.lemmas.List.{length-map}
use Rattle.fuxi_terms.specs.Cluster.{ClusterRecord, has_machine}
use Rattle.fuxi_terms.specs.Counts.{then_do}
use Rattle.fuxi_terms.specs.Jobs.{KnownJob, job_of, is_known}
use Rattle.fuxi_terms.specs.Limits.{most_jobs, most_records}
use Rattle.fuxi_terms.specs.Lists.{below}
use Rattle.fuxi_terms.specs.Numbers.{has_number, with_number}
use Rattle.fuxi_terms.proofs.Alls.{all_mapped, all_more}
use Rattle.fuxi_terms.proofs.Booleans.{both_true, both_false, or_false}
use Rattle.spec_roles.specs.HardState.{HardState, ban_tests, banned, is_fenced, is_full}
use Rattle.spec_roles.specs.Masters.{Master}
use Rattle.spec_roles.specs.MasterSteps.{Bans, BansMachine, Commanded, banned_in, changes, command_of, ready}
use Rattle.spec_roles.specs.Refusals.{Refusal, AlreadyBanned, Fenced, HardFull, NoMachine, NotRunning, first_refusal, unless_fault, with_found}
use Rattle.spec_roles.specs.ServedInOrder.{AreOrdered}
use Rattle.spec_roles.specs.Votes.{VotesRecord, judged, most_votes, votes_in, votes_of}
use Rattle.spec_roles.proofs.MasterVotes.{few_numbers, is_other, judged_distinct, judged_free, judged_left}
use Rattle.spec_roles.proofs.TransitionsLemmas.{ready_besides}
use Rattle.spec_roles.proofs.VotesLemmas.{all_both}
use Rattle.spec_world.specs.Outputs.{Judged, Refused}
use Rattle.spec_world.specs.World.{World, Step, on_result, prints_nothing, refused, then_step, unless_refused}
use Rattle.spec_world.specs.Parties.{end_step}
use Rattle.spec_world.specs.Events.{Judge, ban_each, commanded, counted_in, is_too_full, world_step}
use Rattle.spec_world.specs.Good.{AreDistinct, AreJobs, Good, IsJob}
use Rattle.spec_world.specs.Judging.{AllJudge, BansJudged, IsJudgement}
use Rattle.spec_world.proofs.Invariant.{ready_epoch}
use Rattle.spec_world.proofs.InvariantKept.{not_refused}
use Rattle.spec_world.proofs.RowsShown.{with_is}
use Rattle.spec_world.proofs.StartsLemmas.{put_here}

-- a running master that may ban: it is not fenced, and has the bans of the hard state
record MayBan (e : ℕ) (w : World) : Type 0 where
  master : Master
  runs : find nat_cmp e w.masters ≡ Some master
  epoch : master.epoch ≡ e
  unfenced : nat_lt e w.hard.fence ≡ false
  bans : master.bans ≡ w.hard.bans

abbrev is_free : World → ℕ → Type 0
is_free w m = (has_machine w.cluster m ≡ true) × (has_number m w.hard.bans ≡ false)

abbrev banned_world : World → Master → ℕ → World
banned_world w M m = end_step (record w { hard = banned w.hard m }) w.net (banned_in M m) []

-- its ban of a machine that is there and not banned is not refused, while there is room for a record
bans_so : (e m : ℕ) (w : World) (b : MayBan e w) → is_free w m → w.hard.records < most_records → (commanded w e (BansMachine m)).world ≡ banned_world w b.master m
bans_so e m w b free room =
    ap (λ o. (with_found o (refused w NotRunning) (λ M. on_result w (command_of w.cluster w.hard M (BansMachine m)) done)).world) b.runs
    ∙ ap (λ t. (on_result w (unless_fault ((not t, NoMachine) ∷ []) (written (first_refusal (ban_tests w.hard b.master.epoch m)))) done).world) free.0
    ∙ ap (λ o. (on_result w (written o) done).world) passes
  where
    done : Commanded → Step
    done k = prints_nothing (end_step (record w { hard = k.hard }) w.net k.change.state k.change.even_if_equal)

    written : Option Refusal → Result Commanded Refusal
    written o = then_do (elim o as (λ _. Result HardState Refusal) [ None ↦ Ok (banned w.hard m) | Some r ↦ Err r ]) (λ k. changes w.cluster k b.master (Bans m))

    fenced : nat_lt b.master.epoch w.hard.fence ≡ false
    fenced = ap (λ n. nat_lt n w.hard.fence) b.epoch ∙ b.unfenced

    fits : nat_lt w.hard.records most_records ≡ true
    fits = grind (arith, nat_tests, room)

    passes : first_refusal (ban_tests w.hard b.master.epoch m) ≡ None
    passes =
        ap (λ t. first_refusal ((t, Fenced w.hard.fence) ∷ (has_number m w.hard.bans, AlreadyBanned) ∷ is_full w.hard ∷ [])) fenced
        ∙ ap (λ t. first_refusal ((t, AlreadyBanned) ∷ is_full w.hard ∷ [])) free.1
        ∙ ap (λ t. first_refusal ((not t, HardFull most_records) ∷ [])) fits

-- and then it may ban the next
bans_next : (e m : ℕ) (w : World) (b : MayBan e w) → MayBan e (banned_world w b.master m)
bans_next e m w b =
    let R = ready w.cluster (banned_in b.master m) in
    let epoch : R.epoch ≡ e = ready_epoch w.cluster (banned_in b.master m) ∙ b.epoch in
    record {
      master = R;
      runs = subst (λ k. find nat_cmp k (put nat_cmp R.epoch R w.masters) ≡ Some R) epoch (put_here R.epoch R w.masters);
      epoch = epoch;
      unfenced = b.unfenced;
      bans = (ready_besides w.cluster (banned_in b.master m)).bans ∙ ap (with_number m) b.bans;
    }

-- what bans of these machines leave and print
record AreBanned (e : ℕ) (votes : VotesRecord) (ms : List ℕ) (w : World) (s : Step) : Type 0 where
  lines : s.lines ≡ map (λ m. Judged m (votes_of votes m)) ms
  bans : (k : ℕ) → has_number k s.world.hard.bans ≡ (has_number k w.hard.bans || has_number k ms)
  known : (N : Master) → find nat_cmp e s.world.masters ≡ Some N → N.bans ≡ s.world.hard.bans

or_turned : (a b c : Bool) → ((a || b) || c) ≡ (b || (a || c))
or_turned true true c = refl
or_turned true false c = refl
or_turned false b c = refl

bans_each : (e : ℕ) (votes : VotesRecord) (ms : List ℕ) (w : World) → MayBan e w → AllByRecursion (is_free w) ms → AreOrdered (λ m k. m ≢ k) ms → w.hard.records + length ms ≤ most_records → AreBanned e votes ms w (ban_each e votes ms w)
bans_each e votes [] w b free distinct room = record {
  lines = refl;
  bans = λ k. sym (or_false (has_number k w.hard.bans));
  known = λ N f. (let r = b.runs in let same : b.master ≡ N = cc in ap (λ (M : Master). M.bans) (sym same) ∙ b.bans);
}
bans_each e votes (m ∷ ms) w b free distinct room =
    let v = banned_world w b.master m in
    let rest = bans_each e votes ms v (bans_next e m w b) (all_both (is_free w) (λ k. m ≢ k) (is_free v) still ms free.1 distinct.0) distinct.1 (omega (arith, room)) in
    subst (λ v. AreBanned e votes (m ∷ ms) w (then_step (record { world = v; lines = Judged m (votes_of votes m) ∷ [] }) (λ w. ban_each e votes ms w))) (sym (bans_so e m w b free.0 (omega (arith, room)))) (record {
      lines = ap (λ ls. Judged m (votes_of votes m) ∷ ls) rest.lines;
      bans = λ k. rest.bans k ∙ ap (λ t. t || has_number k ms) (with_is k m w.hard.bans) ∙ or_turned (nat_eq k m) (has_number k w.hard.bans) (has_number k ms);
      known = rest.known;
    })
  where
    still : (k : ℕ) → is_free w k → m ≢ k → is_free (banned_world w b.master m) k
    still k f other = (f.0, with_is k m w.hard.bans ∙ ap (λ t. t || has_number k w.hard.bans) (is_other k m other) ∙ f.1)

-- there are at most as many jobs as a machine can have votes
one_apart : (j : KnownJob) (js : List KnownJob) (a : ℕ) (b : Bool) → nat_eq j.job.number a ≡ b → is_some (cond b (Some j) (job_of js a)) ≡ false → (is_known js a ≡ false → AllByRecursion (λ k. a ≢ k) (map (λ (j : KnownJob). j.job.number) js)) → AllByRecursion (λ k. a ≢ k) (map (λ (j : KnownJob). j.job.number) (j ∷ js))
one_apart j js a true t none rest = cc
one_apart j js a false t none rest = (λ same. (let yes : nat_eq j.job.number a ≡ true = grind (arith, nat_tests, same) in let f : ⊥ = cc in f), rest none)

others_apart : (jobs : List KnownJob) (a : ℕ) → is_known jobs a ≡ false → AllByRecursion (λ k. a ≢ k) (map (λ (j : KnownJob). j.job.number) jobs)
others_apart [] a none = tt
others_apart (j ∷ js) a none = one_apart j js a (nat_eq j.job.number a) refl none (others_apart js a)

numbers_apart : (jobs : List KnownJob) → AreDistinct jobs → AreOrdered (λ m k. m ≢ k) (map (λ (j : KnownJob). j.job.number) jobs)
numbers_apart [] h = tt
numbers_apart (j ∷ js) h = (others_apart js j.job.number h.0, numbers_apart js h.1)

few_jobs : (c : ClusterRecord) (jobs : List KnownJob) → AreJobs c jobs → AreDistinct jobs → length jobs ≤ most_votes
few_jobs c jobs valid distinct =
    let few = few_numbers most_jobs (map (λ (j : KnownJob). j.job.number) jobs)
    (all_mapped (λ n. n < most_jobs) (λ (j : KnownJob). j.job.number) jobs (all_more (λ (j : KnownJob). IsJob c j.job) (λ (j : KnownJob). j.job.number < most_jobs) low jobs valid)) (numbers_apart jobs distinct) in
    subst (λ n. n ≤ most_votes) (length-map jobs (λ (j : KnownJob). j.job.number)) few
  where
    low : (j : KnownJob) → IsJob c j.job → j.job.number < most_jobs
    low j h = let t = (both_true (nat_lt j.job.number most_jobs) _ h.valid).0 in grind (arith, nat_tests, t)

-- A judgement
module _ (w : World) (h : Good w) (e least percent : ℕ) (M : Master) (j : IsJudgement w e least percent M) where
  abbrev votes_now : VotesRecord
  votes_now = votes_in w.cluster M

  abbrev machines : List ℕ
  machines = judged (votes_in w.cluster M) least percent

  abbrev tests : List (Bool × Refusal)
  tests = is_fenced w.hard M.epoch ∷ is_too_full w.hard (length (judged (votes_in w.cluster M) least percent)) ∷ []

  step_is : world_step w (Judge e least percent) ≡ unless_refused (counted_in w) tests (λ u. ban_each e votes_now machines u)
  step_is = ap (λ o. with_found o (refused (counted_in w) NotRunning) (λ N. unless_refused (counted_in w) (is_fenced w.hard N.epoch ∷ is_too_full w.hard (length (judged (votes_in w.cluster N) least percent)) ∷ [])
      (λ u. ban_each e (votes_in w.cluster N) (judged (votes_in w.cluster N) least percent) u))) j.runs

  bans_judged : first_refusal tests ≡ None → BansJudged w e least percent M (ban_each e votes_now machines (counted_in w))
  bans_judged t = record {
    lines = k.lines;
    bans = k.bans;
    known = k.known;
    left = λ m there enough out.
        let parts = both_false (has_number m w.hard.bans) (has_number m machines) (sym (k.bans m) ∙ out) in
        subst (λ n. length w.cluster.machines * percent / 100 ≤ n) counted (judged_left w.cluster M least percent few m there enough (ap (has_number m) same ∙ parts.0) parts.1);
    none = λ none. ap (λ ms. (ban_each e votes_now ms (counted_in w)).world) none;
  }
    where
      unfenced : nat_lt M.epoch w.hard.fence ≡ false
      unfenced = (not_refused (nat_lt M.epoch w.hard.fence) (Fenced w.hard.fence) (is_too_full w.hard (length machines) ∷ []) t).0

      room : w.hard.records + length machines ≤ most_records
      room =
          let full = (not_refused (nat_lt most_records (w.hard.records + length machines)) (HardFull most_records) [] (not_refused (nat_lt M.epoch w.hard.fence) (Fenced w.hard.fence) (is_too_full w.hard (length machines) ∷ []) t).1).0 in
          grind (arith, nat_tests, full)

      epoch : M.epoch ≡ e
      epoch = (h.stands.masters e M j.runs).epoch

      last : M.epoch ≡ w.hard.fence
      last = let ran = (h.stands.masters e M j.runs).ran in let same = epoch in let up : w.hard.fence ≤ M.epoch = (let u = unfenced in grind (arith, nat_tests, u)) in omega (arith, ran, same, up)

      same : M.bans ≡ w.hard.bans
      same = (h.knows e M j.runs).bans last

      few : length M.jobs ≤ most_votes
      few = subst (λ (js : List KnownJob). length js ≤ most_votes) (sym ((h.knows e M j.runs).marks last)) (few_jobs w.cluster w.hard.jobs h.hard.jobs h.hard.distinct)

      may : MayBan e (counted_in w)
      may = record { master = M; runs = j.runs; epoch = epoch; unfenced = ap (λ n. nat_lt n w.hard.fence) (sym epoch) ∙ unfenced; bans = same }

      free : AllByRecursion (is_free (counted_in w)) machines
      free = all_more (λ m. (has_machine w.cluster m ≡ true) × (has_number m M.bans ≡ false)) (is_free (counted_in w)) (λ m f. (f.0, ap (has_number m) (sym same) ∙ f.1)) machines (judged_free w.cluster M least percent)

      k : AreBanned e votes_now machines (counted_in w) (ban_each e votes_now machines (counted_in w))
      k = bans_each e votes_now machines (counted_in w) may free (judged_distinct w.cluster M least percent) room

      counted : count_by (λ m. has_number m M.bans || has_number m machines) (below (length w.cluster.machines)) ≡ count_by (λ m. has_number m (ban_each e votes_now machines (counted_in w)).world.hard.bans) (below (length w.cluster.machines))
      counted = λ i. count_by (λ m. (ap (λ bs. has_number m bs || has_number m machines) same ∙ sym (k.bans m)) i) (below (length w.cluster.machines))

  pub judges_so : BansJudged w e least percent M (world_step w (Judge e least percent))
  judges_so = subst (BansJudged w e least percent M) (sym step_is) (by (first_refusal tests) refl (subst (λ (s : Step). (r : Refusal) → s.lines ≢ Refused r ∷ []) step_is j.taken))
    where
      by : (o : Option Refusal) → first_refusal tests ≡ o → ((r : Refusal) → (elim o as (λ _. Step) [ None ↦ ban_each e votes_now machines (counted_in w) | Some r ↦ refused (counted_in w) r ]).lines ≢ Refused r ∷ [])
          → BansJudged w e least percent M (elim o as (λ _. Step) [ None ↦ ban_each e votes_now machines (counted_in w) | Some r ↦ refused (counted_in w) r ])
      by None t taken = bans_judged t
      by (Some r) t taken = absurd (taken r refl)

pub all_judge : (w : World) → Good w → AllJudge w
all_judge w h = record { judge = λ e least percent M j. judges_so w h e least percent M j }
