-- In every state to which lines lead on a valid cluster, the jobs of the hard state are valid in eight places.
use Rattle.std.proofs.Common.{◌≡◌, ℕ, zero, suc, ◌+◌, ◌≤◌, Bool, true, false, cond, not, nat_eq, nat_lt, List, [], ◌∷◌, ◌++◌, length, map, Some, None, refl, sym, ◌∙◌, ap, subst, arith}
use Rattle.std.specs.Prelude.{is_some}
use Rattle.std.specs.List.{AllByRecursion, list_all}
use Rattle.std.proofs.lemmas.Bool.Decides.{nat_tests}
use Rattle.fuxi_terms.specs.Padded.{padded}
use Rattle.fuxi_terms.specs.Vectors.{at_place, is_zero}
use Rattle.fuxi_terms.specs.Limits.{most_records, most_resources, most_units, most_jobs, most_groups}
use Rattle.fuxi_terms.specs.Cluster.{ClusterRecord, JobRecord, UnitRecord, is_valid_cluster, is_valid_unit, is_priority, is_size, is_most, is_vector_of, are_quantities, is_between, has_group}
use Rattle.fuxi_terms.specs.Jobs.{KnownJob, job_of, is_known, has_ended, eight_places}
use Rattle.fuxi_terms.specs.Numbers.{has_number}
use Rattle.spec_roles.specs.Masters.{Master}
use Rattle.spec_roles.specs.HardState.{HardState, raised, with_job, with_ended, submitted, finished, banned, unbanned, is_full, is_not_rising}
use Rattle.spec_roles.specs.Refusals.{Refusal, HardFull, Fenced, Known, NoJob, Ended, AlreadyBanned, NotBanned, NoGroup, NoUnits, TooManyUnits, Dimensions, PriorityRange, QuantityRange, ZeroSize, MostRange, first_refusal, job_tests, units_tests}
use Rattle.spec_world.specs.World.{World, Step, empty_world}
use Rattle.spec_world.specs.Events.{Event, act}
use Rattle.spec_world.specs.Runs.{run}
use Rattle.spec_world.specs.EventRanges.{IsInput, is_from_line, is_counted}
use Rattle.spec_world.specs.Good.{IsNarrow, IsJob, AreJobs, AreDistinct, IsHard}
use Rattle.fuxi_terms.proofs.Booleans.{both_true, and_true, either}
use Rattle.fuxi_terms.proofs.Alls.{all_append}
use Rattle.fuxi_terms.proofs.VectorLaws.{fits_places, length-padded, at_place-padded, quantities-padded}
use Rattle.spec_world.proofs.LeftLemmas.{BanWritten, FinishWritten, Left, StartWritten, SubmitWritten, UnbanWritten, Unwritten, left_hard}
use Rattle.spec_world.proofs.EventsWalk.{KeptBy, act_keeps, run_keeps}

-- A job that passes the tests is valid in eight places
passed : (b : Bool) (r : Refusal) (ts : List (Bool × Refusal)) → first_refusal ((b, r) ∷ ts) ≡ None → (b ≡ false) × (first_refusal ts ≡ None)
passed true r ts e = cc
passed false r ts e = (refl, e)

behind : (xs ys : List (Bool × Refusal)) → first_refusal (xs ++ ys) ≡ None → first_refusal ys ≡ None
behind [] ys e = e
behind (x ∷ xs) ys e = behind xs ys (passed x.0 x.1 (xs ++ ys) e).1

turned_test : (b : Bool) → not b ≡ false → b ≡ true
turned_test true e = refl
turned_test false e = cc

zero_padded : (s : List ℕ) → is_zero s ≡ false → is_zero (padded s) ≡ false
zero_padded s e = by (is_zero (padded s)) refl
  where
    by : (b : Bool) → is_zero (padded s) ≡ b → is_zero (padded s) ≡ false
    by false t = t
    by true t =
        let zeros : is_zero s ≡ true = (fits_places s []).1 (λ i. let p = at_place-padded s i in let z = (fits_places (padded s) []).0 t i in omega (arith, p, z)) in
        absurd (let f : ⊥ = cc in f)

past : (s : List ℕ) (i : ℕ) → length s ≤ i → at_place s i ≡ 0
past [] i le = refl
past (x ∷ s) zero le = absurd (omega (arith, le))
past (x ∷ s) (suc i) le = past s i (omega (arith, le))

abbrev wide : UnitRecord → UnitRecord
wide u = record u { size = padded u.size }

-- a unit with its size in eight places
record IsWide (c : ClusterRecord) (u : UnitRecord) : Type 0 where
  valid : is_valid_unit most_resources (wide u) ≡ true
  narrow : IsNarrow c (wide u)

wide_unit : (c : ClusterRecord) (n : ℕ) (u : UnitRecord) (ts : List (Bool × Refusal)) → c.resources ≤ most_resources
    → first_refusal ((not (nat_eq (length u.size) c.resources), Dimensions n) ∷ (not (is_priority u.priority), PriorityRange n) ∷ (not (are_quantities u.size), QuantityRange n) ∷ (is_zero u.size, ZeroSize n) ∷ (not (is_most u.most), MostRange n) ∷ ts) ≡ None → IsWide c u × (first_refusal ts ≡ None)
wide_unit c n u ts few e =
    let bound : List (Bool × Refusal) = (not (is_most u.most), MostRange n) ∷ ts in
    let zero : List (Bool × Refusal) = (is_zero u.size, ZeroSize n) ∷ bound in
    let quantities : List (Bool × Refusal) = (not (are_quantities u.size), QuantityRange n) ∷ zero in
    let a = passed (not (nat_eq (length u.size) c.resources)) (Dimensions n) ((not (is_priority u.priority), PriorityRange n) ∷ quantities) e in
    let b = passed (not (is_priority u.priority)) (PriorityRange n) quantities a.1 in
    let q = passed (not (are_quantities u.size)) (QuantityRange n) zero b.1 in
    let z = passed (is_zero u.size) (ZeroSize n) bound q.1 in
    let m = passed (not (is_most u.most)) (MostRange n) ts z.1 in
    let same = turned_test (nat_eq (length u.size) c.resources) a.0 in
    let long : length u.size ≡ c.resources = grind (arith, nat_tests, same) in
    let eight = length-padded u.size (omega (arith, long, few)) in
    let is_eight : nat_eq (length (padded u.size)) most_resources ≡ true = grind (arith, nat_tests, eight) in (
      record {
        valid = and_true (is_priority u.priority) _ (turned_test _ b.0) (and_true (is_size most_resources (padded u.size)) (is_most u.most)
            (and_true (is_vector_of most_resources (padded u.size)) (not (is_zero (padded u.size)))
            (and_true (nat_eq (length (padded u.size)) most_resources) (are_quantities (padded u.size)) is_eight (quantities-padded u.size ∙ turned_test _ q.0)) (ap not (zero_padded u.size z.0)))
            (turned_test _ m.0));
        narrow = record { zeros = λ i le. at_place-padded u.size i ∙ past u.size i (omega (arith, le, long)) };
      },
      m.1,
    )

wide_units : (c : ClusterRecord) (n : ℕ) (us : List UnitRecord) → c.resources ≤ most_resources → first_refusal (units_tests c.resources n us) ≡ None
    → (list_all (is_valid_unit most_resources) (map (λ (u : UnitRecord). record u { size = padded u.size }) us) ≡ true) × AllByRecursion (IsNarrow c) (map (λ (u : UnitRecord). record u { size = padded u.size }) us)
wide_units c n [] few e = (refl, tt)
wide_units c n (u ∷ us) few e =
    let h = wide_unit c n u (units_tests c.resources (n + 1) us) few e in
    let rest = wide_units c (n + 1) us few h.1 in
    (and_true (is_valid_unit most_resources (wide u)) _ h.0.valid rest.0, (h.0.narrow, rest.1))

length_mapped : {A B : Type 0} (f : A → B) (xs : List A) → length (map f xs) ≡ length xs
length_mapped f [] = refl
length_mapped f (x ∷ xs) = ap suc (length_mapped f xs)

wide_job : (c : ClusterRecord) (j : JobRecord) → c.resources ≤ most_resources → nat_lt j.number most_jobs ≡ true → nat_lt j.group most_groups ≡ true → first_refusal ((not (has_group c j.group), NoGroup) ∷ job_tests c.resources j) ≡ None → IsJob c (eight_places j)
wide_job c j few number group e =
    let g = passed (not (has_group c j.group)) NoGroup (job_tests c.resources j) e in
    let a = passed (nat_eq (length j.units) 0) NoUnits ((nat_lt most_units (length j.units), TooManyUnits) ∷ units_tests c.resources 0 j.units) g.1 in
    let b = passed (nat_lt most_units (length j.units)) TooManyUnits (units_tests c.resources 0 j.units) a.1 in
    let us = wide_units c 0 j.units few b.1 in
    let long = length_mapped (λ (u : UnitRecord). record u { size = padded u.size }) j.units in
    let least : nat_lt (length j.units) 1 ≡ false = (let x = a.0 in grind (arith, nat_tests, x)) in
    let so_many : is_between 1 most_units (length j.units) ≡ true = and_true (not (nat_lt (length j.units) 1)) (not (nat_lt most_units (length j.units))) (ap not least) (ap not b.0) in
    record {
      valid = and_true (nat_lt j.number most_jobs) _ number (and_true (nat_lt j.group most_groups) _ group (and_true (is_between 1 most_units (length (eight_places j).units)) _ (subst (λ n. is_between 1 most_units n ≡ true) (sym long) so_many) us.0));
      narrow = us.1;
    }

-- Jobs that are added, and jobs that end
jobs_added : (c : ClusterRecord) (jobs : List KnownJob) (j : JobRecord) → IsJob c j → AreJobs c jobs → AreJobs c (with_job j jobs)
jobs_added c jobs j new old = all_append (λ (k : KnownJob). IsJob c k.job) jobs (record { job = j; ended = false } ∷ []) old (new, tt)

jobs_ended : (c : ClusterRecord) (a : ℕ) (jobs : List KnownJob) → AreJobs c jobs → AreJobs c (with_ended a jobs)
jobs_ended c a [] h = tt
jobs_ended c a (k ∷ ks) h = (either (λ (k : KnownJob). IsJob c k.job) (nat_eq k.job.number a) (record { job = k.job; ended = true }) k (λ _. h.0) (λ _. h.0), jobs_ended c a ks h.1)

-- each with a number of its own
known_added : (ks : List KnownJob) (j : JobRecord) (a : ℕ) → is_known ks a ≡ false → nat_eq j.number a ≡ false → is_known (with_job j ks) a ≡ false
known_added [] j a e d = ap (λ b. is_some {T = KnownJob} (cond b (Some (record { job = j; ended = false })) None)) d
known_added (k ∷ ks) j a e d = elim (nat_eq k.job.number a) as (λ b. is_some (cond b (Some k) (job_of ks a)) ≡ false → is_some (cond b (Some k) (job_of (with_job j ks) a)) ≡ false) [ true ↦ λ e. cc | false ↦ λ e. known_added ks j a e d ] e

distinct_added : (ks : List KnownJob) (j : JobRecord) → is_known ks j.number ≡ false → AreDistinct ks → AreDistinct (with_job j ks)
distinct_added [] j e d = (refl, tt)
distinct_added (k ∷ ks) j e d = elim (nat_eq k.job.number j.number) as (λ b. nat_eq k.job.number j.number ≡ b → is_some (cond b (Some k) (job_of ks j.number)) ≡ false → AreDistinct (with_job j (k ∷ ks))) [
  | true ↦ λ _ e. cc
  | false ↦ λ t e. (known_added ks j k.job.number d.0 (let no : nat_eq j.number k.job.number ≡ false = grind (arith, nat_tests, t) in no), distinct_added ks j e d.1)
] refl e

known_ended : (a : ℕ) (ks : List KnownJob) (b : ℕ) → is_known (with_ended a ks) b ≡ is_known ks b
known_ended a [] b = refl
known_ended a (k ∷ ks) b =
    let rest = known_ended a ks b in
    elim (nat_eq k.job.number a) as (λ t. is_some (job_of (cond t (record { job = k.job; ended = true }) k ∷ with_ended a ks) b) ≡ is_known (k ∷ ks) b) [
      | true ↦ elim (nat_eq k.job.number b) as (λ s. is_some (cond s (Some (record { job = k.job; ended = true })) (job_of (with_ended a ks) b)) ≡ is_some (cond s (Some k) (job_of ks b))) [ true ↦ refl | false ↦ rest ]
      | false ↦ elim (nat_eq k.job.number b) as (λ s. is_some (cond s (Some k) (job_of (with_ended a ks) b)) ≡ is_some (cond s (Some k) (job_of ks b))) [ true ↦ refl | false ↦ rest ]
    ]

distinct_ended : (a : ℕ) (ks : List KnownJob) → AreDistinct ks → AreDistinct (with_ended a ks)
distinct_ended a [] d = tt
distinct_ended a (k ∷ ks) d = elim (nat_eq k.job.number a) as (λ t. AreDistinct (cond t (record { job = k.job; ended = true }) k ∷ with_ended a ks)) [
  | true ↦ (known_ended a ks k.job.number ∙ d.0, distinct_ended a ks d.1)
  | false ↦ (known_ended a ks k.job.number ∙ d.0, distinct_ended a ks d.1)
]

-- what is written has room
room : (h : HardState) → first_refusal (is_full h ∷ []) ≡ None → h.records + 1 ≤ most_records
room h e = let t = (passed (not (nat_lt h.records most_records)) (HardFull most_records) [] e).0 in let lt = turned_test (nat_lt h.records most_records) t in grind (arith, nat_tests, lt)

hard_added : (c : ClusterRecord) (h : HardState) (j : JobRecord) → IsJob c j → first_refusal ((is_known h.jobs j.number, Known) ∷ is_full h ∷ []) ≡ None → IsHard c h → IsHard c (submitted h j)
hard_added c h j new e k =
    let p = passed (is_known h.jobs j.number) Known (is_full h ∷ []) e in
    record { jobs = jobs_added c h.jobs j new k.jobs; distinct = distinct_added h.jobs j p.0 k.distinct; few = room h p.1 }

hard_ended : (c : ClusterRecord) (a : ℕ) (h : HardState) → first_refusal (is_full h ∷ []) ≡ None → IsHard c h → IsHard c (finished h a)
hard_ended c a h e k = record { jobs = jobs_ended c a h.jobs k.jobs; distinct = distinct_ended a h.jobs k.distinct; few = room h e }

-- one record more
written : (c : ClusterRecord) (h h' : HardState) → h'.jobs ≡ h.jobs → h'.records ≡ h.records + 1 → first_refusal (is_full h ∷ []) ≡ None → IsHard c h → IsHard c h'
written c h h' jobs more e k = record { jobs = subst (AreJobs c) (sym jobs) k.jobs; distinct = subst AreDistinct (sym jobs) k.distinct; few = (let r = room h e in omega (arith, more, r)) }

-- The walk
pub record HasJobs (c : ClusterRecord) (w : World) : Type 0 where
  pub same : w.cluster ≡ c
  pub hard : IsHard c w.hard

-- and after a step
pub record StepHasJobs (c : ClusterRecord) (s : Step) : Type 0 where
  pub it : HasJobs c s.world

-- the cluster is this one, and the hard state is valid on it
abbrev has_jobs : ClusterRecord → ClusterRecord → HardState → List (ℕ × Master) → Type 0
has_jobs c = λ d h _. (d ≡ c) × IsHard c h

abbrev of_line : Event → Type 0
of_line e = is_from_line e ≡ true

module _ (c : ClusterRecord) (few : c.resources ≤ most_resources) where
  -- what a writing leaves
  left_valid : (d : ClusterRecord) (h : HardState) (masters : List (ℕ × Master)) (e : ℕ) → d ≡ c → IsHard c h → (l : Left of_line d h masters e) → IsHard c (left_hard h l)
  left_valid d h masters e same b Unwritten = b
  left_valid d h masters e same b (StartWritten n t) = written c h (raised h e) refl refl (behind (is_not_rising h e ∷ []) (is_full h ∷ []) t) b
  left_valid d h masters e same b (SubmitWritten M j calls all f line own t) =
      let parts = both_true (nat_lt j.number most_jobs) (nat_lt j.group most_groups) (both_true (is_counted e) _ (both_true (is_between 1 4 calls) _ line).1).1 in
      let job : IsJob c (eight_places j) = wide_job c j few parts.0 parts.1 (subst (λ (d : ClusterRecord). first_refusal ((not (has_group d j.group), NoGroup) ∷ job_tests d.resources j) ≡ None) same own) in
      hard_added c h (eight_places j) job (passed _ _ ((is_known h.jobs j.number, Known) ∷ is_full h ∷ []) t).1 b
  left_valid d h masters e same b (FinishWritten M a f t) = hard_ended c a h (behind ((nat_lt M.epoch h.fence, Fenced h.fence) ∷ (not (is_known h.jobs a), NoJob) ∷ (has_ended h.jobs a, Ended) ∷ []) (is_full h ∷ []) t) b
  left_valid d h masters e same b (BanWritten M m f t) = written c h (banned h m) refl refl (behind ((nat_lt M.epoch h.fence, Fenced h.fence) ∷ (has_number m h.bans, AlreadyBanned) ∷ []) (is_full h ∷ []) t) b
  left_valid d h masters e same b (UnbanWritten M m f t) = written c h (unbanned h m) refl refl (behind ((nat_lt M.epoch h.fence, Fenced h.fence) ∷ (not (has_number m h.bans), NotBanned) ∷ []) (is_full h ∷ []) t) b

  jobs_kept : (d : ClusterRecord) (h : HardState) (masters : List (ℕ × Master)) → (d ≡ c) × IsHard c h → KeptBy (has_jobs c) of_line d h masters
  jobs_kept d h masters b = record {
    starts = λ e n t. (b.0, left_valid d h masters e b.0 b.1 (StartWritten n t));
    stops = λ e l. (b.0, left_valid d h masters e b.0 b.1 l);
    submits = λ e M j f line own t. (b.0, left_valid d h masters e b.0 b.1 (SubmitWritten M j 1 true f line own t));
    finishes = λ e M a f t. (b.0, left_valid d h masters e b.0 b.1 (FinishWritten M a f t));
    bans = λ e M m f t. (b.0, left_valid d h masters e b.0 b.1 (BanWritten M m f t));
    unbans = λ e M m f t. (b.0, left_valid d h masters e b.0 b.1 (UnbanWritten M m f t));
    begins = λ _ _ _. b;
    preempts = λ _ _ _ _ _ _. b;
    hears = λ _ _ _ _ _ _. b;
  }

  -- each event
  pub act_has : (w : World) (e : Event) → is_from_line e ≡ true → HasJobs c w → StepHasJobs c (act w e)
  act_has w e t b = let k = (act_keeps (has_jobs c) of_line jobs_kept w e t (b.same, b.hard)).it in record { it = record { same = k.0; hard = k.1 } }

  run_has : (es : List Event) → AllByRecursion (λ e. is_from_line e ≡ true) es → HasJobs c (run c es)
  run_has es lines = let k = (run_keeps (has_jobs c) of_line jobs_kept es (empty_world c) lines (refl, record { jobs = tt; distinct = tt; few = omega arith })).it in record { same = k.0; hard = k.1 }

-- a valid cluster has at most eight resources
pub few_resources : (c : ClusterRecord) → is_valid_cluster c ≡ true → c.resources ≤ most_resources
few_resources c e = let b = both_true (not (nat_lt c.resources 1)) (not (nat_lt most_resources c.resources)) (both_true (is_between 1 most_resources c.resources) _ e).0 in let t = b.1 in grind (arith, nat_tests, t)

-- the cluster stays
pub run_cluster : (c : ClusterRecord) (es : List Event) → IsInput c es → (run c es).cluster ≡ c
run_cluster c es i = (run_has c (few_resources c i.cluster) es i.lines).same

-- and the jobs of the hard state are valid
pub run_jobs : (c : ClusterRecord) (es : List Event) → IsInput c es → AreJobs c (run c es).hard.jobs
run_jobs c es i = (run_has c (few_resources c i.cluster) es i.lines).hard.jobs
