-- What the admitted jobs of a sound table say of their units.
use Rattle.std.proofs.Common.{◌≡◌, inl, inr, ℕ, zero, suc, ◌+◌, ◌*◌, ◌<◌, ◌≤◌, Bool, true, false, cond, nat_eq, nat_lt, List, [], ◌∷◌, ◌++◌, length, Some, refl, sym, ◌∙◌, ap, subst, arith}
use Rattle.std.specs.Prelude.{◌&&◌, ◌||◌, IsTrue, slice_get}
use Rattle.std.specs.Option.{unwrap_or, option_map}
use Rattle.std.specs.List.{AllByRecursion, flat_map, list_any, list_all}
use Rattle.std.proofs.lemmas.Bool.Decides.{nat_tests}
use Rattle.std.proofs.lemmas.Grind.{flat_map-append}
use Rattle.std.proofs.lemmas.List.{map-append, length-append, length-map}
use Rattle.fuxi_terms.specs.Cluster.{JobRecord, UnitRecord, is_valid_job, is_valid_unit, is_between, is_vector_of, is_size, is_priority}
use Rattle.fuxi_terms.specs.Jobs.{KnownJob, unit_count, unit_of, priority_of, group_of, job_of, no_unit}
use Rattle.fuxi_terms.specs.Keys.{Spot, Pair}
use Rattle.fuxi_terms.specs.Lists.{below}
use Rattle.fuxi_terms.proofs.Alls.{all_append, all_more}
use Rattle.fuxi_terms.proofs.Booleans.{both_true, number_is, nat_itself, or_left, or_right}
use Rattle.fuxi_terms.proofs.Spots.{each_found}
use Rattle.spec_roles.specs.Placing.{has_pair}
use Rattle.grant_table.specs.GrantTables.{TableRecord, IsSound, AreJobs, as_known}
use Rattle.spec_roles.specs.Preemption.{in_walk_order_by}
use Rattle.preempt.specs.Counted.{entries_on}
use Rattle.preempt.specs.Given.{board_of}
use Rattle.preempt.specs.Walks.{units_in, all_units, backward, pairs_by_priority, entry_on}
use Rattle.preempt.proofs.Buckets.{IsAfter, IsRising, walked}
use Rattle.preempt.proofs.EntriesListed.{listed_all}
use Rattle.fuxi_terms.proofs.ValidJobs.{group_valid, units_valid, units_few}
use Rattle.fuxi_terms.proofs.Lists.{length-below}

-- ---- a valid job
pub job_small : (j : JobRecord) → IsTrue (is_valid_job 8 j) → j.number < 256
job_small j v = let t : nat_lt j.number 256 ≡ true = (both_true (nat_lt j.number 256) _ v).0 in grind (arith, nat_tests, t)

-- a unit of it, or none
record IsProper (u : UnitRecord) : Type 0 where
  low : u.priority < 10
  short : length u.size ≤ 8

proper_at : (us : List UnitRecord) → list_all (is_valid_unit 8) us ≡ true → (n : ℕ) → IsProper (unwrap_or (slice_get us n) no_unit)
proper_at [] h n = record { low = omega arith; short = omega arith }
proper_at (x ∷ xs) h zero =
    let b = both_true (is_valid_unit 8 x) (list_all (is_valid_unit 8) xs) h in
    let p : nat_lt x.priority 10 ≡ true = (both_true (is_priority x.priority) _ b.0).0 in
    let w = (both_true (is_vector_of 8 x.size) _ (both_true (is_size 8 x.size) _ (both_true (is_priority x.priority) _ b.0).1).0).0 in
    let e : length x.size ≡ 8 = number_is _ _ (both_true (nat_eq (length x.size) 8) _ w).0 in
    record { low = grind (arith, nat_tests, p); short = omega (arith, e) }
proper_at (x ∷ xs) h (suc n) = proper_at xs (both_true (is_valid_unit 8 x) (list_all (is_valid_unit 8) xs) h).1 n

-- ---- what is found of a job
proper_job : (js : List JobRecord) → AreJobs js → (a n : ℕ) → IsProper (unit_of (as_known js) a n)
proper_job [] h a n = record { low = omega arith; short = omega arith }
proper_job (j ∷ js) h a n = by (nat_eq j.number a) (proper_job js h.1.1 a n)
  where
    by : (b : Bool) → IsProper (unit_of (as_known js) a n) → IsProper (unwrap_or (slice_get (unwrap_or (option_map (λ (k : KnownJob). k.job.units) (cond b (Some (record { job = j; ended = false })) (job_of (as_known js) a))) []) n) no_unit)
    by true _ = proper_at j.units (both_true (is_between 1 8 (length j.units)) _ (units_valid j h.0)).1 n
    by false r = r

pub priority_small : (js : List JobRecord) → AreJobs js → (a u : ℕ) → priority_of (as_known js) a u < 10
priority_small js h a u = (proper_job js h a u).low

pub size_short : (js : List JobRecord) → AreJobs js → (a u : ℕ) → length (unit_of (as_known js) a u).size ≤ 8
size_short js h a u = (proper_job js h a u).short

pub group_small : (js : List JobRecord) → AreJobs js → (a : ℕ) → group_of (as_known js) a < 32
group_small [] h a = omega arith
group_small (j ∷ js) h a = by (nat_eq j.number a) (group_valid j h.0) (group_small js h.1.1 a)
  where
    by : (b : Bool) → j.group < 32 → group_of (as_known js) a < 32 → unwrap_or (option_map (λ (k : KnownJob). k.job.group) (cond b (Some (record { job = j; ended = false })) (job_of (as_known js) a))) 0 < 32
    by true x y = x
    by false x y = y

-- the job at a place is found by its number
pub job_found : (js : List JobRecord) → AreJobs js → (i : ℕ) (j : JobRecord) → slice_get js i ≡ Some j → job_of (as_known js) j.number ≡ Some (record { job = j; ended = false })
job_found [] h i j e = cc
job_found (k ∷ ks) h zero j e = let same : k ≡ j = cc in subst (λ x. job_of (as_known (k ∷ ks)) x.number ≡ Some (record { job = x; ended = false })) same (ap (λ b. cond b (Some (record { job = k; ended = false })) (job_of (as_known ks) k.number)) (nat_itself k.number))
job_found (k ∷ ks) h (suc i) j e =
    let lt = later ks i h.1.0 e in
    let f : nat_eq k.number j.number ≡ false = grind (arith, nat_tests, lt) in
    ap (λ b. cond b (Some (record { job = k; ended = false })) (job_of (as_known ks) j.number)) f ∙ job_found ks h.1.1 i j e
  where
    later : (xs : List JobRecord) (i : ℕ) → AllByRecursion (λ (x : JobRecord). k.number < x.number) xs → slice_get xs i ≡ Some j → k.number < j.number
    later [] i h e = cc
    later (x ∷ xs) zero h e = let same : x ≡ j = cc in subst (λ (y : JobRecord). k.number < y.number) same h.0
    later (x ∷ xs) (suc i) h e = later xs i h.1 e

pub valid_at : (js : List JobRecord) → AreJobs js → (i : ℕ) (j : JobRecord) → slice_get js i ≡ Some j → IsTrue (is_valid_job 8 j)
valid_at [] h i j e = cc
valid_at (k ∷ ks) h zero j e = let same : k ≡ j = cc in subst (λ x. IsTrue (is_valid_job 8 x)) same h.0
valid_at (k ∷ ks) h (suc i) j e = valid_at ks h.1.1 i j e

-- ---- the units, as pairs
units_after : (j : JobRecord) (p : Pair) (n : ℕ) → p.0 < j.number → AllByRecursion (IsAfter p) (units_in j n)
units_after j p zero lt = tt
units_after j p (suc n) lt = subst (AllByRecursion (IsAfter p)) (sym (map-append (λ u. (j.number, u)) (below n) (n ∷ []))) (all_append (IsAfter p) (units_in j n) ((j.number, n) ∷ []) (units_after j p n lt) (inl lt, tt))

all_after : (p : Pair) (js : List JobRecord) → AllByRecursion (λ (k : JobRecord). p.0 < k.number) js → AllByRecursion (IsAfter p) (all_units js)
all_after p [] h = tt
all_after p (j ∷ js) h = all_append (IsAfter p) (units_in j (length j.units)) (all_units js) (units_after j p (length j.units) h.0) (all_after p js h.1)

rising_push : (ps : List Pair) (q : Pair) → IsRising ps → AllByRecursion (λ p. IsAfter p q) ps → IsRising (ps ++ q ∷ [])
rising_push [] q r h = (tt, tt)
rising_push (p ∷ ps) q r h = (all_append (IsAfter p) ps (q ∷ []) r.0 (h.0, tt), rising_push ps q r.1 h.1)

units_before : (j : JobRecord) (n k : ℕ) → n ≤ k → AllByRecursion (λ p. IsAfter p (j.number, k)) (units_in j n)
units_before j zero k le = tt
units_before j (suc n) k le = subst (AllByRecursion (λ p. IsAfter p (j.number, k))) (sym (map-append (λ u. (j.number, u)) (below n) (n ∷ []))) (all_append (λ p. IsAfter p (j.number, k)) (units_in j n) ((j.number, n) ∷ []) (units_before j n k (omega (arith, le))) (inr (refl, omega (arith, le)), tt))

units_rising : (j : JobRecord) (n : ℕ) → IsRising (units_in j n)
units_rising j zero = tt
units_rising j (suc n) = subst IsRising (sym (map-append (λ u. (j.number, u)) (below n) (n ∷ []))) (rising_push (units_in j n) (j.number, n) (units_rising j n) (units_before j n n (omega arith)))

rising_both : (ps qs : List Pair) → IsRising ps → IsRising qs → AllByRecursion (λ p. AllByRecursion (IsAfter p) qs) ps → IsRising (ps ++ qs)
rising_both [] qs r s h = s
rising_both (p ∷ ps) qs r s h = (all_append (IsAfter p) ps qs r.0 h.0, rising_both ps qs r.1 s h.1)

pub all_rising : (js : List JobRecord) → AreJobs js → IsRising (all_units js)
all_rising [] h = tt
all_rising (j ∷ js) h = rising_both (units_in j (length j.units)) (all_units js) (units_rising j (length j.units)) (all_rising js h.1.1) (each (length j.units))
  where
    each : (n : ℕ) → AllByRecursion (λ p. AllByRecursion (IsAfter p) (all_units js)) (units_in j n)
    each zero = tt
    each (suc n) = subst (AllByRecursion (λ p. AllByRecursion (IsAfter p) (all_units js))) (sym (map-append (λ u. (j.number, u)) (below n) (n ∷ [])))
        (all_append (λ p. AllByRecursion (IsAfter p) (all_units js)) (units_in j n) ((j.number, n) ∷ []) (each n) (all_after (j.number, n) js h.1.0, tt))

any_append : (f : Pair → Bool) (xs ys : List Pair) → list_any f (xs ++ ys) ≡ (list_any f xs || list_any f ys)
any_append f [] ys = refl
any_append f (x ∷ xs) ys = elim (f x) as (λ b. (b || list_any f (xs ++ ys)) ≡ ((b || list_any f xs) || list_any f ys)) [ true ↦ refl | false ↦ any_append f xs ys ]

has_unit : (j : JobRecord) (u n : ℕ) → u < n → has_pair (j.number, u) (units_in j n) ≡ true
has_unit j u zero lt = absurd (omega (arith, lt))
has_unit j u (suc n) lt =
    ap (has_pair (j.number, u)) (map-append (λ u. (j.number, u)) (below n) (n ∷ []))
    ∙ any_append (λ q. nat_eq j.number q.0 && nat_eq u q.1) (units_in j n) ((j.number, n) ∷ [])
    ∙ by (nat_eq u n) refl (has_unit j u n)
  where
    by : (b : Bool) → nat_eq u n ≡ b → (u < n → has_pair (j.number, u) (units_in j n) ≡ true) → (has_pair (j.number, u) (units_in j n) || ((nat_eq j.number j.number && nat_eq u n) || false)) ≡ true
    by true e _ = let t = nat_itself j.number in or_right (has_pair (j.number, u) (units_in j n)) _ (λ i. (t i && e i) || false)
    by false e r = let other : u < n = grind (arith, nat_tests, e, lt) in or_left (has_pair (j.number, u) (units_in j n)) _ (r other)

pub has_all : (js : List JobRecord) (a u : ℕ) → u < unit_count (as_known js) a → has_pair (a, u) (all_units js) ≡ true
has_all [] a u lt = absurd (omega (arith, lt))
has_all (j ∷ js) a u lt = any_append (λ q. nat_eq a q.0 && nat_eq u q.1) (units_in j (length j.units)) (all_units js) ∙ by (nat_eq j.number a) refl lt (has_all js a u)
  where
    by : (b : Bool) → nat_eq j.number a ≡ b → u < length (unwrap_or (option_map (λ (k : KnownJob). k.job.units) (cond b (Some (record { job = j; ended = false })) (job_of (as_known js) a))) [])
        → (u < unit_count (as_known js) a → has_pair (a, u) (all_units js) ≡ true) → (has_pair (a, u) (units_in j (length j.units)) || has_pair (a, u) (all_units js)) ≡ true
    by true e lt _ = let same = number_is j.number a e in or_left _ (has_pair (a, u) (all_units js)) (subst (λ x. has_pair (x, u) (units_in j (length j.units)) ≡ true) same (has_unit j u (length j.units) lt))
    by false e lt r = or_right (has_pair (a, u) (units_in j (length j.units))) _ (r lt)

-- ---- there are at most 256 jobs, so at most 2,048 units
jobs_from : (js : List JobRecord) (k : ℕ) → AreJobs js → AllByRecursion (λ (j : JobRecord). k ≤ j.number) js → k ≤ 256 → length js + k ≤ 256
jobs_from [] k h a le = omega (arith, le)
jobs_from (j ∷ js) k h a le =
    let s = job_small j h.0 in
    let le_j = a.0 in
    let r = jobs_from js (j.number + 1) h.1.1 (all_more (λ (x : JobRecord). j.number < x.number) (λ (x : JobRecord). j.number + 1 ≤ x.number) (λ x lt. omega (arith, lt)) js h.1.0) (omega (arith, s)) in
    omega (arith, r, le_j)

all_from_zero : (js : List JobRecord) → AllByRecursion (λ (j : JobRecord). 0 ≤ j.number) js
all_from_zero [] = tt
all_from_zero (j ∷ js) = (omega arith, all_from_zero js)

units_length : (js : List JobRecord) → AreJobs js → length (all_units js) ≤ 8 * length js
units_length [] h = omega arith
units_length (j ∷ js) h =
    let r = units_length js h.1.1 in
    let a = length-append (units_in j (length j.units)) (all_units js) in
    let m : length (units_in j (length j.units)) ≡ length (below (length j.units)) = length-map (below (length j.units)) (λ u. (j.number, u)) in
    let b = length-below (length j.units) in
    let f = units_few j h.0 in
    omega (arith, r, a, m, b, f)

pub few_units : (js : List JobRecord) → AreJobs js → length (all_units js) ≤ 2048
few_units js h = let r = units_length js h in let n = jobs_from js 0 h (all_from_zero js) (omega arith) in omega (arith, r, n)

backward_length : (test : Pair → Bool) (ps : List Pair) → length (backward test ps) ≤ length ps
backward_length test [] = omega arith
backward_length test (p ∷ ps) =
    let r = backward_length test ps in
    let a = length-append (backward test ps) (cond (test p) (p ∷ []) []) in
    let o : length {A = ℕ × ℕ} (cond (test p) (p ∷ []) []) ≤ 1 = elim (test p) as (λ b. length {A = ℕ × ℕ} (cond b (p ∷ []) []) ≤ 1) [ true ↦ omega arith | false ↦ omega arith ] in
    omega (arith, r, a, o)

pub ordered_length : (priorities : ℕ → ℕ → ℕ) (ps : List Pair) (n : ℕ) → length (pairs_by_priority priorities ps n) ≤ n * length ps
ordered_length priorities ps zero = omega arith
ordered_length priorities ps (suc n) =
    let f : ℕ → List Pair = λ k. backward (λ p. nat_eq (priorities p.0 p.1) k) ps in
    let r = ordered_length priorities ps n in
    let e : length (pairs_by_priority priorities ps (suc n)) ≡ length (pairs_by_priority priorities ps n ++ (f n ++ [])) = ap length (flat_map-append f (below n) (n ∷ [])) in
    let a = length-append (pairs_by_priority priorities ps n) (f n ++ []) in
    let b = length-append (f n) [] in
    let l = backward_length (λ p. nat_eq (priorities p.0 p.1) n) ps in
    omega (arith, r, e, a, b, l)

-- ---- the entries on a machine, in the order of the walk, are those of the units in that order
pub walk_is : (t : TableRecord) → IsSound t → (m : ℕ) → entries_on (board_of t) t.entries m ≡ flat_map (entry_on t.entries m) (pairs_by_priority (priority_of (as_known t.jobs)) (all_units t.jobs) 10)
walk_is t s m =
    let rising = all_rising t.jobs s.in_order in
    ap (in_walk_order_by (priority_of (as_known t.jobs))) (listed_all t.entries m s.counts (all_units t.jobs) rising
    (λ x some. has_all t.jobs x.job x.unit (each_found (λ (x : Spot). (x.unit < unit_count (as_known t.jobs) x.job) × (x.machine < length t.cluster.machines)) x t.entries some s.admitted).0))
    ∙ walked t.entries m (priority_of (as_known t.jobs)) 10 (priority_small t.jobs s.in_order) (all_units t.jobs) rising
