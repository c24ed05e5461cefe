-- A job that is admitted has nothing yet: the map stays, and so does each total.
use Rattle.std.proofs.Common.{◌≡◌, ℕ, zero, suc, ◌*◌, ◌<◌, ◌≤◌, true, false, cond, nat_eq, nat_lt, List, [], ◌∷◌, length, get_or, set, map, refl, sym, ◌∙◌, ap, subst, arith, inl, inr}
use Rattle.std.specs.Prelude.{◌&&◌, IsTrue, is_some, Some, None, Option, slice_get}
use Rattle.std.specs.Option.{option_map, unwrap_or}
use Rattle.std.specs.List.{AllByRecursion}
use Rattle.std.proofs.lemmas.Bool.{cases_lt}
use Rattle.std.proofs.lemmas.Bool.Decides.{nat_tests}
use Rattle.std.proofs.lemmas.List.{get_or-map, length-map, length-replicate}
use Rattle.std.proofs.lemmas.List.Folds.{sum_by-replicate}
use Rattle.std.proofs.lemmas.List.Sums.{sum_by-cons}
use Rattle.std.proofs.Math.ListN.{get_or-eq_default}
use Rattle.fuxi_terms.specs.Cluster.{ClusterRecord, JobRecord, UnitRecord, is_valid_job, rack_of, has_at}
use Rattle.fuxi_terms.specs.Limits.{greatest_count}
use Rattle.fuxi_terms.specs.Vectors.{at_place}
use Rattle.fuxi_terms.specs.Keys.{Spot}
use Rattle.fuxi_terms.proofs.CountsLemmas.{same_counts}
use Rattle.fuxi_terms.specs.Jobs.{KnownJob, job_numbers, job_of, is_known, unit_count, no_unit}
use Rattle.fuxi_terms.specs.Numbers.{with_number}
use Rattle.fuxi_terms.specs.Tables.{held, held_in, total_at, usage_at, Table}
use Rattle.grant_table.specs.Nested.{count_at}
use Rattle.grant_table.specs.GrantTables.{Cell, no_cell, cell_at, rows_of, entries_in, fresh_cell, fresh_cells, as_known, with_admitted, AreJobs, IsUnit, IsLevel}
use Rattle.fuxi_terms.proofs.Booleans.{number_is, nat_itself, both_true}
use Rattle.fuxi_terms.proofs.KeyOrders.{spot_total, same_spot}
use Rattle.grant_table.proofs.NestedLemmas.{count_is, are_counts, limit}
use Rattle.grant_table.proofs.Cells.{count_of_cell}
use Rattle.grant_table.proofs.SetTotals.{cell_past, within_all}
use Rattle.fuxi_terms.proofs.Spots.{Each}
use Rattle.fuxi_terms.proofs.Alls.{all_more}
use Rattle.fuxi_terms.proofs.Lookups.{none_is}
use Rattle.grant_table.proofs.Entries.{entries_each}
use Rattle.fuxi_terms.proofs.IndexedLists.{one_set, repeated_at}

-- ---- the jobs
-- the job is found, and the others as before
pub found_admitted : (j : JobRecord) (ks : List JobRecord) (a : ℕ) → is_known (as_known ks) j.number ≡ false → job_of (as_known (with_admitted j ks)) a ≡ cond (nat_eq j.number a) (Some (record { job = j; ended = false })) (job_of (as_known ks) a)
found_admitted j [] a new = refl
found_admitted j (k ∷ ks) a new = elim (nat_lt j.number k.number) as (λ b. job_of (as_known (cond b (j ∷ k ∷ ks) (k ∷ with_admitted j ks))) a ≡ cond (nat_eq j.number a) (Some (record { job = j; ended = false })) (job_of (as_known (k ∷ ks)) a)) [
  | true ↦ refl
  | false ↦ later (found_admitted j ks a fresh)
]
  where
    apart : nat_eq k.number j.number ≡ false
    apart = elim (nat_eq k.number j.number) as (λ b. is_some (cond b (Some (record { job = k; ended = false })) (job_of (as_known ks) j.number)) ≡ false → b ≡ false) [ true ↦ λ h. cc | false ↦ λ h. refl ] new

    fresh : is_known (as_known ks) j.number ≡ false
    fresh = ap (λ b. is_some (cond b (Some (record { job = k; ended = false })) (job_of (as_known ks) j.number))) (sym apart) ∙ new

    later : job_of (as_known (with_admitted j ks)) a ≡ cond (nat_eq j.number a) (Some (record { job = j; ended = false })) (job_of (as_known ks) a) → cond (nat_eq k.number a) (Some (record { job = k; ended = false })) (job_of (as_known (with_admitted j ks)) a) ≡ cond (nat_eq j.number a) (Some (record { job = j; ended = false })) (cond (nat_eq k.number a) (Some (record { job = k; ended = false })) (job_of (as_known ks) a))
    later rest = ap (λ o. cond (nat_eq k.number a) (Some (record { job = k; ended = false })) o) rest
        ∙ elim (nat_eq k.number a) as (λ b. nat_eq k.number a ≡ b → cond b (Some (record { job = k; ended = false })) (cond (nat_eq j.number a) (Some (record { job = j; ended = false })) (job_of (as_known ks) a)) ≡ cond (nat_eq j.number a) (Some (record { job = j; ended = false })) (cond b (Some (record { job = k; ended = false })) (job_of (as_known ks) a))) [
          | false ↦ λ _. refl
          | true ↦ λ t. let other : nat_eq j.number a ≡ false = let f = apart in grind (arith, nat_tests, t, f) in sym (ap (λ b. cond b (Some (record { job = j; ended = false })) (Some (record { job = k; ended = false }))) other)
        ] refl

all_admitted : (P : JobRecord → Type 0) (j : JobRecord) (ks : List JobRecord) → P j → AllByRecursion P ks → AllByRecursion P (with_admitted j ks)
all_admitted P j [] p h = (p, tt)
all_admitted P j (k ∷ ks) p h = elim (nat_lt j.number k.number) as (λ b. AllByRecursion P (cond b (j ∷ k ∷ ks) (k ∷ with_admitted j ks))) [
  | true ↦ (p, h)
  | false ↦ (h.0, all_admitted P j ks p h.1)
]

-- jobs stay in order
pub jobs_admitted : (j : JobRecord) (ks : List JobRecord) → IsTrue (is_valid_job 8 j) → is_known (as_known ks) j.number ≡ false → AreJobs ks → AreJobs (with_admitted j ks)
jobs_admitted j [] v new h = (v, (tt, tt))
jobs_admitted j (k ∷ ks) v new h = elim (nat_lt j.number k.number) as (λ b. nat_lt j.number k.number ≡ b → AreJobs (cond b (j ∷ k ∷ ks) (k ∷ with_admitted j ks))) [
  | true ↦ λ t. let lt : j.number < k.number = grind (arith, nat_tests, t) in (v, ((lt, all_more (λ (x : JobRecord). k.number < x.number) (λ (x : JobRecord). j.number < x.number) (λ x g. omega (arith, g, lt)) ks h.1.0), h))
  | false ↦ λ f. let lt : k.number < j.number = let d = apart in grind (arith, nat_tests, f, d) in (h.0, (all_admitted (λ (x : JobRecord). k.number < x.number) j ks lt h.1.0, jobs_admitted j ks v fresh h.1.1))
] refl
  where
    apart : nat_eq k.number j.number ≡ false
    apart = elim (nat_eq k.number j.number) as (λ b. is_some (cond b (Some (record { job = k; ended = false })) (job_of (as_known ks) j.number)) ≡ false → b ≡ false) [ true ↦ λ h. cc | false ↦ λ h. refl ] new

    fresh : is_known (as_known ks) j.number ≡ false
    fresh = ap (λ b. is_some (cond b (Some (record { job = k; ended = false })) (job_of (as_known ks) j.number))) (sym apart) ∙ new

-- ---- sums read sizes and groups at the spots of the map alone
total_same : (jobs jobs' : List KnownJob) (m i : ℕ) (es : Table) → Each (λ s. job_of jobs s.job ≡ job_of jobs' s.job) es → total_at jobs m i es ≡ total_at jobs' m i es
total_same jobs jobs' m i [] h = refl
total_same jobs jobs' m i (e ∷ es) h =
    let w : Option KnownJob → Spot × ℕ → ℕ = λ o e. cond (nat_eq e.0.machine m) (e.1 * at_place (unwrap_or (slice_get (unwrap_or (option_map (λ (k : KnownJob). k.job.units) o) []) e.0.unit) no_unit).size i) 0 in
    let here : w (job_of jobs e.0.job) e ≡ w (job_of jobs' e.0.job) e = ap (λ o. w o e) h.0 in
    let rest = total_same jobs jobs' m i es h.1 in
    rw (sum_by-cons (λ e. w (job_of jobs e.0.job) e) e es, sum_by-cons (λ e. w (job_of jobs' e.0.job) e) e es) (omega (arith, here, rest))

usage_same : (jobs jobs' : List KnownJob) (g i : ℕ) (es : Table) → Each (λ s. job_of jobs s.job ≡ job_of jobs' s.job) es → usage_at jobs g i es ≡ usage_at jobs' g i es
usage_same jobs jobs' g i [] h = refl
usage_same jobs jobs' g i (e ∷ es) h =
    let w : Option KnownJob → Spot × ℕ → ℕ = λ o e. cond (nat_eq (unwrap_or (option_map (λ (k : KnownJob). k.job.group) o) 0) g) (e.1 * at_place (unwrap_or (slice_get (unwrap_or (option_map (λ (k : KnownJob). k.job.units) o) []) e.0.unit) no_unit).size i) 0 in
    let here : w (job_of jobs e.0.job) e ≡ w (job_of jobs' e.0.job) e = ap (λ o. w o e) h.0 in
    let rest = usage_same jobs jobs' g i es h.1 in
    rw (sum_by-cons (λ e. w (job_of jobs e.0.job) e) e es, sum_by-cons (λ e. w (job_of jobs' e.0.job) e) e es) (omega (arith, here, rest))

-- a job without an entry holds nothing
held_none : (a u : ℕ) (es : Table) → Each (λ s. nat_eq s.job a ≡ false) es → held es a u ≡ 0
held_none a u [] h = refl
held_none a u (e ∷ es) h =
    let w : Spot × ℕ → ℕ = λ e. cond (nat_eq e.0.job a && nat_eq e.0.unit u) e.1 0 in
    let here : w e ≡ 0 = ap (λ b. cond (b && nat_eq e.0.unit u) e.1 0) h.0 in
    let rest = held_none a u es h.1 in
    rw (sum_by-cons w e es) (omega (arith, here, rest))

held_in_none : (c : ClusterRecord) (a u r : ℕ) (es : Table) → Each (λ s. nat_eq s.job a ≡ false) es → held_in c es a u r ≡ 0
held_in_none c a u r [] h = refl
held_in_none c a u r (e ∷ es) h =
    let w : Spot × ℕ → ℕ = λ e. cond (nat_eq e.0.job a && (nat_eq e.0.unit u && nat_eq (rack_of c e.0.machine) r)) e.1 0 in
    let here : w e ≡ 0 = ap (λ b. cond (b && (nat_eq e.0.unit u && nat_eq (rack_of c e.0.machine) r)) e.1 0) h.0 in
    let rest = held_in_none c a u r es h.1 in
    rw (sum_by-cons w e es) (omega (arith, here, rest))

module _ (c : ClusterRecord) (jobs : List JobRecord) (cells : List (List Cell)) (loads spent : List (List ℕ)) (j : JobRecord) (fresh : List Cell) (l : IsLevel c jobs cells loads spent) (new : is_known (as_known jobs) j.number ≡ false) (valid : IsTrue (is_valid_job 8 j)) (is_fresh : fresh ≡ fresh_cells j.group (length c.machines) j.units) (place : j.number < length cells) where
  abbrev a : ℕ
  a = j.number

  abbrev then : List (List Cell)
  then = set cells a fresh

  abbrev then_jobs : List KnownJob
  then_jobs = as_known (with_admitted j jobs)

  found : (b : ℕ) → job_of then_jobs b ≡ cond (nat_eq a b) (Some (record { job = j; ended = false })) (job_of (as_known jobs) b)
  found b = found_admitted j jobs b new

  unknown : job_of (as_known jobs) a ≡ None
  unknown = none_is (job_of (as_known jobs) a) new

  none_before : unit_count (as_known jobs) a ≡ 0
  none_before = ap (λ (o : Option KnownJob). length (unwrap_or (option_map (λ (k : KnownJob). k.job.units) o) [])) unknown

  -- the cells of the job
  fresh_at : (u : ℕ) → u < length j.units → get_or fresh u no_cell ≡ fresh_cell j.group (length c.machines) (get_or j.units u no_unit)
  fresh_at u lt = ap (λ xs. get_or xs u no_cell) is_fresh ∙ get_or-map (fresh_cell j.group (length c.machines)) j.units u no_unit no_cell lt

  fresh_none : (u m : ℕ) → get_or (get_or fresh u no_cell).counts m 0 ≡ 0
  fresh_none u m = elim (cases_lt u (length j.units)) [
    | inl lt ↦ ap (λ (x : Cell). get_or x.counts m 0) (fresh_at u lt) ∙ repeated_at {A = ℕ} 0 (length c.machines) m
    | inr le ↦ ap (λ (x : Cell). get_or x.counts m 0) (get_or-eq_default fresh no_cell (let e = ap length is_fresh ∙ length-map j.units (fresh_cell j.group (length c.machines)) in omega (arith, e, le)))
  ]

  cell_then : (b u : ℕ) → cell_at then b u ≡ get_or (cond (nat_eq a b) fresh (get_or cells b [])) u no_cell
  cell_then b u = ap (λ xs. get_or xs u no_cell) (one_set cells a b fresh [] place)

  counts_stay : (b u m : ℕ) → count_at (rows_of then) b u m ≡ count_at (rows_of cells) b u m
  counts_stay b u m = count_of_cell then b u m ∙ ap (λ (x : Cell). get_or x.counts m 0) (cell_then b u)
      ∙ elim (nat_eq a b) as (λ t. nat_eq a b ≡ t → get_or (get_or (cond t fresh (get_or cells b [])) u no_cell).counts m 0 ≡ get_or (cell_at cells b u).counts m 0) [
        | true ↦ λ t. fresh_none u m ∙ sym (ap (λ (x : Cell). get_or x.counts m 0) (cell_past c jobs cells loads spent l b u (let z = none_before in let e = number_is a b t in subst (λ x. unit_count (as_known jobs) x ≤ u) e (omega (arith, z)))))
        | false ↦ λ f. refl
      ] refl
      ∙ sym (count_of_cell cells b u m)

  within_then : (b u m : ℕ) → count_at (rows_of then) b u m ≤ greatest_count
  within_then b u m = let e = counts_stay b u m in let w = within_all c jobs cells loads spent l b u m in omega (arith, e, w)

  pub entries_stay : entries_in then ≡ entries_in cells
  entries_stay = same_counts spot_total same_spot limit (entries_in then) (entries_in cells) (are_counts (rows_of then) within_then) (are_counts (rows_of cells) (within_all c jobs cells loads spent l))
      (λ q. count_is (rows_of then) q.job q.unit q.machine ∙ counts_stay q.job q.unit q.machine ∙ sym (count_is (rows_of cells) q.job q.unit q.machine))

  -- no entry is of the job
  no_entry : Each (λ s. nat_eq a s.job ≡ false) (entries_in cells)
  no_entry = entries_each (λ s. nat_eq a s.job ≡ false) (rows_of cells) (λ b u m some. elim (nat_eq a b) as (λ t. nat_eq a b ≡ t → t ≡ false) [
    | false ↦ λ _. refl
    | true ↦ λ t.
        let z : count_at (rows_of cells) b u m ≡ 0 = count_of_cell cells b u m ∙ ap (λ (x : Cell). get_or x.counts m 0) (cell_past c jobs cells loads spent l b u (let z = none_before in let e = number_is a b t in subst (λ x. unit_count (as_known jobs) x ≤ u) e (omega (arith, z)))) in
        absurd (grind (arith, nat_tests, z, some))
  ] refl)

  same_jobs : Each (λ s. job_of then_jobs s.job ≡ job_of (as_known jobs) s.job) (entries_in cells)
  same_jobs = all_more (λ (e : Spot × ℕ). nat_eq a e.0.job ≡ false) (λ (e : Spot × ℕ). job_of then_jobs e.0.job ≡ job_of (as_known jobs) e.0.job) (λ e f. found e.0.job ∙ ap (λ t. cond t (Some (record { job = j; ended = false })) (job_of (as_known jobs) e.0.job)) f) (entries_in cells) no_entry

  none_held : Each (λ s. nat_eq s.job a ≡ false) (entries_in cells)
  none_held = all_more (λ (e : Spot × ℕ). nat_eq a e.0.job ≡ false) (λ (e : Spot × ℕ). nat_eq e.0.job a ≡ false) (λ e f. grind (arith, nat_tests, f)) (entries_in cells) no_entry

  -- a unit of the job
  found_self : job_of then_jobs a ≡ Some (record { job = j; ended = false })
  found_self = found a ∙ ap (λ t. cond t (Some (record { job = j; ended = false })) (job_of (as_known jobs) a)) (nat_itself a)

  unit_got : (us : List UnitRecord) (u : ℕ) → get_or us u no_unit ≡ unwrap_or (slice_get us u) no_unit
  unit_got [] u = refl
  unit_got (x ∷ xs) zero = refl
  unit_got (x ∷ xs) (suc u) = unit_got xs u

  unit_self : (u : ℕ) → u < length j.units → IsUnit c (with_admitted j jobs) (entries_in then) a u (fresh_cell j.group (length c.machines) (get_or j.units u no_unit))
  unit_self u lt = record {
    sized = ap (λ (x : UnitRecord). x.size) (unit_got j.units u) ∙ sym (ap (λ (o : Option KnownJob). (unwrap_or (slice_get (unwrap_or (option_map (λ (k : KnownJob). k.job.units) o) []) u) no_unit).size) found_self);
    grouped = sym (ap (λ (o : Option KnownJob). unwrap_or (option_map (λ (k : KnownJob). k.job.group) o) 0) found_self);
    group = let t : nat_lt j.group 32 ≡ true = (both_true (nat_lt j.group 32) _ (both_true (nat_lt j.number 256) _ valid).1).0 in grind (arith, nat_tests, t);
    bounded = ap (λ (x : UnitRecord). x.most) (unit_got j.units u) ∙ sym (ap (λ (o : Option KnownJob). (unwrap_or (slice_get (unwrap_or (option_map (λ (k : KnownJob). k.job.units) o) []) u) no_unit).most) found_self);
    wide = length-replicate {A = ℕ} (length c.machines) 0;
    within = λ m. let z = repeated_at {A = ℕ} 0 (length c.machines) m in omega (arith, z);
    summed = let z = sum_by-replicate (λ (n : ℕ). n) (length c.machines) 0 in omega (arith, z);
    held = sym (ap (λ es. held es a u) entries_stay ∙ held_none a u (entries_in cells) none_held);
    racks = length-replicate {A = ℕ} 64 0;
    in_rack = λ r lt. repeated_at {A = ℕ} 0 64 r ∙ sym (ap (λ es. held_in c es a u r) entries_stay ∙ held_in_none c a u r (entries_in cells) none_held);
  }

  unit_other : (b u : ℕ) → nat_eq a b ≡ false → u < unit_count (as_known jobs) b → IsUnit c (with_admitted j jobs) (entries_in then) b u (cell_at cells b u)
  unit_other b u f lt =
      let x = l.unit b u lt in
      let o : job_of (as_known jobs) b ≡ job_of then_jobs b = sym (found b ∙ ap (λ t. cond t (Some (record { job = j; ended = false })) (job_of (as_known jobs) b)) f) in
      record {
        sized = x.sized ∙ ap (λ (o : Option KnownJob). (unwrap_or (slice_get (unwrap_or (option_map (λ (k : KnownJob). k.job.units) o) []) u) no_unit).size) o;
        grouped = x.grouped ∙ ap (λ (o : Option KnownJob). unwrap_or (option_map (λ (k : KnownJob). k.job.group) o) 0) o;
        group = x.group;
        bounded = x.bounded ∙ ap (λ (o : Option KnownJob). (unwrap_or (slice_get (unwrap_or (option_map (λ (k : KnownJob). k.job.units) o) []) u) no_unit).most) o;
        wide = x.wide;
        within = x.within;
        summed = x.summed;
        racks = x.racks;
        held = x.held ∙ sym (ap (λ es. held es b u) entries_stay);
        in_rack = λ r lt. x.in_rack r lt ∙ sym (ap (λ es. held_in c es b u r) entries_stay);
      }

  count_then : (b : ℕ) → unit_count then_jobs b ≡ cond (nat_eq a b) (length j.units) (unit_count (as_known jobs) b)
  count_then b = ap (λ (o : Option KnownJob). length (unwrap_or (option_map (λ (k : KnownJob). k.job.units) o) [])) (found b)
      ∙ elim (nat_eq a b) as (λ t. length (unwrap_or (option_map (λ (k : KnownJob). k.job.units) (cond t (Some (record { job = j; ended = false })) (job_of (as_known jobs) b))) []) ≡ cond t (length j.units) (unit_count (as_known jobs) b)) [ true ↦ refl | false ↦ refl ]

  pub admitted_level : IsLevel c (with_admitted j jobs) then loads spent
  admitted_level = record {
    valid = l.valid;
    in_order = jobs_admitted j jobs valid new l.in_order;
    units = λ b. ap length (one_set cells a b fresh [] place) ∙ elim (nat_eq a b) as (λ t. nat_eq a b ≡ t → length (cond t fresh (get_or cells b [])) ≡ cond t (length j.units) (unit_count (as_known jobs) b)) [
      | true ↦ λ _. ap length is_fresh ∙ length-map j.units (fresh_cell j.group (length c.machines))
      | false ↦ λ _. l.units b
    ] refl ∙ sym (count_then b);
    unit = λ b u lt. subst (IsUnit c (with_admitted j jobs) (entries_in then) b u) (sym (cell_then b u)) (elim (nat_eq a b) as (λ t. nat_eq a b ≡ t → u < cond t (length j.units) (unit_count (as_known jobs) b) → IsUnit c (with_admitted j jobs) (entries_in then) b u (get_or (cond t fresh (get_or cells b [])) u no_cell)) [
      | true ↦ λ t lt. subst (λ x. IsUnit c (with_admitted j jobs) (entries_in then) x u (get_or fresh u no_cell)) (number_is a b t) (subst (IsUnit c (with_admitted j jobs) (entries_in then) a u) (sym (fresh_at u lt)) (unit_self u lt))
      | false ↦ λ f lt. unit_other b u f lt
    ] refl (subst (λ n. u < n) (count_then b) lt));
    machines = l.machines;
    totals = λ m i lt. l.totals m i lt ∙ sym (total_same then_jobs (as_known jobs) m i (entries_in cells) same_jobs) ∙ ap (λ es. total_at then_jobs m i es) (sym entries_stay);
    fits = λ m i lt. subst (λ x. x ≤ has_at c m i) (sym (total_same then_jobs (as_known jobs) m i (entries_in cells) same_jobs) ∙ ap (λ es. total_at then_jobs m i es) (sym entries_stay)) (l.fits m i lt);
    groups = l.groups;
    usages = λ g i lt. l.usages g i lt ∙ sym (usage_same then_jobs (as_known jobs) g i (entries_in cells) same_jobs) ∙ ap (λ es. usage_at then_jobs g i es) (sym entries_stay);
  }

-- the numbers of jobs that stand in order
pub numbers_rise : (js : List JobRecord) → AreJobs js → job_numbers (as_known js) ≡ map (λ (j : JobRecord). j.number) js
numbers_rise [] h = refl
numbers_rise (j ∷ js) h = ap (with_number j.number) (numbers_rise js h.1.1) ∙ first js h.1.0
  where
    first : (ks : List JobRecord) → AllByRecursion (λ (k : JobRecord). j.number < k.number) ks → with_number j.number (map (λ (j : JobRecord). j.number) ks) ≡ j.number ∷ map (λ (j : JobRecord). j.number) ks
    first [] h = refl
    first (k ∷ ks) h = let lt = h.0 in let t : nat_lt j.number k.number ≡ true = grind (arith, nat_tests, lt) in ap (λ b. cond b (j.number ∷ k.number ∷ map (λ (j : JobRecord). j.number) ks) (cond (nat_eq j.number k.number) (k.number ∷ map (λ (j : JobRecord). j.number) ks) (k.number ∷ with_number j.number (map (λ (j : JobRecord). j.number) ks)))) t
