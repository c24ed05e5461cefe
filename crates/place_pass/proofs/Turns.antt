-- At most 2,048 pairs wait: of at most 256 jobs, at most 8 units each.
use Rattle.std.proofs.Common.{◌≡◌, ℕ, ◌+◌, ◌*◌, ◌<◌, ◌≤◌, Bool, true, false, cond, nat_eq, nat_lt, Some, List, [], ◌∷◌, length, map, filter, ◌∙◌, ap, arith}
use Rattle.std.specs.Option.{option_map, unwrap_or}
use Rattle.std.specs.List.{AllByRecursion}
use Rattle.std.proofs.lemmas.List.{length-append, length-map}
use Rattle.std.proofs.lemmas.List.Sums.{length-filter, count_by-le-length}
use Rattle.fuxi_terms.specs.Cluster.{JobRecord}
use Rattle.fuxi_terms.specs.declared.Key.{Key}
use Rattle.fuxi_terms.specs.Jobs.{KnownJob, job_of, job_numbers, unit_count}
use Rattle.fuxi_terms.specs.Keys.{Pair}
use Rattle.fuxi_terms.specs.Lists.{below}
use Rattle.fuxi_terms.proofs.Alls.{all_more}
use Rattle.fuxi_terms.proofs.Lists.{length-below}
use Rattle.fuxi_terms.proofs.ValidJobs.{job_small, units_few}
use Rattle.fuxi_terms.specs.Tables.{Table}
use Rattle.spec_roles.specs.Masters.{out_of}
use Rattle.spec_roles.specs.Placing.{waiting_in}
use Rattle.grant_table.specs.GrantTables.{as_known, AreJobs}

fewer : {A : Type 0} (q : A → Bool) (xs : List A) → length (filter q xs) ≤ length xs
fewer q xs = let e = length-filter q xs in let le = count_by-le-length q xs in omega (arith, e, le)

jobs_from : (js : List JobRecord) (low : ℕ) → low ≤ 256 → AllByRecursion (λ (j : JobRecord). low ≤ j.number) js → AreJobs js → low + length js ≤ 256
jobs_from [] low le h k = omega (arith, le)
jobs_from (j ∷ js) low le h k =
    let small = job_small j k.0 in
    let rest = jobs_from js (j.number + 1) (omega (arith, small)) (all_more (λ (x : JobRecord). j.number < x.number) (λ (x : JobRecord). j.number + 1 ≤ x.number) (λ x lt. omega (arith, lt)) js k.1.0) k.1.1 in
    let first = h.0 in
    omega (arith, rest, first)

few_jobs : (js : List JobRecord) → AreJobs js → length js ≤ 256
few_jobs js h = let few = jobs_from js 0 (omega arith) (from_none js) h in omega (arith, few)
  where
    from_none : (js : List JobRecord) → AllByRecursion (λ (j : JobRecord). 0 ≤ j.number) js
    from_none [] = tt
    from_none (j ∷ js) = (omega arith, from_none js)

few_units : (js : List JobRecord) → AreJobs js → (a : ℕ) → unit_count (as_known js) a ≤ 8
few_units [] h a = omega arith
few_units (j ∷ js) h a = by (nat_eq j.number a) (units_few j h.0) (few_units js h.1.1 a)
  where
    by : (b : Bool) → length j.units ≤ 8 → unit_count (as_known js) a ≤ 8 → length (unwrap_or (option_map (λ (k : KnownJob). k.job.units) (cond b (Some (record { job = j; ended = false })) (job_of (as_known js) a))) []) ≤ 8
    by true x y = x
    by false x y = y

few_in : (numbers : List ℕ) (units : ℕ → ℕ) (asks : ℕ → Key → ℕ) (table : Table) → ((a : ℕ) → units a ≤ 8) → length (waiting_in numbers units asks table) ≤ 8 * length numbers
few_in [] units asks table h = omega arith
few_in (a ∷ as_) units asks table h =
    let w : ℕ → Bool = λ u. nat_lt 0 (out_of asks table a u) in
    let f : ℕ → Pair = λ u. (a, u) in
    let both = length-append (map f (filter w (below (units a)))) (waiting_in as_ units asks table) in
    let mapped = length-map (filter w (below (units a))) f in
    let some = fewer w (below (units a)) in
    let all = length-below (units a) in
    let most = h a in
    let rest = few_in as_ units asks table h in
    omega (arith, both, mapped, some, all, most, rest)

-- those that begin to wait are some of those that wait
pub few_begin : (js : List JobRecord) (asks : ℕ → Key → ℕ) (table : Table) (q : Pair → Bool) → AreJobs js → job_numbers (as_known js) ≡ map (λ (j : JobRecord). j.number) js
    → length (filter q (waiting_in (job_numbers (as_known js)) (unit_count (as_known js)) asks table)) ≤ 2048
few_begin js asks table q jobs is =
    let some = fewer q (waiting_in (job_numbers (as_known js)) (unit_count (as_known js)) asks table) in
    let all = few_in (job_numbers (as_known js)) (unit_count (as_known js)) asks table (few_units js jobs) in
    let numbers : length (job_numbers (as_known js)) ≡ length js = ap length is ∙ length-map js (λ (j : JobRecord). j.number) in
    let few = few_jobs js jobs in
    omega (arith, some, all, numbers, few)
