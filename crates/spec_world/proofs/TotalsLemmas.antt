-- What a table takes of each machine: sums of counts times sizes, after a number is set, taken out or put in.
use Rattle.std.proofs.Common.{◌≡◌, ℕ, ◌+◌, ◌*◌, ◌≤◌, Bool, true, false, cond, not, nat_eq, nat_lt, List, [], ◌∷◌, map, filter, slice_get, Some, None, refl, ◌∙◌, ap, subst, arith}
use Rattle.std.specs.Prelude.{T, is_some}
use Rattle.std.specs.Option.{option_map, unwrap_or}
use Rattle.std.specs.List.{AllByRecursion}
use Rattle.std.specs.Ordering.{eq_by_cmp}
use Rattle.std.specs.FinMap.Entries.{below_all, find, put, where_key, is_sorted, is_sorted-put}
use Rattle.std.proofs.Math.Nat.{mul-le-mul_right}
use Rattle.std.proofs.lemmas.List.Sums.{sum_by-cons}
use Rattle.fuxi_terms.specs.Cluster.{JobRecord}
use Rattle.fuxi_terms.specs.Vectors.{at_place, fits}
use Rattle.fuxi_terms.specs.Keys.{RowKey, Spot, spot_cmp}
use Rattle.fuxi_terms.specs.Counts.{count, set_count}
use Rattle.fuxi_terms.proofs.CountsLemmas.{both_true as both, tied, below_none}
use Rattle.fuxi_terms.proofs.VectorLaws.{fits_places}
use Rattle.fuxi_terms.specs.Jobs.{KnownJob, job_of, is_known, is_live, no_unit, unit_of, unit_count, size_at}
use Rattle.fuxi_terms.specs.Numbers.{has_number}
use Rattle.fuxi_terms.specs.Tables.{spot, total_at, Table}
use Rattle.spec_roles.specs.HardState.{with_job, with_ended}
use Rattle.spec_roles.specs.MasterSteps.{spot_row_key, is_kept, same_size, adopted}
use Rattle.spec_world.specs.Safe.{row_total_at}
use Rattle.fuxi_terms.proofs.Booleans.{both_true, either, number_is}
use Rattle.fuxi_terms.proofs.KeyOrders.{spot_total, same_spot}
use Rattle.fuxi_terms.proofs.Sums.{sum_put_exact}
use Rattle.spec_world.proofs.KnownJobsLemmas.{old_job, ended_units_of}

-- what so many grants at a spot take of a machine, in one resource
abbrev pub load : List KnownJob → ℕ → ℕ → Spot → ℕ → ℕ
load jobs m i s n = cond (nat_eq s.machine m) (n * size_at jobs s.job s.unit i) 0

-- no count, no load
pub no_load : (jobs : List KnownJob) (m i : ℕ) (s : Spot) → load jobs m i s 0 ≡ 0
no_load jobs m i s = elim (nat_eq s.machine m) as (λ b. cond b (0 * size_at jobs s.job s.unit i) 0 ≡ 0) [ true ↦ omega arith | false ↦ refl ]

-- a greater count, a greater load
pub load_more : (jobs : List KnownJob) (m i : ℕ) (s : Spot) (a b : ℕ) → a ≤ b → load jobs m i s a ≤ load jobs m i s b
load_more jobs m i s a b le = elim (nat_eq s.machine m) as (λ t. cond t (a * size_at jobs s.job s.unit i) 0 ≤ cond t (b * size_at jobs s.job s.unit i) 0) [ true ↦ mul-le-mul_right (size_at jobs s.job s.unit i) le | false ↦ omega arith ]

module _ (jobs : List KnownJob) (m i : ℕ) where
  abbrev w : Spot × ℕ → ℕ
  w e = load jobs m i e.0 e.1

  -- a spot taken out
  without : (s : Spot) (es : Table) → T (is_sorted spot_cmp es) → total_at jobs m i (where_key spot_cmp (λ x. not (eq_by_cmp spot_cmp s x)) es) + load jobs m i s (count spot_cmp es s) ≡ total_at jobs m i es
  without s [] k = let z = no_load jobs m i s in omega (arith, z)
  without s (e ∷ es) k =
      let parts = both (below_all spot_cmp e.0 es) (is_sorted spot_cmp es) k in
      let rest = without s es parts.1 in
      elim (eq_by_cmp spot_cmp s e.0) as (λ b. eq_by_cmp spot_cmp s e.0 ≡ b → total_at jobs m i (cond (not b) (e ∷ where_key spot_cmp (λ x. not (eq_by_cmp spot_cmp s x)) es) (where_key spot_cmp (λ x. not (eq_by_cmp spot_cmp s x)) es)) + load jobs m i s (unwrap_or (cond b (Some e.1) (find spot_cmp s es)) 0) ≡ total_at jobs m i (e ∷ es)) [
        | true ↦ λ t.
            let same : s ≡ e.0 = same_spot s e.0 (tied _ t) in
            let gone : count spot_cmp es s ≡ 0 = ap (λ q. count spot_cmp es q) same ∙ ap (λ o. unwrap_or o 0) (below_none spot_cmp e.0 es parts.0) in
            let z : load jobs m i s (count spot_cmp es s) ≡ 0 = ap (load jobs m i s) gone ∙ no_load jobs m i s in
            let here : load jobs m i s e.1 ≡ load jobs m i e.0 e.1 = ap (λ q. load jobs m i q e.1) same in
            rw (sum_by-cons w e es) (omega (arith, rest, z, here))
        | false ↦ λ t. rw (sum_by-cons w e (where_key spot_cmp (λ x. not (eq_by_cmp spot_cmp s x)) es), sum_by-cons w e es) (omega (arith, rest))
      ] refl

  -- a number that is set
  pub set_exact : (s : Spot) (n : ℕ) (es : Table) → T (is_sorted spot_cmp es) → total_at jobs m i (set_count spot_cmp es s n) + load jobs m i s (count spot_cmp es s) ≡ total_at jobs m i es + load jobs m i s n
  set_exact s n es k = elim (nat_eq n 0) as (λ b. nat_eq n 0 ≡ b → total_at jobs m i (cond b (where_key spot_cmp (λ x. not (eq_by_cmp spot_cmp s x)) es) (put spot_cmp s n es)) + load jobs m i s (count spot_cmp es s) ≡ total_at jobs m i es + load jobs m i s n) [
    | true ↦ λ t. let z : load jobs m i s n ≡ 0 = ap (load jobs m i s) (number_is n 0 t) ∙ no_load jobs m i s in let e = without s es k in omega (arith, z, e)
    | false ↦ λ _. sum_put_exact spot_total same_spot (load jobs m i) (λ q. no_load jobs m i q) s n es k
  ] refl

  -- a number put in
  pub put_exact : (s : Spot) (n : ℕ) (es : Table) → T (is_sorted spot_cmp es) → total_at jobs m i (put spot_cmp s n es) + load jobs m i s (count spot_cmp es s) ≡ total_at jobs m i es + load jobs m i s n
  put_exact s n es k = sum_put_exact spot_total same_spot (load jobs m i) (λ q. no_load jobs m i q) s n es k

  -- some left out
  pub where_less : (p : Spot → Bool) (es : Table) → total_at jobs m i (where_key spot_cmp p es) ≤ total_at jobs m i es
  where_less p [] = omega arith
  where_less p (e ∷ es) = let rest = where_less p es in elim (p e.0) as (λ b. total_at jobs m i (cond b (e ∷ where_key spot_cmp p es) (where_key spot_cmp p es)) ≤ total_at jobs m i (e ∷ es)) [
    | true ↦ rw (sum_by-cons w e (where_key spot_cmp p es), sum_by-cons w e es) (omega (arith, rest))
    | false ↦ rw (sum_by-cons w e es) (omega (arith, rest))
  ]

  -- a machine that is not reported has no entry
  pub nothing_there : (rs : List ℕ) (es : Table) → AllByRecursion (λ e. has_number e.0.machine rs ≡ true) es → has_number m rs ≡ false → total_at jobs m i es ≡ 0
  nothing_there rs [] h absent = refl
  nothing_there rs (e ∷ es) h absent =
      let rest = nothing_there rs es h.1 absent in
      rw (sum_by-cons w e es) (elim (nat_eq e.0.machine m) as (λ b. nat_eq e.0.machine m ≡ b → cond b (e.1 * size_at jobs e.0.job e.0.unit i) 0 + total_at jobs m i es ≡ 0) [
        | true ↦ λ t. let yes : has_number m rs ≡ true = subst (λ k. has_number k rs ≡ true) (number_is e.0.machine m t) h.0 in absurd (let f : ⊥ = cc in f)
        | false ↦ λ _. omega (arith, rest)
      ] refl)

-- Jobs that are added, or end, leave sizes as they are
live_known : (jobs : List KnownJob) (a : ℕ) → is_live jobs a ≡ true → is_known jobs a ≡ true
live_known jobs a e = elim (job_of jobs a) as (λ o. unwrap_or (option_map (λ (j : KnownJob). not j.ended) o) false ≡ true → is_some o ≡ true) [ None ↦ λ e. cc | Some j ↦ λ _. refl ] e

same_loads : (jobs jobs' : List KnownJob) (m i : ℕ) → (es : Table) → AllByRecursion (λ e. size_at jobs' e.0.job e.0.unit i ≡ size_at jobs e.0.job e.0.unit i) es → total_at jobs' m i es ≡ total_at jobs m i es
same_loads jobs jobs' m i [] h = refl
same_loads jobs jobs' m i (e ∷ es) h =
    let rest = same_loads jobs jobs' m i es h.1 in
    let here : load jobs' m i e.0 e.1 ≡ load jobs m i e.0 e.1 = ap (λ n. cond (nat_eq e.0.machine m) (e.1 * n) 0) h.0 in
    rw (sum_by-cons (w jobs' m i) e es, sum_by-cons (w jobs m i) e es) (omega (arith, rest, here))

-- a job more changes no load
pub added_loads : (jobs : List KnownJob) (j : JobRecord) (m i : ℕ) (es : Table) → AllByRecursion (λ e. is_live jobs e.0.job ≡ true) es → total_at (with_job j jobs) m i es ≡ total_at jobs m i es
added_loads jobs j m i es h = same_loads jobs (with_job j jobs) m i es (each es h)
  where
    each : (es : Table) → AllByRecursion (λ e. is_live jobs e.0.job ≡ true) es → AllByRecursion (λ e. size_at (with_job j jobs) e.0.job e.0.unit i ≡ size_at jobs e.0.job e.0.unit i) es
    each [] k = tt
    each (e ∷ es) k = (ap (λ o. at_place (unwrap_or (slice_get (unwrap_or (option_map (λ (x : KnownJob). x.job.units) o) []) e.0.unit) no_unit).size i) (old_job jobs j e.0.job (live_known jobs e.0.job k.0)), each es k.1)

-- nor does a job that ends
pub ended_loads : (jobs : List KnownJob) (a m i : ℕ) (es : Table) → total_at (with_ended a jobs) m i es ≡ total_at jobs m i es
ended_loads jobs a m i es = same_loads jobs (with_ended a jobs) m i es (each es)
  where
    each : (es : Table) → AllByRecursion (λ e. size_at (with_ended a jobs) e.0.job e.0.unit i ≡ size_at jobs e.0.job e.0.unit i) es
    each [] = tt
    each (e ∷ es) = (ap (λ us. at_place (unwrap_or (slice_get us e.0.unit) no_unit).size i) (ended_units_of a jobs e.0.job), each es)

-- A report that is adopted takes no more than its rows say
kept_size : (jobs : List KnownJob) (k : RowKey) (i : ℕ) → is_kept jobs k ≡ true → size_at jobs k.job k.unit i ≡ at_place k.size i
kept_size jobs k i e =
    let size = (unit_of jobs k.job k.unit).size in
    let same = both_true (fits size k.size) (fits k.size size) (both_true (nat_lt k.unit (unit_count jobs k.job)) (same_size size k.size) (both_true (is_live jobs k.job) _ e).1).1 in
    let a = (fits_places size k.size).0 same.0 i in
    let b = (fits_places k.size size).0 same.1 i in
    omega (arith, a, b)

-- what a report adds
pub adopted_loads : (jobs : List KnownJob) (m n i : ℕ) (rows : List (RowKey × ℕ)) (es : Table) → T (is_sorted spot_cmp es) → total_at jobs n i (adopted jobs m rows es) ≤ total_at jobs n i es + cond (nat_eq m n) (row_total_at i rows) 0
adopted_loads jobs m n i [] es s = omega arith
adopted_loads jobs m n i (r ∷ rows) es s =
    let k = spot r.0.job r.0.unit m in
    let next = cond (is_kept jobs r.0) (put spot_cmp k r.1 es) es in
    let sorted : T (is_sorted spot_cmp next) = either (λ t. T (is_sorted spot_cmp t)) (is_kept jobs r.0) (put spot_cmp k r.1 es) es (λ _. is_sorted-put spot_cmp spot_total k r.1 es s) (λ _. s) in
    let rest = adopted_loads jobs m n i rows next sorted in
    let step : total_at jobs n i next ≤ total_at jobs n i es + cond (nat_eq m n) (r.1 * at_place r.0.size i) 0 = either (λ t. total_at jobs n i t ≤ total_at jobs n i es + cond (nat_eq m n) (r.1 * at_place r.0.size i) 0) (is_kept jobs r.0) (put spot_cmp k r.1 es) es
    (λ e.
    let x = put_exact jobs n i k r.1 es s in
    let size : load jobs n i k r.1 ≡ cond (nat_eq m n) (r.1 * at_place r.0.size i) 0 = ap (λ z. cond (nat_eq m n) (r.1 * z) 0) (kept_size jobs r.0 i e) in
    omega (arith, x, size))
    (λ _. omega arith) in
    rw (sum_by-cons (λ (e : RowKey × ℕ). e.1 * at_place e.0.size i) r rows)
    (elim (nat_eq m n) as (λ b. total_at jobs n i (adopted jobs m rows next) ≤ total_at jobs n i next + cond b (row_total_at i rows) 0 → total_at jobs n i next ≤ total_at jobs n i es + cond b (r.1 * at_place r.0.size i) 0
    → total_at jobs n i (adopted jobs m rows next) ≤ total_at jobs n i es + cond b (r.1 * at_place r.0.size i + row_total_at i rows) 0) [ true ↦ λ x y. omega (arith, x, y) | false ↦ λ x y. omega (arith, x, y) ] rest step)

-- The row of a machine takes what the table takes
pub row_loads : (jobs : List KnownJob) (m i : ℕ) (es : Table) → row_total_at i (map (λ e. (spot_row_key jobs e.0, e.1)) (filter (λ e. nat_eq e.0.machine m) es)) ≡ total_at jobs m i es
row_loads jobs m i [] = refl
row_loads jobs m i (e ∷ es) =
    let rest = row_loads jobs m i es in
    rw (sum_by-cons (w jobs m i) e es)
    (elim (nat_eq e.0.machine m) as (λ b. row_total_at i (map (λ e. (spot_row_key jobs e.0, e.1)) (cond b (e ∷ filter (λ e. nat_eq e.0.machine m) es) (filter (λ e. nat_eq e.0.machine m) es))) ≡ cond b (e.1 * size_at jobs e.0.job e.0.unit i) 0 + total_at jobs m i es) [
      | true ↦ sum_by-cons (λ (r : RowKey × ℕ). r.1 * at_place r.0.size i) (spot_row_key jobs e.0, e.1) (map (λ e. (spot_row_key jobs e.0, e.1)) (filter (λ e. nat_eq e.0.machine m) es)) ∙ ap (λ n. e.1 * size_at jobs e.0.job e.0.unit i + n) rest
      | false ↦ omega (arith, rest)
    ])
