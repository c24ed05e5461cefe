-- Jobs that are known, and those of a table.
use Rattle.std.proofs.Common.{◌≡◌, ℕ, ◌<◌, Bool, true, false, cond, nat_eq, nat_lt, List, [], ◌∷◌, length, map, filter, slice_get, Option, Some, None, refl, sym, ◌∙◌, ap, subst, arith}
use Rattle.std.specs.Prelude.{is_some}
use Rattle.std.specs.List.{AllByRecursion}
use Rattle.std.specs.Option.{option_map, unwrap_or}
use Rattle.std.proofs.lemmas.Bool.Decides.{nat_tests}
use Rattle.fuxi_terms.specs.Cluster.{JobRecord, UnitRecord}
use Rattle.fuxi_terms.specs.Jobs.{KnownJob, job_of, is_known, units_of, unit_count, no_unit}
use Rattle.fuxi_terms.specs.declared.Key.{Key}
use Rattle.fuxi_terms.specs.Keys.{RowKey, Spot}
use Rattle.fuxi_terms.specs.TallyKeys.{count_key}
use Rattle.fuxi_terms.proofs.Booleans.{nat_itself}
use Rattle.fuxi_terms.specs.Tables.{Table}
use Rattle.spec_roles.specs.HardState.{with_job}
use Rattle.spec_roles.specs.MasterSteps.{spot_row_key, count_entries}
use Rattle.ledger_updates.specs.Projections.{row_of}
use Rattle.grant_table.specs.GrantTables.{TableRecord, as_known}
use Rattle.allotment.specs.PlacingReads.{record_of}
use Rattle.fuxi_master.proofs.Projected.{known_alike}

pub some_units : (n : ℕ) → nat_lt 0 n ≡ true → 0 < n
some_units n e = grind (arith, nat_tests, e)

-- a known job has units in the table
pub has_units : (table read : TableRecord) → read ≡ table → (jobs : List KnownJob) → ((a : ℕ) → record_of (as_known table.jobs) a ≡ record_of jobs a) → (a n : ℕ) → is_known jobs a ≡ true
    → is_known (as_known read.jobs) a ≡ nat_lt 0 n → n ≡ unit_count (as_known read.jobs) a → 0 < unit_count (as_known table.jobs) a
has_units table read is jobs same a n known knows number =
    let e : nat_lt 0 n ≡ true = sym knows ∙ ap (λ (t : TableRecord). is_known (as_known t.jobs) a) is ∙ known_alike (as_known table.jobs) jobs a (same a) ∙ known in
    subst (λ k. 0 < k) (number ∙ ap (λ (t : TableRecord). unit_count (as_known t.jobs) a) is) (some_units n e)

-- a job more
pub behind_known : (j : JobRecord) (js : List KnownJob) (b : ℕ) → is_known js b ≡ true → job_of (with_job j js) b ≡ job_of js b
behind_known j [] b e = cc
behind_known j (k ∷ ks) b e = elim (nat_eq k.job.number b) as (λ t. is_some (cond t (Some k) (job_of ks b)) ≡ true → cond t (Some k) (job_of (with_job j ks) b) ≡ cond t (Some k) (job_of ks b)) [
  | true ↦ λ _. refl
  | false ↦ λ e. behind_known j ks b e
] e

pub behind_other : (j : JobRecord) (js : List KnownJob) (b : ℕ) → nat_eq j.number b ≡ false → job_of (with_job j js) b ≡ job_of js b
behind_other j [] b f = ap (λ t. cond t (Some (record { job = j; ended = false })) None) f
behind_other j (k ∷ ks) b f = ap (cond (nat_eq k.job.number b) (Some k)) (behind_other j ks b f)

pub behind_there : (j : JobRecord) (js : List KnownJob) → is_known (with_job j js) j.number ≡ true
behind_there j [] = ap (λ t. is_some {T = KnownJob} (cond t (Some (record { job = j; ended = false })) None)) (nat_itself j.number)
behind_there j (k ∷ ks) = elim (nat_eq k.job.number j.number) as (λ t. is_some (cond t (Some k) (job_of (with_job j ks) j.number)) ≡ true) [ true ↦ refl | false ↦ behind_there j ks ]

pub unknown_before : (j : JobRecord) (js : List KnownJob) (b : ℕ) → is_known (with_job j js) b ≡ false → is_known js b ≡ false
unknown_before j js b e = by (is_known js b) refl
  where
    by : (t : Bool) → is_known js b ≡ t → t ≡ false
    by true t = absurd (let f : true ≡ false = sym t ∙ sym (ap is_some (behind_known j js b t)) ∙ e in cc)
    by false t = refl

pub known_units : (js : List KnownJob) (a u : ℕ) → u < unit_count js a → is_known js a ≡ true
known_units js a u = by (job_of js a)
  where
    by : (o : Option KnownJob) → u < length (unwrap_or (option_map (λ (j : KnownJob). j.job.units) o) []) → is_some o ≡ true
    by None lt = absurd (omega (arith, lt))
    by (Some j) lt = refl

pub rows_more : (js ks : List KnownJob) (m : ℕ) (es : Table) → AllByRecursion (λ (e : Spot × ℕ). units_of js e.0.job ≡ units_of ks e.0.job) es → row_of js m es ≡ row_of ks m es
rows_more js ks m [] h = refl
rows_more js ks m (e ∷ es) h = elim (nat_eq e.0.machine m) as (λ b. map {B = RowKey × ℕ} (λ e. (spot_row_key js e.0, e.1)) (cond b (e ∷ filter (λ e. nat_eq e.0.machine m) es) (filter (λ e. nat_eq e.0.machine m) es)) ≡ map {B = RowKey × ℕ} (λ e. (spot_row_key ks e.0, e.1)) (cond b (e ∷ filter (λ e. nat_eq e.0.machine m) es) (filter (λ e. nat_eq e.0.machine m) es))) [
  | true ↦ λ i. (key e.0 h.0 i, e.1) ∷ rows_more js ks m es h.1 i
  | false ↦ rows_more js ks m es h.1
]
  where
    key : (s : Spot) → units_of js s.job ≡ units_of ks s.job → spot_row_key js s ≡ spot_row_key ks s
    key s same = ap (λ (us : List UnitRecord). record { job = s.job; unit = s.unit; size = (unwrap_or (slice_get us s.unit) no_unit).size }) same

-- a job without grants has no counts
pub no_counts : (a : ℕ) (es : Table) → AllByRecursion (λ (e : Spot × ℕ). nat_eq e.0.job a ≡ false) es → count_entries a es ≡ []
no_counts a [] h = refl
no_counts a (e ∷ es) h = ap (λ b. map {B = Key × ℕ} (λ e. (count_key e.0.unit e.0.machine, e.1)) (cond b (e ∷ filter (λ e. nat_eq e.0.job a) es) (filter (λ e. nat_eq e.0.job a) es))) h.0 ∙ no_counts a es h.1
