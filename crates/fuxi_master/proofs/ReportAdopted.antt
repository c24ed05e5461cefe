-- A report that is adopted enters the table.
use Rattle.std.proofs.Common.{◌≡◌, ℕ, ◌<◌, ◌≤◌, true, false, cond, not, nat_eq, nat_lt, List, [], ◌∷◌, length, slice_get, refl, sym, ◌∙◌, ap, subst, arith}
use Rattle.std.specs.Prelude.{◌&&◌, ◌||◌}
use Rattle.std.specs.List.{AllByRecursion}
use Rattle.std.specs.Option.{unwrap_or}
use Rattle.std.specs.FinMap.Entries.{put}
use Rattle.std.proofs.lemmas.Bool.Decides.{nat_tests}
use Rattle.fuxi_terms.specs.Cluster.{ClusterRecord, UnitRecord, machine_of, has_at}
use Rattle.fuxi_terms.specs.Jobs.{KnownJob, is_live, units_of, unit_of, unit_count, size_at, no_unit}
use Rattle.fuxi_terms.specs.Keys.{RowKey, spot_cmp}
use Rattle.fuxi_terms.specs.Numbers.{has_number, with_number}
use Rattle.fuxi_terms.specs.Padded.{padded}
use Rattle.fuxi_terms.specs.Tables.{spot, Table}
use Rattle.fuxi_terms.specs.Vectors.{at_place, fits}
use Rattle.fuxi_terms.proofs.Alls.{all_passed}
use Rattle.fuxi_terms.proofs.Booleans.{both_true, number_is, eq_turned}
use Rattle.fuxi_terms.proofs.VectorLaws.{fits_places, at_place-padded}
use Rattle.hard_state.specs.Knowledge.{Knowledge}
use Rattle.failover.specs.KeptReports.{kept_entries, kept_of}
use Rattle.spec_roles.specs.MasterSteps.{is_kept, same_size, adopted}
use Rattle.allotment.specs.PlacingReads.{record_of}
use Rattle.allotment.specs.Allotted.{rows_put}
use Rattle.fuxi_terms.proofs.NumbersLemmas.{with_is}
use Rattle.fuxi_master.proofs.Projected.{units_alike}

-- a unit that is admitted, with its size
abbrev pub IsUnitOf : List KnownJob → RowKey × ℕ → Type 0
IsUnitOf jobs e = (e.0.unit < unit_count jobs e.0.job) × ((i : ℕ) → size_at jobs e.0.job e.0.unit i ≡ at_place e.0.size i)

one_kept : (jobs table : List KnownJob) → ((a : ℕ) → record_of table a ≡ record_of jobs a) → (e : RowKey × ℕ) → is_kept jobs e.0 ≡ true → IsUnitOf table e
one_kept jobs table same e k =
    let live = both_true (is_live jobs e.0.job) _ k in
    let unit = both_true (nat_lt e.0.unit (unit_count jobs e.0.job)) (same_size (unit_of jobs e.0.job e.0.unit).size e.0.size) live.1 in
    let size = both_true (fits (unit_of jobs e.0.job e.0.unit).size e.0.size) (fits e.0.size (unit_of jobs e.0.job e.0.unit).size) unit.1 in
    let us : units_of table e.0.job ≡ units_of jobs e.0.job = units_alike table jobs same e.0.job in
    let n : length (units_of table e.0.job) ≡ length (units_of jobs e.0.job) = ap (λ (xs : List UnitRecord). length xs) us in
    let lt = unit.0 in (
      let small : e.0.unit < length (units_of jobs e.0.job) = grind (arith, nat_tests, lt) in omega (arith, small, n),
      λ i. ap (λ (xs : List UnitRecord). at_place (unwrap_or (slice_get xs e.0.unit) no_unit).size i) us
          ∙ (let up = (fits_places (unit_of jobs e.0.job e.0.unit).size e.0.size).0 size.0 i in let down = (fits_places e.0.size (unit_of jobs e.0.job e.0.unit).size).0 size.1 i in omega (arith, up, down)),
    )

-- what is kept of a report names units that are there
pub kept_units : (known : Knowledge) (table : List KnownJob) → ((a : ℕ) → record_of table a ≡ record_of known.jobs a) → (m : ℕ) (rows : List (RowKey × ℕ)) → AllByRecursion (IsUnitOf table) (kept_of known m rows)
kept_units known table same m rows = elim (has_number m known.bans) as (λ b. AllByRecursion (IsUnitOf table) (cond b [] (kept_entries known.jobs rows))) [
  | true ↦ tt
  | false ↦ all_passed (IsUnitOf table) (λ e. is_kept known.jobs e.0) rows (one_kept known.jobs table same)
]

-- and fits what the machine has
pub kept_fits : (c : ClusterRecord) (m : ℕ) (total has : List ℕ) → has ≡ padded (machine_of c m).has → fits total has ≡ true → (i : ℕ) → at_place total i ≤ has_at c m i
kept_fits c m total has is f i = subst (λ n. at_place total i ≤ n) (ap (λ h. at_place h i) is ∙ at_place-padded (machine_of c m).has i) ((fits_places total has).0 f i)

-- the entries that are put are those of the report that are kept
put_kept : (jobs : List KnownJob) (m : ℕ) (rows : List (RowKey × ℕ)) (table : Table) → rows_put m (kept_entries jobs rows) table ≡ adopted jobs m rows table
put_kept jobs m [] table = refl
put_kept jobs m (e ∷ es) table = elim (is_kept jobs e.0) as (λ b. rows_put m (cond b (e ∷ kept_entries jobs es) (kept_entries jobs es)) table ≡ adopted jobs m es (cond b (put spot_cmp (spot e.0.job e.0.unit m) e.1 table) table)) [
  | true ↦ put_kept jobs m es (put spot_cmp (spot e.0.job e.0.unit m) e.1 table)
  | false ↦ put_kept jobs m es table
]

pub put_adopted : (known : Knowledge) (m : ℕ) (rows : List (RowKey × ℕ)) (table : Table) → rows_put m (kept_of known m rows) table ≡ cond (has_number m known.bans) table (adopted known.jobs m rows table)
put_adopted known m rows table = elim (has_number m known.bans) as (λ b. rows_put m (cond b [] (kept_entries known.jobs rows)) table ≡ cond b table (adopted known.jobs m rows table)) [ true ↦ refl | false ↦ put_kept known.jobs m rows table ]

-- the machine takes grants from now on, unless it is banned
pub opened_now : (m : ℕ) (reported bans : List ℕ) (n : ℕ) → (has_number n (with_number m reported) && not (has_number n bans)) ≡ cond (nat_eq m n) (not (has_number m bans)) (has_number n reported && not (has_number n bans))
opened_now m reported bans n = ap (λ b. b && not (has_number n bans)) (with_is n m reported) ∙ ap (λ b. (b || has_number n reported) && not (has_number n bans)) (eq_turned n m) ∙ elim (nat_eq m n) as (λ b. nat_eq m n ≡ b → ((b || has_number n reported) && not (has_number n bans)) ≡ cond b (not (has_number m bans)) (has_number n reported && not (has_number n bans))) [
  | true ↦ λ t. ap (λ k. not (has_number k bans)) (sym (number_is m n t))
  | false ↦ λ _. refl
] refl
