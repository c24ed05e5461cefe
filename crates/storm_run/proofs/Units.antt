-- Admitted jobs have few units.
use Rattle.std.proofs.Common.{◌≡◌, ℕ, ◌≤◌, true, false, cond, not, nat_eq, nat_lt, List, [], ◌∷◌, length, Some, arith}
use Rattle.std.specs.Option.{unwrap_or, option_map}
use Rattle.std.proofs.lemmas.Bool.Decides.{nat_tests}
use Rattle.fuxi_terms.specs.Cluster.{JobRecord, is_valid_job, is_between}
use Rattle.fuxi_terms.specs.Jobs.{KnownJob, job_of, unit_count}
use Rattle.fuxi_terms.specs.Limits.{most_jobs, most_groups, most_units}
use Rattle.fuxi_terms.proofs.Booleans.{both_true}
use Rattle.grant_table.specs.GrantTables.{as_known, AreJobs}

few_in : (j : JobRecord) → is_valid_job 8 j ≡ true → length j.units ≤ most_units
few_in j valid =
    let a = both_true (nat_lt j.number most_jobs) _ valid in
    let b = both_true (nat_lt j.group most_groups) _ a.1 in
    let c = both_true (is_between 1 most_units (length j.units)) _ b.1 in
    let d = both_true (not (nat_lt (length j.units) 1)) _ c.0 in
    let few = d.1 in
    grind (arith, nat_tests, few)

pub few_units : (jobs : List JobRecord) (a : ℕ) → AreJobs jobs → unit_count (as_known jobs) a ≤ most_units
few_units [] a h = omega arith
few_units (j ∷ js) a h = elim (nat_eq j.number a) as (λ b. length (unwrap_or (option_map (λ (k : KnownJob). k.job.units) (cond b (Some (record { job = j; ended = false })) (job_of (as_known js) a))) []) ≤ most_units) [
  | true ↦ few_in j h.0
  | false ↦ few_units js a h.1.1
]
