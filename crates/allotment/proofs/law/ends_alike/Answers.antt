use Rattle.std.proofs.Common.{◌≡◌, ℕ, Bool, true, false, cond, nat_eq, List, [], ◌∷◌, Some, refl, sym, ◌∙◌, ap}
use Rattle.std.specs.Option.{option_map}
use Rattle.fuxi_terms.specs.Cluster.{JobRecord}
use Rattle.fuxi_terms.specs.Jobs.{KnownJob, job_of, job_numbers}
use Rattle.fuxi_terms.specs.Numbers.{with_number}
use Rattle.spec_roles.specs.HardState.{with_ended}
use Rattle.allotment.specs.PlacingReads.{record_of}
use Rattle.allotment.proofs.law.ends_alike.Goals as goal

marked : (b : Bool) (x : KnownJob) → (cond b (record { job = x.job; ended = true }) x).job ≡ x.job
marked true x = refl
marked false x = refl

same_numbers : (a : ℕ) (xs : List KnownJob) → job_numbers (with_ended a xs) ≡ job_numbers xs
same_numbers a [] = refl
same_numbers a (x ∷ xs) = let m = marked (nat_eq x.job.number a) x in let r = same_numbers a xs in λ i. with_number (m i).number (r i)

same_record : (a : ℕ) (xs : List KnownJob) (b : ℕ) → record_of (with_ended a xs) b ≡ record_of xs b
same_record a [] b = refl
same_record a (x ∷ xs) b = by (nat_eq x.job.number a) (same_record a xs b)
  where
    inner : (d : Bool) (y : KnownJob) → y.job ≡ x.job → record_of (with_ended a xs) b ≡ record_of xs b → option_map (λ (k : KnownJob). k.job) (cond d (Some y) (job_of (with_ended a xs) b)) ≡ option_map (λ (k : KnownJob). k.job) (cond d (Some x) (job_of xs b))
    inner true y e r = ap (λ (j : JobRecord). Some j) e
    inner false y e r = r

    by : (d : Bool) → record_of (with_ended a xs) b ≡ record_of xs b
        → option_map (λ (k : KnownJob). k.job) (cond (nat_eq (cond d (record { job = x.job; ended = true }) x).job.number b) (Some (cond d (record { job = x.job; ended = true }) x)) (job_of (with_ended a xs) b)) ≡ option_map (λ (k : KnownJob). k.job) (cond (nat_eq x.job.number b) (Some x) (job_of xs b))
    by d r =
        let m = marked d x in
        (λ i. option_map (λ (k : KnownJob). k.job) (cond (nat_eq (m i).number b) (Some (cond d (record { job = x.job; ended = true }) x)) (job_of (with_ended a xs) b)))
        ∙ inner (nat_eq x.job.number b) (cond d (record { job = x.job; ended = true }) x) m r

pub returns-clause-numbers : goal.returns-clause-numbers
returns-clause-numbers c = same_numbers

pub returns-clause-records : goal.returns-clause-records
returns-clause-records c = same_record

pub returns-clause-alike : goal.returns-clause-alike
returns-clause-alike c = λ x k M a h.
    let p = h.placing in
    record { placing = record { cluster = p.cluster; numbers = p.numbers ∙ sym (same_numbers a M.jobs); jobs = λ b. p.jobs b ∙ sym (same_record a M.jobs b); entries = p.entries; wants = p.wants; near = p.near; racks = p.racks; avoids = p.avoids; usable = p.usable; line = p.line } }
