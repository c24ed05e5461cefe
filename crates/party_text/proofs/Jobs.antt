-- The lines of jobs, by their numbers.
use Rattle.std.proofs.Common.{◌≡◌, ℕ, ◌<◌, true, cond, nat_eq, List, [], ◌∷◌, ◌++◌, Option, Some, None, is_some, refl, ◌∙◌, ap}
use Rattle.std.specs.List.{AllByRecursion, flat_map}
use Rattle.std.specs.Option.{unwrap_or, option_map}
use Rattle.fuxi_terms.specs.Cluster.{JobRecord}
use Rattle.fuxi_terms.specs.Jobs.{KnownJob, job_of, is_known, group_of, job_numbers}
use Rattle.fuxi_terms.specs.Lists.{below}
use Rattle.fuxi_terms.specs.Numbers.{has_number}
use Rattle.fuxi_terms.proofs.Booleans.{nat_itself, or_left, or_right}
use Rattle.spec_world.specs.Show.{show_jobs}
use Rattle.party_text.specs.MasterLines.{job_line, job_lines}
use Rattle.party_text.proofs.Walks.{listed_at, listed_below, jobs_rise, job_listed}

-- a job that is there
pub job_there : (jobs : List KnownJob) (a : ℕ) (j : JobRecord) → option_map (λ (k : KnownJob). k.job) (job_of jobs a) ≡ Some j → (is_known jobs a ≡ true) × (group_of jobs a ≡ j.group)
job_there jobs a j e = by (job_of jobs a) e
  where
    by : (o : Option KnownJob) → option_map (λ (k : KnownJob). k.job) o ≡ Some j → (is_some o ≡ true) × (unwrap_or (option_map (λ (k : KnownJob). k.job.group) o) 0 ≡ j.group)
    by None e = cc
    by (Some k) e = (refl, ap (λ o. unwrap_or (option_map (λ (j : JobRecord). j.group) o) 0) e)

-- what each number of a list has, all have
all_numbers : (P : ℕ → Type 0) (ns : List ℕ) → ((n : ℕ) → has_number n ns ≡ true → P n) → AllByRecursion P ns
all_numbers P [] h = tt
all_numbers P (n ∷ ns) h = (h n (or_left (nat_eq n n) (has_number n ns) (nat_itself n)), all_numbers P ns (λ m e. h m (or_right (nat_eq m n) (has_number m ns) e)))

by_number : (jobs : List KnownJob) (ks : List ℕ) → flat_map (job_lines jobs) ks ≡ flat_map (listed_at (job_line jobs) (job_numbers jobs)) ks
by_number jobs [] = refl
by_number jobs (k ∷ ks) = let here = job_listed jobs k in let rest = by_number jobs ks in λ i. cond (here i) (job_line jobs k ∷ []) [] ++ rest i

pub jobs_below : (jobs : List KnownJob) (n : ℕ) → AllByRecursion (λ a. a < n) (job_numbers jobs) → flat_map (job_lines jobs) (below n) ≡ show_jobs jobs
jobs_below jobs n h = by_number jobs (below n) ∙ listed_below (job_line jobs) n (job_numbers jobs) (jobs_rise jobs) h

-- where each job that is known has a number below one, all numbers are below it
pub known_below : (jobs : List KnownJob) (n : ℕ) → ((a : ℕ) → is_known jobs a ≡ true → a < n) → AllByRecursion (λ a. a < n) (job_numbers jobs)
known_below jobs n h = all_numbers (λ a. a < n) (job_numbers jobs) (λ a is. h a (job_listed jobs a ∙ is))
