-- Jobs in the order of their submission, and where each is by its number.
use Rattle.std.specs.Prelude.{◌≡◌, ℕ, zero, suc, ◌+◌, ◌≤◌, List, [], ◌∷◌, length, get_or, slice_get, Option, Some, None}
use Rattle.fuxi_terms.specs.Jobs.{KnownJob, job_of}

-- the job at a place; places count from 1, and 0 is none
abbrev pub job_at : List KnownJob → ℕ → Option KnownJob
job_at jobs zero = None
job_at jobs (suc i) = slice_get jobs i

-- how many places are not 0
abbrev pub count_used : List ℕ → ℕ
count_used [] = 0
count_used (zero ∷ places) = count_used places
count_used (suc i ∷ places) = count_used places + 1

-- the places by job number, for the numbers up to 255
pub record IsIndex (places : List ℕ) (jobs : List KnownJob) : Type 0 where
  pub numbers : length places ≡ 256
  pub leads : (number : ℕ) → job_of jobs number ≡ job_at jobs (get_or places number 0)
  pub within : (number : ℕ) → get_or places number 0 ≤ length jobs
  -- no two jobs have one number
  pub only : (i : ℕ) (job : KnownJob) → slice_get jobs i ≡ Some job → get_or places job.job.number 0 ≡ suc i
  pub count : length jobs ≡ count_used places
