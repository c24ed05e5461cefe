-- What is known of jobs and machines.
use Rattle.std.specs.Prelude.{ℕ, List}
use Rattle.fuxi_terms.specs.Jobs.{KnownJob}

-- the jobs in the order of their submission, and the machines that are banned
pub record Knowledge : Type 0 where
  pub jobs : List KnownJob
  pub bans : List ℕ
