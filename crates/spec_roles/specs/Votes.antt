-- Which machines enough jobs mark as bad.
use Rattle.std.specs.Prelude.{◌≡◌, ℕ, zero, suc, ◌+◌, ◌-◌, ◌*◌, ◌/◌, ◌<◌, ◌≤◌, ◌⊎◌, Bool, false, not, ◌&&◌, ◌||◌, nat_eq, nat_lt, nat_le, List, [], ◌++◌, length, get_or, map, take, filter, count_by}
use Rattle.std.specs.List.{list_any, list_all}
use Rattle.fuxi_terms.specs.Cluster.{ClusterRecord}
use Rattle.fuxi_terms.specs.Jobs.{KnownJob}
use Rattle.fuxi_terms.specs.Lists.{below}
use Rattle.fuxi_terms.specs.Numbers.{has_number}
use Rattle.fuxi_terms.specs.TallyKeys.{want_key, avoid_key}
use Rattle.spec_roles.specs.Masters.{Master, asked, avoids}

-- By the number of a machine: its votes, and whether it counts as banned.
pub record VotesRecord : Type 0 where
  pub votes : List ℕ
  pub shut : List Bool

-- the most votes that a machine can have
abbrev pub most_votes : ℕ
most_votes = 256

abbrev pub votes_of : VotesRecord → ℕ → ℕ
votes_of v m = get_or v.votes m 0

abbrev pub is_shut : VotesRecord → ℕ → Bool
is_shut v m = get_or v.shut m false

abbrev pub number_shut : VotesRecord → ℕ
number_shut v = count_by (λ s. s) v.shut

-- so many machines may be banned in all
abbrev pub cap : VotesRecord → ℕ → ℕ
cap v percent = length v.votes * percent / 100

-- a machine that may be judged
abbrev pub is_marked : VotesRecord → ℕ → ℕ → Bool
is_marked v least m = not (is_shut v m) && nat_le least (votes_of v m)

-- the machines that are not shut and have exactly so many votes, in the order of their numbers
abbrev pub open_with : VotesRecord → ℕ → List ℕ
open_with v n = filter (λ m. not (is_shut v m) && nat_eq (votes_of v m) n) (below (length v.votes))

-- those of so many numbers of votes from the least on, the greatest number first
abbrev pub open_from : VotesRecord → ℕ → ℕ → List ℕ
open_from v least zero = []
open_from v least (suc more) = open_with v (least + more) ++ open_from v least more

-- the first of them, as many as may still be banned
abbrev pub judged : VotesRecord → ℕ → ℕ → List ℕ
judged v least percent = take (cap v percent - number_shut v) (open_from v least (suc most_votes - least))

-- a machine has more votes than another, or as many and the smaller number
abbrev pub GoesBefore : VotesRecord → ℕ → ℕ → Type 0
GoesBefore v m n = (votes_of v n < votes_of v m) ⊎ ((votes_of v m ≡ votes_of v n) × (m < n))

-- or it is that one
abbrev pub IsNotBehind : VotesRecord → ℕ → ℕ → Type 0
IsNotBehind v m n = (votes_of v n < votes_of v m) ⊎ ((votes_of v m ≡ votes_of v n) × (m ≤ n))

-- The votes of a master's jobs. A unit of a job is wanted
abbrev pub is_wanted : Master → ℕ → ℕ → Bool
is_wanted M a u = nat_lt 0 (asked M a (want_key u))

-- a job marks a machine where it has not ended, a unit of it is wanted, and each that is wanted avoids the machine
abbrev pub marks : Master → KnownJob → ℕ → Bool
marks M j m = let a = j.job.number in let units = below (length j.job.units) in
    not j.ended && (list_any (is_wanted M a) units && list_all (λ u. not (is_wanted M a u) || avoids M a u m) units)

-- Marks where all avoid: the job has not ended, one unit of it at least is wanted, and every unit that is wanted avoids the machine
pub record IsMark (M : Master) (j : KnownJob) (m : ℕ) : Type 0 where
  pub live : j.ended ≡ false
  pub unit : ℕ
  pub there : unit < length j.job.units
  pub wanted : 0 < asked M j.job.number (want_key unit)
  pub avoided : (u : ℕ) → u < length j.job.units → 0 < asked M j.job.number (want_key u) → 0 < asked M j.job.number (avoid_key u m)

-- how many jobs mark each machine of the cluster, and which of them are banned
abbrev pub votes_in : ClusterRecord → Master → VotesRecord
votes_in c M = let machines = below (length c.machines) in
    record { votes = map (λ m. count_by (λ j. marks M j m) M.jobs) machines; shut = map (λ m. has_number m M.bans) machines }
