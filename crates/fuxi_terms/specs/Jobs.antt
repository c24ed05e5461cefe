-- Jobs that are known, ended or not.
use Rattle.std.specs.Prelude.{ℕ, Bool, false, cond, not, nat_eq, List, [], ◌∷◌, length, map, Option, Some, None, slice_get, is_some}
use Rattle.std.specs.Option.{unwrap_or, option_map}
use Rattle.fuxi_terms.specs.Vectors.{at_place}
use Rattle.fuxi_terms.specs.Padded.{padded}
use Rattle.fuxi_terms.specs.Cluster.{JobRecord, UnitRecord}
use Rattle.fuxi_terms.specs.Numbers.{with_number}

-- a job with the mark whether it has ended. Its record never changes
pub record KnownJob : Type 0 where
  pub job : JobRecord
  pub ended : Bool

-- a job is known with its sizes in eight places, zeros behind those of the cluster
abbrev pub eight_places : JobRecord → JobRecord
eight_places j = record j { units = map (λ (u : UnitRecord). record u { size = padded u.size }) j.units }

abbrev pub job_of : List KnownJob → ℕ → Option KnownJob
job_of [] a = None
job_of (j ∷ js) a = cond (nat_eq j.job.number a) (Some j) (job_of js a)

abbrev pub is_known : List KnownJob → ℕ → Bool
is_known jobs a = is_some (job_of jobs a)

-- known and not ended
abbrev pub is_live : List KnownJob → ℕ → Bool
is_live jobs a = unwrap_or (option_map (λ j. not j.ended) (job_of jobs a)) false

abbrev pub has_ended : List KnownJob → ℕ → Bool
has_ended jobs a = unwrap_or (option_map (λ j. j.ended) (job_of jobs a)) false

abbrev pub no_unit : UnitRecord
no_unit = record { priority = 0; size = []; most = 0 }

abbrev pub units_of : List KnownJob → ℕ → List UnitRecord
units_of jobs a = unwrap_or (option_map (λ j. j.job.units) (job_of jobs a)) []

-- the number of units of a job
abbrev pub unit_count : List KnownJob → ℕ → ℕ
unit_count jobs a = length (units_of jobs a)

abbrev pub unit_of : List KnownJob → ℕ → ℕ → UnitRecord
unit_of jobs a u = unwrap_or (slice_get (units_of jobs a) u) no_unit

abbrev pub priority_of : List KnownJob → ℕ → ℕ → ℕ
priority_of jobs a u = (unit_of jobs a u).priority

abbrev pub group_of : List KnownJob → ℕ → ℕ
group_of jobs a = unwrap_or (option_map (λ j. j.job.group) (job_of jobs a)) 0

-- the greatest number of a unit's grants that are made on one machine
abbrev pub most_of : List KnownJob → ℕ → ℕ → ℕ
most_of jobs a u = (unit_of jobs a u).most

-- one resource of a unit's size
abbrev pub size_at : List KnownJob → ℕ → ℕ → ℕ → ℕ
size_at jobs a u i = at_place (unit_of jobs a u).size i

-- the numbers of the known jobs, in order
abbrev pub job_numbers : List KnownJob → List ℕ
job_numbers [] = []
job_numbers (j ∷ js) = with_number j.job.number (job_numbers js)
