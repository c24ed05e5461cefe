-- What is wrong with what was asked for a job: the first test that fails.
use Rattle.std.specs.Prelude.{◌≡◌, ℕ, ◌+◌, not, nat_eq, nat_lt, List, [], ◌∷◌, length, map, Option, Some, None, Result, Ok, Err, if◌then◌else◌}
use Rattle.std.specs.Option.{option_or}
use Rattle.fuxi_terms.specs.Vectors.{is_zero}
use Rattle.fuxi_terms.specs.Cluster.{JobRecord, UnitRecord, are_quantities, is_priority, is_most}
use Rattle.fuxi_terms.specs.Padded.{padded}
use Rattle.schedule_unit.specs.declared.asks.Ask.{Ask}
use Rattle.schedule_unit.specs.declared.party.UnitNo.{UnitNo}
use Rattle.schedule_unit.specs.declared.job.JobFault.{JobFault}
use Rattle.schedule_unit.specs.declared.job.JobFault.TheVariants.{NoUnits, TooManyUnits, Dimensions, PriorityRange, QuantityRange, ZeroSize, MostRange, OutOfMemory}

abbrev pub unit_no : ℕ → UnitNo
unit_no n = record { 0 = n }

-- of unit number u, where the cluster has so many resources
abbrev pub unit_fault : ℕ → ℕ → Ask → Option JobFault
unit_fault resources u ask =
    if not (nat_eq (length ask.quantities) resources) then Some (Dimensions (unit_no u))
    else (if not (is_priority ask.priority) then Some (PriorityRange (unit_no u))
    else (if not (are_quantities ask.quantities) then Some (QuantityRange (unit_no u))
    else (if is_zero ask.quantities then Some (ZeroSize (unit_no u))
    else (if not (is_most ask.most) then Some (MostRange (unit_no u)) else None))))

-- of the units from number u on
abbrev pub first_unit_fault : ℕ → ℕ → List Ask → Option JobFault
first_unit_fault resources u [] = None
first_unit_fault resources u (ask ∷ asks) = option_or (unit_fault resources u ask) (first_unit_fault resources (u + 1) asks)

abbrev pub job_fault : ℕ → List Ask → Option JobFault
job_fault resources asks =
    if nat_eq (length asks) 0 then Some NoUnits
    else (if nat_lt 8 (length asks) then Some TooManyUnits
    else first_unit_fault resources 0 asks)

-- the unit and the job that are made of it where nothing is
abbrev pub unit_asked : Ask → UnitRecord
unit_asked ask = record { priority = ask.priority; size = padded ask.quantities; most = ask.most }

abbrev pub job_asked : ℕ → ℕ → List Ask → JobRecord
job_asked number group asks = record { number = number; group = group; units = map unit_asked asks }

-- the fault is that one; want of memory may come at any time
abbrev pub IsFault : Option JobFault → JobFault → Type 0
IsFault fault NoUnits = fault ≡ Some NoUnits
IsFault fault TooManyUnits = fault ≡ Some TooManyUnits
IsFault fault (Dimensions u) = fault ≡ Some (Dimensions u)
IsFault fault (PriorityRange u) = fault ≡ Some (PriorityRange u)
IsFault fault (QuantityRange u) = fault ≡ Some (QuantityRange u)
IsFault fault (ZeroSize u) = fault ≡ Some (ZeroSize u)
IsFault fault (MostRange u) = fault ≡ Some (MostRange u)
IsFault fault OutOfMemory = Unit {0}

-- the job, exactly where there is no fault, and else the fault
abbrev pub IsMade : ℕ → ℕ → ℕ → List Ask → Result JobRecord JobFault → Type 0
IsMade number group resources asks (Ok job) = (job_fault resources asks ≡ None) × (job ≡ job_asked number group asks)
IsMade number group resources asks (Err fault) = IsFault (job_fault resources asks) fault
