-- The body of a record of a checkpoint: what is written, and what is read.
use Rattle.std.specs.Prelude.{◌≡◌, ℕ, zero, suc, ◌+◌, ◌*◌, ◌^◌, ◌<◌, Bool, true, cond, nat_eq, nat_lt, ◌&&◌, ◌||◌, List, [], ◌∷◌, ◌++◌, length, take, drop, slice_index, Option, Some, None}
use Rattle.std.specs.Int.{to_be_bytes, from_be_bytes, w32, w64}
use Rattle.std.specs.List.{flat_map}
use Rattle.std.specs.Option.{option_map}
use Rattle.fuxi_terms.specs.Cluster.{JobRecord, UnitRecord, is_valid_job}
use Rattle.fuxi_terms.specs.Limits.{most_jobs, most_machines, greatest_count}
use Rattle.hard_state.specs.declared.records.Record.{Record}
use Rattle.hard_state.specs.declared.records.Record.TheVariants.{Fence, Submission, Finish, Ban, Unban}

-- a unit: its priority, its size as eight quantities of eight bytes, and its greatest number per machine
abbrev pub unit_bytes : UnitRecord → List ℕ
unit_bytes unit = unit.priority ∷ flat_map (to_be_bytes w64) unit.size ++ to_be_bytes w32 unit.most

abbrev pub job_bytes : JobRecord → List ℕ
job_bytes job = to_be_bytes w32 job.number ++ to_be_bytes w32 job.group ++ length job.units ∷ flat_map unit_bytes job.units

-- the version, which is 2 of a job, the kind, and what the kind asks for
abbrev pub body_of : Record → List ℕ
body_of (Fence epoch) = 1 ∷ 1 ∷ to_be_bytes w64 epoch
body_of (Submission job) = 2 ∷ 2 ∷ job_bytes job
body_of (Finish app) = 1 ∷ 3 ∷ to_be_bytes w32 app.0
body_of (Ban machine) = 1 ∷ 4 ∷ to_be_bytes w32 machine.0
body_of (Unban machine) = 1 ∷ 5 ∷ to_be_bytes w32 machine.0

-- its numbers are within the limits
abbrev pub IsWithinLimits : Record → Type 0
IsWithinLimits (Fence epoch) = epoch < 2 ^ 64
IsWithinLimits (Submission job) = is_valid_job 8 job ≡ true
IsWithinLimits (Finish app) = app.0 < most_jobs
IsWithinLimits (Ban machine) = machine.0 < most_machines
IsWithinLimits (Unban machine) = machine.0 < most_machines

-- numbers of eight bytes
abbrev pub quantities_in : List ℕ → List ℕ
quantities_in (a ∷ b ∷ c ∷ d ∷ e ∷ f ∷ g ∷ h ∷ bytes) = from_be_bytes w64 (a ∷ b ∷ c ∷ d ∷ e ∷ f ∷ g ∷ h ∷ []) ∷ quantities_in bytes
quantities_in bytes = []

-- A unit of version 1 ends with its size, and its number per machine is the greatest there is
abbrev pub unit_size : ℕ → ℕ
unit_size version = cond (nat_eq version 1) 65 69

abbrev pub most_in : ℕ → List ℕ → ℕ
most_in version bytes = cond (nat_eq version 1) greatest_count (from_be_bytes w32 (drop 65 bytes))

abbrev pub unit_in : ℕ → List ℕ → UnitRecord
unit_in version bytes = record { priority = slice_index bytes 0; size = quantities_in (take 64 (drop 1 bytes)); most = most_in version bytes }

-- so many units
abbrev pub units_in : ℕ → ℕ → List ℕ → List UnitRecord
units_in version zero bytes = []
units_in version (suc n) bytes = unit_in version bytes ∷ units_in version n (drop (unit_size version) bytes)

abbrev pub job_in : ℕ → List ℕ → JobRecord
job_in version bytes = record { number = from_be_bytes w32 bytes; group = from_be_bytes w32 (drop 4 bytes); units = units_in version (slice_index bytes 8) (drop 9 bytes) }

-- as many bytes as the number of units says, and a valid job
abbrev pub is_job : ℕ → List ℕ → Bool
is_job version bytes = nat_eq (length bytes) (9 + unit_size version * slice_index bytes 8) && is_valid_job 8 (job_in version bytes)

abbrev pub job_found : ℕ → List ℕ → Option JobRecord
job_found version bytes = cond (is_job version bytes) (Some (job_in version bytes)) None

-- an epoch of eight bytes
abbrev pub epoch_found : List ℕ → Option ℕ
epoch_found bytes = cond (nat_eq (length bytes) 8) (Some (from_be_bytes w64 bytes)) None

-- a number of four bytes that is below this
abbrev pub number_found : ℕ → List ℕ → Option ℕ
number_found most bytes = cond (nat_eq (length bytes) 4 && nat_lt (from_be_bytes w32 bytes) most) (Some (from_be_bytes w32 bytes)) None

abbrev pub finish : ℕ → Record
finish number = Finish (record { 0 = number })

abbrev pub ban : ℕ → Record
ban number = Ban (record { 0 = number })

abbrev pub unban : ℕ → Record
unban number = Unban (record { 0 = number })

-- a record of this kind may be of this version: a job of 1 or 2, and the others of 1
abbrev pub is_version : ℕ → ℕ → Bool
is_version version kind = nat_eq version 1 || (nat_eq version 2 && nat_eq kind 2)

-- by version and kind, what stands behind them
abbrev pub record_of_kind : ℕ → ℕ → List ℕ → Option Record
record_of_kind version kind bytes =
    cond (nat_eq kind 1) (option_map Fence (epoch_found bytes)) (
    cond (nat_eq kind 2) (option_map Submission (job_found version bytes)) (
    cond (nat_eq kind 3) (option_map finish (number_found most_jobs bytes)) (
    cond (nat_eq kind 4) (option_map ban (number_found most_machines bytes)) (
    cond (nat_eq kind 5) (option_map unban (number_found most_machines bytes)) None))))

-- the record of a body, or none where it is the body of none
unfoldable pub record_in : List ℕ → Option Record
record_in body = cond (is_version (slice_index body 0) (slice_index body 1)) (record_of_kind (slice_index body 0) (slice_index body 1) (drop 2 body)) None
