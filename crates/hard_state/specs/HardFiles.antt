-- What a checkpoint stands for, and what the calls on it do.
use Rattle.std.specs.Prelude.{◌≡◌, ◌⊎◌, ℕ, ◌<◌, ◌≤◌, Bool, true, false, List, [], ◌∷◌, length, Option, Some, None, Result, Ok, Err, OnOk, IsOk, IfSome}
use Rattle.fuxi_io.specs.Disks.{Moment, Told, synced_moment, then_told, after_sync, LeavesAlways, WhereTold}
use Rattle.fuxi_terms.specs.Cluster.{is_valid_job}
use Rattle.fuxi_terms.specs.Jobs.{KnownJob, is_known}
use Rattle.fuxi_terms.specs.Limits.{most_records, most_jobs, most_machines}
use Rattle.spec_roles.specs.HardState.{HardState, HardEvent, Raise, Submission as Submitting, Finishing, Banning, Unbanning, hard_step, empty_hard}
use Rattle.spec_roles.specs.Refusals.{Refusal, NotRising, HardFull, Fenced, Known, NoJob, Ended, AlreadyBanned, NotBanned}
use Rattle.hard_state.specs.RecordBodies.{record_in}
use Rattle.hard_state.specs.declared.records.Record.{Record}
use Rattle.hard_state.specs.declared.records.Record.TheVariants.{Fence, Submission, Finish, Ban, Unban}
use Rattle.hard_state.specs.Gates.{IsSynced}
use Rattle.hard_state.specs.Checkpoints.{Opened, read_on, read_file, found_at, Closed as ClosedThere, Damaged as DamagedThere, Whole as WholeThere}
use Rattle.hard_state.specs.declared.jobs.Entry.{Entry}
use Rattle.hard_state.specs.declared.fault.HardFault.{HardFault}
use Rattle.hard_state.specs.declared.fault.HardFault.TheVariants.{Stale, Fenced as FencedFault, Known as KnownFault, NoJob as NoJobFault, Ended as EndedFault, AlreadyBanned as AlreadyBannedFault, NotBanned as NotBannedFault, Full, NotCheckpoint, DiskFault, OutOfMemory}
use Rattle.hard_state.specs.declared.state.Look.{Look}
use Rattle.hard_state.specs.declared.state.Look.TheVariants.{Closed, Damaged, Whole, OutOfMemory as NoMemory}

-- the step of the hard state that a record says, and by whom: a fence names its epoch, and the others are by whoever has the fence
abbrev pub event_of : Record → HardEvent
event_of (Fence epoch) = Raise
event_of (Submission job) = Submitting job
event_of (Finish app) = Finishing app.0
event_of (Ban machine) = Banning machine.0
event_of (Unban machine) = Unbanning machine.0

abbrev pub epoch_of : HardState → Record → ℕ
epoch_of h (Fence epoch) = epoch
epoch_of h (Submission job) = h.fence
epoch_of h (Finish app) = h.fence
epoch_of h (Ban machine) = h.fence
epoch_of h (Unban machine) = h.fence

abbrev pub made : Result HardState Refusal → Option HardState
made (Ok h) = Some h
made (Err refusal) = None

abbrev pub record_taken : HardState → Option Record → Option HardState
record_taken h None = None
record_taken h (Some r) = made (hard_step h (epoch_of h r) (event_of r))

-- what a body makes of a value, or None where it is the body of no record, or of one that is refused
unfoldable pub taken : HardState → List ℕ → Option HardState
taken h body = record_taken h (record_in body)

-- what is read from the first gate on, whatever the length
unfoldable pub reads_as : List ℕ → Result (Opened HardState) ℕ
reads_as file = read_on taken most_records 0 empty_hard file

abbrev pub value_of : Result (Opened HardState) ℕ → Result HardState ℕ
value_of (Ok o) = Ok o.value
value_of (Err offset) = Err offset

-- the hard state that a file stands for, or the offset of its first damaged record
unfoldable pub records_of : List ℕ → Result HardState ℕ
records_of file = value_of (read_file taken most_records empty_hard file)

-- what is kept of an open checkpoint: its value, the offset of its closed gate, and whether a writing met a fault of the disk
pub record Kept : Type 0 where
  pub value : HardState
  pub gate : ℕ
  pub broken : Bool

abbrev pub opened_as : Kept → Opened HardState
opened_as k = record { value = k.value; gate = k.gate }

-- the file stands for what is kept and has its closed gate there, and nothing is pending
pub record IsAtRest (k : Kept) (moment : Moment) : Type 0 where
  pub synced : IsSynced moment
  pub reads : reads_as moment.bytes ≡ Ok (opened_as k)

-- the file stands for the value before a step, or for the value that the step makes
abbrev pub IsBeforeOrAfter : HardState → Result HardState Refusal → List ℕ → Type 0
IsBeforeOrAfter before step file = (records_of file ≡ Ok before) ⊎ ((after : HardState) × (step ≡ Ok after) × (records_of file ≡ Ok after))

-- A writing from a checkpoint at rest: at each moment a crash leaves a file that stands for the value before or after the step. Once it is
-- answered the checkpoint is at rest again.
abbrev pub WritesStep : {E : Type 0} → Result HardState Refusal → Kept → Kept → Result (Unit {0}) E → Told → Told → Type 0
WritesStep step before after result old new = IsAtRest before old.now → LeavesAlways (IsBeforeOrAfter before.value step) old new × OnOk result (IsAtRest after new.now)

-- An opening begins with a sync. Where the file has no damaged record, at each moment from then on a crash leaves a file that stands for the
-- same value.
abbrev pub Opens : Told → Told → Type 0
Opens old new =
    (value : HardState) → records_of old.now.bytes ≡ Ok value
    → (new ≡ old) ⊎ LeavesAlways (λ file. records_of file ≡ Ok value) (then_told old (after_sync old.now)) new

-- a sync that is served; and a sync, served or not
abbrev pub SyncsAll : Told → Told → Type 0
SyncsAll old new = new ≡ then_told old (after_sync old.now)

abbrev pub Settles : Told → Told → Type 0
Settles old new = (new ≡ old) ⊎ SyncsAll old new

-- Where the disk told a file with a damaged record, that file is as it was, whatever is answered: at most it is synced.
abbrev pub KeepsDamaged : Option Told → Option Told → Type 0
KeepsDamaged old new = IfSome old (λ t. (offset : ℕ) → records_of t.now.bytes ≡ Err offset → WhereTold Settles old new)

-- A file of at most one byte is made one of a closed gate.
abbrev pub Begins : {A E : Type 0} → Result A E → Told → Told → Type 0
Begins result old new =
    IsSynced old.now → length old.now.bytes ≤ 1 → LeavesAlways (λ file. records_of file ≡ Ok empty_hard) old new × OnOk result (new.now ≡ synced_moment (0 ∷ []))

-- it gave what the file stood for, and left the checkpoint at rest
abbrev pub OpensAs : Kept → Told → Told → Type 0
OpensAs k old new = (records_of old.now.bytes ≡ Ok k.value) × IsAtRest k new.now

-- a record of the file is damaged
abbrev pub IsDamagedAt : ℕ → Told → Told → Type 0
IsDamagedAt offset old new = records_of old.now.bytes ≡ Err offset

-- a refusal is the first one of the step; a fault of the disk and want of memory come only where the step has none
abbrev pub Refuses : Result HardState Refusal → HardFault → Type 0
Refuses step (Stale fence) = step ≡ Err (NotRising fence)
Refuses step (FencedFault fence) = step ≡ Err (Fenced fence)
Refuses step KnownFault = step ≡ Err Known
Refuses step NoJobFault = step ≡ Err NoJob
Refuses step EndedFault = step ≡ Err Ended
Refuses step AlreadyBannedFault = step ≡ Err AlreadyBanned
Refuses step NotBannedFault = step ≡ Err NotBanned
Refuses step Full = step ≡ Err (HardFull most_records)
Refuses step (NotCheckpoint offset) = ⊥
Refuses step DiskFault = IsOk step
Refuses step OutOfMemory = IsOk step

-- the faults of an opening
abbrev pub IsOpeningFault : HardFault → Type 0
IsOpeningFault (NotCheckpoint offset) = Unit {0}
IsOpeningFault DiskFault = Unit {0}
IsOpeningFault OutOfMemory = Unit {0}
IsOpeningFault _ = ⊥

-- a job as it is kept, as the definitions have it
abbrev pub known_job : Entry → KnownJob
known_job entry = record { job = entry.job; ended = entry.ended }

-- what a record has to be, to be asked for by a master of this epoch
abbrev pub IsAskedBy : ℕ → Record → Type 0
IsAskedBy epoch (Fence own) = own ≡ epoch
IsAskedBy epoch (Submission job) = is_valid_job 8 job ≡ true
IsAskedBy epoch (Finish app) = Unit {0}
IsAskedBy epoch (Ban machine) = machine.0 < most_machines
IsAskedBy epoch (Unban machine) = Unit {0}

-- what is known of a record that is not refused
abbrev pub IsAllowed : HardState → Record → Type 0
IsAllowed h (Fence epoch) = Unit {0}
IsAllowed h (Submission job) = (is_valid_job 8 job ≡ true) × (is_known h.jobs job.number ≡ false)
IsAllowed h (Finish app) = (app.0 < most_jobs) × (is_known h.jobs app.0 ≡ true)
IsAllowed h (Ban machine) = machine.0 < most_machines
IsAllowed h (Unban machine) = machine.0 < most_machines

-- what was found at a gate, with the size of a whole record
abbrev pub IsFound : Look → HardState → HardState → List ℕ → Type 0
IsFound Closed old new bytes = (found_at taken old bytes ≡ ClosedThere) × (new ≡ old)
IsFound Damaged old new bytes = found_at taken old bytes ≡ DamagedThere
IsFound NoMemory old new bytes = Unit {0}
IsFound (Whole size) old new bytes = found_at taken old bytes ≡ WholeThere new size
