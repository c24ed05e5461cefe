-- What follows of how a run can end.
use Rattle.std.proofs.Common.{◌≡◌, ◌≢◌, ℕ, ◌+◌, refl, subst, arith}
use Rattle.fuxi_io.specs.declared.lines.LineStop.{LineStop}
use Rattle.fuxi_io.specs.declared.lines.LineStop.TheVariants.{ReadFault as ReadStop, LineTooLong as LongStop, TooManyLines as ManyStop}
use Rattle.fuxi_io.specs.declared.status.InputFault.{InputFault}
use Rattle.fuxi_io.specs.declared.status.InputFault.TheVariants.{LineTooLong}
use Rattle.fuxi_io.specs.declared.status.LimitOf.{LimitOf}
use Rattle.fuxi_io.specs.declared.status.LimitOf.TheVariants.{Lines}
use Rattle.fuxi_io.specs.declared.status.Status.{Status}
use Rattle.fuxi_io.specs.declared.status.Status.TheVariants.{Done, Usage, BadInput, ReadFault, WriteFault, Limit, OutOfMemory, DiskFault, StaleEpoch, DamagedCheckpoint}
use Rattle.schedule_text.specs.declared.event.LineFault.{LineFault}
use Rattle.schedule_text.specs.declared.event.LineFault.TheVariants.{UnknownWord as LineUnknownWord, WrongCount as LineWrongCount, BadNumber as LineBadNumber, Range as LineRange, OutOfMemory as LineOutOfMemory}
use Rattle.input_lines.specs.InputStatuses.{event_fault, event_status, stop_status}
use Rattle.input_lines.specs.RunEnds.{Faults, Failed, Served, AllServed, Causes, no_causes, CanEnd}

-- where the status is this one, what is said of this one
pub ends_so : (causes : Causes) (faults : Faults) (status this : Status) → status ≡ this → CanEnd causes faults status → CanEnd causes faults this
ends_so causes faults status this is ends = subst (λ s. CanEnd causes faults s) is ends

-- a count of faults is as it was, where the status is not the fault of it
pub source_served : (causes : Causes) (faults : Faults) (status : Status) → CanEnd causes faults status → status ≢ ReadFault → Served faults.source
source_served causes faults Done ends other = ends.0
source_served causes faults Usage ends other = ends.1.0
source_served causes faults (BadInput line fault) ends other = ends.1.0
source_served causes faults ReadFault ends other = absurd (other refl)
source_served causes faults WriteFault ends other = ends.0
source_served causes faults (Limit what kept) ends other = ends.1.0
source_served causes faults OutOfMemory ends other = ends.1.0
source_served causes faults DiskFault ends other = ends.0
source_served causes faults (StaleEpoch fence) ends other = ends.1.0
source_served causes faults (DamagedCheckpoint offset) ends other = ends.1.0

pub output_served : (causes : Causes) (faults : Faults) (status : Status) → CanEnd causes faults status → status ≢ WriteFault → Served faults.output
output_served causes faults Done ends other = ends.1
output_served causes faults Usage ends other = ends.1.1
output_served causes faults (BadInput line fault) ends other = ends.1.1
output_served causes faults ReadFault ends other = ends.1
output_served causes faults WriteFault ends other = absurd (other refl)
output_served causes faults (Limit what kept) ends other = ends.1.1
output_served causes faults OutOfMemory ends other = ends.1.1
output_served causes faults DiskFault ends other = ends.1
output_served causes faults (StaleEpoch fence) ends other = ends.1.1
output_served causes faults (DamagedCheckpoint offset) ends other = ends.1.1

pub disk_served : (causes : Causes) (faults : Faults) (status : Status) → CanEnd causes faults status → status ≢ DiskFault → Served faults.disk
disk_served causes faults Done ends other = ends.2
disk_served causes faults Usage ends other = ends.1.2
disk_served causes faults (BadInput line fault) ends other = ends.1.2
disk_served causes faults ReadFault ends other = ends.2
disk_served causes faults WriteFault ends other = ends.2
disk_served causes faults (Limit what kept) ends other = ends.1.2
disk_served causes faults OutOfMemory ends other = ends.1.2
disk_served causes faults DiskFault ends other = absurd (other refl)
disk_served causes faults (StaleEpoch fence) ends other = ends.1.2
disk_served causes faults (DamagedCheckpoint offset) ends other = ends.1.2

-- a count of faults over a whole run is as it is over its last step
pub record Carries (step whole : ℕ × ℕ) : Type 0 where
  pub failed : Failed step → Failed whole
  pub served : Served step → Served whole

pub carries_same : (count : ℕ × ℕ) → Carries count count
carries_same count = record { failed = λ f. f; served = λ s. s }

-- no call failed before the step
pub carries_behind : (start before now : ℕ) → before ≡ start → Carries (before, now) (start, now)
carries_behind start before now is = record { failed = λ f. subst (λ b. Failed (b, now)) is f; served = λ s. subst (λ b. Served (b, now)) is s }

-- the step does not use it
pub carries_unused : (start now : ℕ) → now ≡ start → Carries (0, 0) (start, now)
carries_unused start now is = record { failed = λ f. absurd (omega (arith, f)); served = λ s. is }

-- what has happened of some causes has happened of others
pub record Within (some others : Causes) : Type 0 where
  pub usage : some.usage → others.usage
  pub bad : (line : ℕ) (fault : InputFault) → some.bad line fault → others.bad line fault
  pub limit : (what : LimitOf) (kept : ℕ) → some.limit what kept → others.limit what kept
  pub memory : some.memory → others.memory
  pub stale : (fence : ℕ) → some.stale fence → others.stale fence
  pub damaged : (offset : ℕ) → some.damaged offset → others.damaged offset

-- a run ends as its last step
module _ (some others : Causes) (step whole : Faults) (within : Within some others) (source : Carries step.source whole.source) (output : Carries step.output whole.output) (disk : Carries step.disk whole.disk) where
  all_served : AllServed step → AllServed whole
  all_served s = (source.served s.0, output.served s.1, disk.served s.2)

  pub ends_as : (status : Status) → CanEnd some step status → CanEnd others whole status
  ends_as Done e = all_served e
  ends_as Usage e = (within.usage e.0, all_served e.1)
  ends_as (BadInput line fault) e = (within.bad line fault e.0, all_served e.1)
  ends_as ReadFault e = (source.failed e.0, output.served e.1, disk.served e.2)
  ends_as WriteFault e = (source.served e.0, output.failed e.1, disk.served e.2)
  ends_as (Limit what kept) e = (within.limit what kept e.0, all_served e.1)
  ends_as OutOfMemory e = (within.memory e.0, all_served e.1)
  ends_as DiskFault e = (source.served e.0, output.served e.1, disk.failed e.2)
  ends_as (StaleEpoch fence) e = (within.stale fence e.0, all_served e.1)
  ends_as (DamagedCheckpoint offset) e = (within.damaged offset e.0, all_served e.1)

-- none, and the same ones
pub within_any : (causes : Causes) → Within no_causes causes
within_any causes = record { usage = λ c. absurd c; bad = λ line fault c. absurd c; limit = λ what kept c. absurd c; memory = λ c. absurd c; stale = λ fence c. absurd c; damaged = λ offset c. absurd c }

pub within_same : (causes : Causes) → Within causes causes
within_same causes = record { usage = λ c. c; bad = λ line fault c. c; limit = λ what kept c. c; memory = λ c. c; stale = λ fence c. c; damaged = λ offset c. c }

-- a line that is no event
pub event_ends : (causes : Causes) (faults : Faults) (fault : LineFault) (number : ℕ) → ((why : InputFault) → causes.bad number why) → causes.memory → AllServed faults → CanEnd causes faults (event_status fault number)
event_ends causes faults LineUnknownWord number bad memory served = (bad (event_fault LineUnknownWord), served)
event_ends causes faults LineWrongCount number bad memory served = (bad (event_fault LineWrongCount), served)
event_ends causes faults (LineBadNumber place) number bad memory served = (bad (event_fault (LineBadNumber place)), served)
event_ends causes faults (LineRange place) number bad memory served = (bad (event_fault (LineRange place)), served)
event_ends causes faults LineOutOfMemory number bad memory served = (memory, served)

-- the reader stopped
pub stop_ends : (causes : Causes) (faults : Faults) (stop : LineStop) (number : ℕ) → causes.bad (number + 1) LineTooLong → (stop ≡ ManyStop → causes.limit Lines number) → (stop ≡ ReadStop → Failed faults.source) → (stop ≢ ReadStop → Served faults.source)
    → Served faults.output → Served faults.disk → CanEnd causes faults (stop_status stop number)
stop_ends causes faults ReadStop number bad many failed served output disk = (failed refl, output, disk)
stop_ends causes faults LongStop number bad many failed served output disk = (bad, (served (λ is. cc), output, disk))
stop_ends causes faults ManyStop number bad many failed served output disk = (many refl, (served (λ is. cc), output, disk))
