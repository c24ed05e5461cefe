-- How a run can end: what has to have happened for each status, and that a call that failed is told as its own.
use Rattle.std.specs.Prelude.{◌≡◌, ℕ, Result, Ok, Err}
use Rattle.fuxi_io.specs.Causes.{Rose}
use Rattle.fuxi_io.specs.declared.status.InputFault.{InputFault}
use Rattle.fuxi_io.specs.declared.status.LimitOf.{LimitOf}
use Rattle.fuxi_io.specs.declared.status.Status.{Status}
use Rattle.fuxi_io.specs.declared.status.Status.TheVariants.{Done, Usage, BadInput, ReadFault, WriteFault, Limit, OutOfMemory, DiskFault, StaleEpoch, DamagedCheckpoint}

-- The counts of faults of the source, the output and the disk, each before a run and behind it. Of one that a run does not use both are 0, so that it
-- cannot have failed
pub record Faults : Type 0 where
  pub source : ℕ × ℕ
  pub output : ℕ × ℕ
  pub disk : ℕ × ℕ

-- a call failed
abbrev pub Failed : ℕ × ℕ → Type 0
Failed count = Rose count.0 count.1

-- no call failed
abbrev pub Served : ℕ × ℕ → Type 0
Served count = count.1 ≡ count.0

abbrev pub AllServed : Faults → Type 0
AllServed faults = Served faults.source × Served faults.output × Served faults.disk

-- what has happened where a run ends for another cause than a fault; the empty type where it has no such end
pub record Causes : Type 1 where
  pub usage : Type 0
  pub bad : (line : ℕ) (fault : InputFault) → Type 0
  pub limit : (what : LimitOf) (kept : ℕ) → Type 0
  pub memory : Type 0
  pub stale : (fence : ℕ) → Type 0
  pub damaged : (offset : ℕ) → Type 0

-- a run that nothing but a fault can end early
abbrev pub no_causes : Causes
no_causes = record { usage = ⊥; bad = λ line fault. ⊥; limit = λ what kept. ⊥; memory = ⊥; stale = λ fence. ⊥; damaged = λ offset. ⊥ }

-- a run of these causes and faults can end with this status
abbrev pub CanEnd : Causes → Faults → Status → Type 0
CanEnd causes faults Done = AllServed faults
CanEnd causes faults Usage = causes.usage × AllServed faults
CanEnd causes faults (BadInput line fault) = causes.bad line fault × AllServed faults
CanEnd causes faults ReadFault = Failed faults.source × Served faults.output × Served faults.disk
CanEnd causes faults WriteFault = Served faults.source × Failed faults.output × Served faults.disk
CanEnd causes faults (Limit what kept) = causes.limit what kept × AllServed faults
CanEnd causes faults OutOfMemory = causes.memory × AllServed faults
CanEnd causes faults DiskFault = Served faults.source × Served faults.output × Failed faults.disk
CanEnd causes faults (StaleEpoch fence) = causes.stale fence × AllServed faults
CanEnd causes faults (DamagedCheckpoint offset) = causes.damaged offset × AllServed faults

-- a step of such a run goes on, or stops it with a status
abbrev pub CanStop : {A : Type 0} → Causes → Faults → Result A Status → Type 0
CanStop causes faults (Ok done) = AllServed faults
CanStop causes faults (Err status) = CanEnd causes faults status
