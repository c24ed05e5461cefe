-- What taking one line does, and what it leaves of the disk.
use Rattle.std.specs.Prelude.{◌≡◌, ◌⊎◌, ℕ, false, List, Option, Result, Ok, Err}
use Rattle.fuxi_io.specs.Causes.{TakesPart}
use Rattle.fuxi_io.specs.Disks.{Told, Leaves, WhereTold}
use Rattle.fuxi_io.specs.declared.status.Status.{Status}
use Rattle.fuxi_io.specs.declared.status.Status.TheVariants.{Done, Usage, BadInput, ReadFault, WriteFault, Limit, OutOfMemory, DiskFault, StaleEpoch, DamagedCheckpoint}
use Rattle.schedule_text.specs.declared.event.LineFault.{LineFault}
use Rattle.hard_state.specs.HardFiles.{IsAtRest}
use Rattle.input_lines.specs.Contents.{is_skipped}
use Rattle.input_lines.specs.LineProgress.{IsTaken, TakesLine as Takes}
use Rattle.input_lines.specs.LineRuns.{IsBad}
use Rattle.epoch_lease.specs.declared.event.LeaseEvent.{LeaseEvent}
use Rattle.epoch_lease.specs.declared.event.LeaseFault.{LeaseFault}
use Rattle.epoch_lease.specs.declared.event.LeaseFault.TheVariants.{NotCheckpoint, DiskFault as NoDisk, OutOfMemory as NoMemory}
use Rattle.epoch_lease.specs.Files.{KeptLease, Endures, OpensAs, lease_of}
use Rattle.epoch_lease.specs.Leases.{LeaseState, lease_step}
use Rattle.epoch_lease.specs.LeaseLines.{lease_event}
use Rattle.epoch_lease.specs.LeaseEnds.{IsGranted}
use Rattle.epoch_lease.specs.LeaseRuns.{lease_runner}

-- the status that a fault of a lease means
abbrev pub fault_status : LeaseFault → Status
fault_status (NotCheckpoint offset) = DamagedCheckpoint offset
fault_status NoDisk = DiskFault
fault_status NoMemory = OutOfMemory

-- what taking the line with this number made of the lease and wrote
abbrev pub TakesLine : List ℕ → ℕ → LeaseState → LeaseState → Result (Unit {0}) Status → Option (List ℕ) → Option (List ℕ) → Type 0
TakesLine line number s after (Ok done) w0 w = Takes {A = Unit {0}} lease_runner.says (λ x. after ≡ x) line number s (Ok done) w0 w
TakesLine line number s after (Err (BadInput n fault)) w0 w = (is_skipped line ≡ false) × (lease_runner.says s line ≡ IsBad fault) × (n ≡ number) × (after ≡ s) × (w ≡ w0)
TakesLine line number s after (Err WriteFault) w0 w = (is_skipped line ≡ false) × ((text : List ℕ) × IsTaken lease_runner.says (λ x. after ≡ x) line s text × TakesPart w0 w text)
TakesLine line number s after (Err OutOfMemory) w0 w = (is_skipped line ≡ false) × (after ≡ s) × (w ≡ w0)
TakesLine line number s after (Err DiskFault) w0 w = (is_skipped line ≡ false) × IsGranted line s × (after ≡ s) × (w ≡ w0)
TakesLine line number s after (Err Done) w0 w = ⊥
TakesLine line number s after (Err Usage) w0 w = ⊥
TakesLine line number s after (Err ReadFault) w0 w = ⊥
TakesLine line number s after (Err (Limit what kept)) w0 w = ⊥
TakesLine line number s after (Err (StaleEpoch fence)) w0 w = ⊥
TakesLine line number s after (Err (DamagedCheckpoint offset)) w0 w = ⊥

-- what a line's event makes of a lease
abbrev pub after_said : LeaseState → Result LeaseEvent LineFault → LeaseState
after_said s (Ok event) = (lease_step s event).state
after_said s (Err fault) = s

-- what a line leaves of the disk, from a file that stands for the lease with nothing pending
abbrev pub LeavesLine : List ℕ → Result (Unit {0}) Status → KeptLease → KeptLease → Told → Told → Type 0
LeavesLine line (Err DiskFault) before after old new =
    IsAtRest before.hard old.now → Leaves (λ file. OpensAs (lease_of before) file ⊎ OpensAs (after_said (lease_of before) (lease_event line)) file) new.now
LeavesLine line result before after old new = IsAtRest before.hard old.now → Endures after new.now

-- of a disk that told its moments at the start: its file stands now for what is kept, and nothing is pending
abbrev pub Rests : Option Told → KeptLease → Option Told → Type 0
Rests old k now = WhereTold (λ before t. Endures k t.now) old now
