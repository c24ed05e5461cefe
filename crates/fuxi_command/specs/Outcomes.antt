-- What a command made of what it was handed, and with which status.
use Rattle.std.specs.Prelude.{◌≡◌, ◌≢◌, ◌⊎◌, ◌↔◌, ℕ, List, Option, Some, Ok, Err, IfSome, false}
use Rattle.fuxi_io.specs.Causes.{Rose}
use Rattle.fuxi_io.specs.Disks.{Told as DiskTold}
use Rattle.fuxi_io.specs.declared.status.LimitOf.{LimitOf}
use Rattle.fuxi_io.specs.declared.status.LimitOf.TheVariants.{Lines}
use Rattle.fuxi_io.specs.declared.status.Status.{Status}
use Rattle.fuxi_io.specs.declared.status.Status.TheVariants.{Done, Usage, ReadFault, WriteFault, Limit, OutOfMemory, DiskFault, StaleEpoch, DamagedCheckpoint}
use Rattle.fuxi_terms.specs.Limits.{most_lines}
use Rattle.schedule_replay.specs.ScheduleRuns.{read_from, Ended}
use Rattle.storm_run.specs.StormRuns.{StormEnded}
use Rattle.storm_run.specs.Summaries.{storm_of}
use Rattle.spec_roles.specs.HardState.{HardState}
use Rattle.hard_state.specs.HardFiles.{KeepsDamaged, records_of}
use Rattle.epoch_lease.specs.LeaseEnds.{LeaseEnded}
use Rattle.input_lines.specs.LineRuns.{AtEnd}
use Rattle.epoch_lease.specs.LeaseRuns.{run_of}
use Rattle.work_plan.specs.AgentWithApps.{empty_world as empty_work}
use Rattle.work_plan.specs.WorkLineRuns.{Ended as WorkEnded, run_from as work_run_from, run_of as work_run_of}
use Rattle.fuxi_node.specs.declared.kind.NodeKind.{NodeKind}
use Rattle.fuxi_node.specs.NodeInputs.{HasNoCluster, InputEnded, InputEndsBy, IsDiskless, LeavesDisk, MayStart, TellsDisk, ending_of, status_at}
use Rattle.fuxi_io.specs.Doors.{Told, WhereTold}
use Rattle.fuxi_command.specs.CommandWords.{Lease, Node, Replay, Storm, Work, command_of, has_file, is_command, is_node}

-- what an input has left, what an output took, what a disk and a door told, and how many calls of each failed
pub record Seen : Type 0 where
  pub left : Option (List ℕ)
  pub took : Option (List ℕ)
  pub disk : Option DiskTold
  pub door : Option Told
  pub reads_failed : ℕ
  pub writes_failed : ℕ
  pub disk_failed : ℕ
  pub door_failed : ℕ

abbrev pub seen : Option (List ℕ) → Option (List ℕ) → Option DiskTold → Option Told → ℕ → ℕ → ℕ → ℕ → Seen
seen left took disk door reads writes disks doors =
    record { left = left; took = took; disk = disk; door = door; reads_failed = reads; writes_failed = writes; disk_failed = disks; door_failed = doors }

-- no call failed of the input, the output and the disk, but where the status is the fault of it
abbrev pub TellsFaults : Status → Seen → Seen → Type 0
TellsFaults status old new = (status ≢ ReadFault → new.reads_failed ≡ old.reads_failed) × (status ≢ WriteFault → new.writes_failed ≡ old.writes_failed) × (status ≢ DiskFault → new.disk_failed ≡ old.disk_failed)

-- what a status of a lease says of the file at the start
pub record TellsLease (status : Status) (disk : Option DiskTold) : Type 0 where
  pub damaged : (offset : ℕ) → status ≡ DamagedCheckpoint offset → IfSome disk (λ t. records_of t.now.bytes ≡ Err offset)
  pub limit : (what : LimitOf) (kept : ℕ) → status ≡ Limit what kept → what ≡ Lines
  pub fresh : (fence : ℕ) → status ≡ StaleEpoch fence → ⊥

-- By the words and the status, from what was seen before to what is seen now. That one of the four is as it was is said of itself, since not all of it is
-- seen
pub record IsOutcome (words : List (List ℕ)) (status : Status) (input_stays output_stays disk_stays door_stays : Type 0) (old new : Seen) : Type 0 where
  pub usage : status ≡ Usage ↔ (is_command words ≡ false)
  pub unused : status ≡ Usage → output_stays × input_stays
  pub read : status ≡ ReadFault → Rose old.reads_failed new.reads_failed
  pub write : status ≡ WriteFault → Rose old.writes_failed new.writes_failed
  pub faults : TellsFaults status old new
  pub keeps : KeepsDamaged old.disk new.disk
  pub limit : (kept : ℕ) → status ≡ Limit Lines kept → kept ≡ most_lines
  pub replay : command_of words ≡ Some Replay → IfSome old.left (λ bytes. Ended (read_from 0) bytes status new.left old.took new.took)
  pub storm : (seed steps : ℕ) → command_of words ≡ Some (Storm seed steps) → input_stays × StormEnded (storm_of seed steps) status old.took new.took
  pub node : (kind : NodeKind) (addr : List ℕ) → command_of words ≡ Some (Node kind addr) → IfSome old.left (λ bytes.
      WhereTold (InputEnded kind addr old.disk new.disk bytes status new.left old.took new.took old.door_failed new.door_failed) old.door new.door)
  pub places : (kind : NodeKind) (addr : List ℕ) → command_of words ≡ Some (Node kind addr) → IfSome old.left (λ bytes. InputEndsBy kind bytes status new.left)
  pub complete : (kind : NodeKind) (addr : List ℕ) → command_of words ≡ Some (Node kind addr) → (bytes : List ℕ) → old.left ≡ Some bytes → MayStart kind old.disk
      → (Rose old.reads_failed new.reads_failed → ⊥) → (Rose old.writes_failed new.writes_failed → ⊥) → (Rose old.disk_failed new.disk_failed → ⊥) → (status ≡ status_at (ending_of kind bytes)) ⊎ (status ≡ OutOfMemory)
  pub stays : (kind : NodeKind) (addr : List ℕ) → command_of words ≡ Some (Node kind addr) → LeavesDisk kind status old.disk new.disk
  pub unopened : (kind : NodeKind) (addr : List ℕ) → command_of words ≡ Some (Node kind addr) → (bytes : List ℕ) → old.left ≡ Some bytes → HasNoCluster bytes → disk_stays
  pub no_door : is_node (command_of words) ≡ false → door_stays
  pub no_file : has_file (command_of words) ≡ false → disk_stays
  pub diskless : has_file (command_of words) ≡ false → IsDiskless status
  pub disk : status ≡ DiskFault → Rose old.disk_failed new.disk_failed
  pub told : (kind : NodeKind) (addr : List ℕ) → command_of words ≡ Some (Node kind addr) → TellsDisk kind status old.disk
  pub lease : command_of words ≡ Some Lease → IfSome old.left (λ bytes. LeaseEnded bytes status new.left old.took new.took old.disk new.disk)
  pub lease_told : command_of words ≡ Some Lease → TellsLease status old.disk
  pub lease_complete : command_of words ≡ Some Lease → (bytes : List ℕ) (t : DiskTold) (value : HardState) → old.left ≡ Some bytes → old.disk ≡ Some t → records_of t.now.bytes ≡ Ok value → (run_of value bytes).ending ≡ AtEnd
      → (Rose old.reads_failed new.reads_failed → ⊥) → (Rose old.writes_failed new.writes_failed → ⊥) → (Rose old.disk_failed new.disk_failed → ⊥) → (status ≡ Done) ⊎ (status ≡ OutOfMemory)
  pub work : command_of words ≡ Some Work → IfSome old.left (λ bytes. WorkEnded (work_run_from 0 empty_work) bytes status new.left old.took new.took)
  pub work_complete : command_of words ≡ Some Work → (bytes : List ℕ) → old.left ≡ Some bytes → (work_run_of bytes).ending ≡ AtEnd → (Rose old.reads_failed new.reads_failed → ⊥) → (Rose old.writes_failed new.writes_failed → ⊥) → (status ≡ Done) ⊎ (status ≡ OutOfMemory)
