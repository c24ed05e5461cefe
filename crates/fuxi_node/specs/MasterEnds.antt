-- How a node of a master ends.
use Rattle.std.specs.Prelude.{◌≡◌, ◌⊎◌, ℕ, ◌≤◌, ⊤, List, length, Option, Some, IfSome, Result, Ok, Err}
use Rattle.std.specs.Io.KnownBytes.{Consumes}
use Rattle.fuxi_io.specs.Disks.{Told as Moments, Leaves, WhereTold as WhereMoments}
use Rattle.fuxi_io.specs.Reading.{read_ahead}
use Rattle.fuxi_io.specs.declared.status.LimitOf.TheVariants.{Lines, Packets, Bytes, Records, Calls}
use Rattle.fuxi_io.specs.declared.status.Status.{Status}
use Rattle.fuxi_io.specs.declared.status.Status.TheVariants.{Done, Usage, BadInput, ReadFault, WriteFault, Limit, OutOfMemory, DiskFault, StaleEpoch, DamagedCheckpoint}
use Rattle.fuxi_terms.specs.Limits.{most_records}
use Rattle.spec_roles.specs.HardState.{HardState, Raise, hard_step}
use Rattle.spec_roles.specs.Refusals.{Refusal, NotRising, HardFull}
use Rattle.hard_state.specs.HardFiles.{SyncsAll, records_of}
use Rattle.hard_state.specs.declared.fault.HardFault.{HardFault}
use Rattle.hard_state.specs.declared.fault.HardFault.TheVariants.{Stale, Fenced, Known, NoJob, Ended as HasEnded, AlreadyBanned, NotBanned, Full, NotCheckpoint, DiskFault as NoDisk, OutOfMemory as NoMemory}
use Rattle.node_parties.specs.OpenedMasters.{Starts}
use Rattle.fuxi_io.specs.Doors.{Told}
use Rattle.node_core.specs.Roles.{Role, OfAgent, OfApp, OfMaster}
use Rattle.fuxi_node.specs.declared.taking.DiskFailed.{DiskFailed}
use Rattle.fuxi_node.specs.NodeEnds.{Start, Ended}

-- a file stands for the hard state of the party, where that is a master
abbrev pub FileStands : Role → List ℕ → Type 0
FileStands (OfAgent r) file = ⊤
FileStands (OfApp r) file = ⊤
FileStands (OfMaster h r) file = records_of file ≡ Ok h

-- so does the file of the disk with these moments, and whatever file a crash leaves
pub record HasFile (r : Role) (t : Moments) : Type 0 where
  pub reads : FileStands r t.now.bytes
  pub leaves : Leaves (FileStands r) t.now

abbrev pub KeepsFile : Option Moments → Option Moments → Role → Type 0
KeepsFile disk later r = WhereMoments (λ old now. HasFile r now) disk later

-- whatever file a crash leaves stands for the hard state of the party before a line or of the one behind it
abbrev pub KeepsEither : Option Moments → Option Moments → Role → Role → Type 0
KeepsEither disk later before after = WhereMoments (λ old now. Leaves (λ file. FileStands before file ⊎ FileStands after file) now.now) disk later

-- the disk, where it tells its file, had the checkpoint of a hard state of which the raise of the fence to the epoch makes this one
pub record IsRaisedFrom (epoch : ℕ) (disk : Option Moments) (h : HardState) : Type 0 where
  pub before : HardState
  pub reads : IfSome disk (λ t. records_of t.now.bytes ≡ Ok before)
  pub step : hard_step before epoch Raise ≡ Ok h

-- the file stands for a hard state that refuses the epoch, for this reason
pub record RefusesEpoch (epoch : ℕ) (why : Refusal) (t : Moments) : Type 0 where
  pub before : HardState
  pub reads : records_of t.now.bytes ≡ Ok before
  pub refuses : hard_step before epoch Raise ≡ Err why

-- what a status says of the file with which the node began
abbrev pub TellsFile : ℕ → Status → Option Moments → Type 0
TellsFile epoch (DamagedCheckpoint offset) disk = IfSome disk (λ t. records_of t.now.bytes ≡ Err offset)
TellsFile epoch (StaleEpoch fence) disk = IfSome disk (RefusesEpoch epoch (NotRising fence))
TellsFile epoch (Limit Records kept) disk = (kept ≡ most_records) × IfSome disk (RefusesEpoch epoch (HardFull most_records))
TellsFile epoch (Limit Lines kept) disk = ⊤
TellsFile epoch (Limit Packets kept) disk = ⊤
TellsFile epoch (Limit Bytes kept) disk = ⊤
TellsFile epoch (Limit Calls kept) disk = ⊤
TellsFile epoch Done disk = ⊤
TellsFile epoch Usage disk = ⊤
TellsFile epoch (BadInput line fault) disk = ⊤
TellsFile epoch ReadFault disk = ⊤
TellsFile epoch WriteFault disk = ⊤
TellsFile epoch OutOfMemory disk = ⊤
TellsFile epoch DiskFault disk = ⊤

-- What a status says of the file of a master that did not get to its lines, from what the disk told at the start to what it tells at the end. A file with a
-- damaged record was synced and no more; of one that refuses the epoch a crash leaves what stands for the same.
abbrev pub LeavesFile : ℕ → Status → Option Moments → Option Moments → Type 0
LeavesFile epoch (DamagedCheckpoint offset) disk later = WhereMoments SyncsAll disk later
LeavesFile epoch (StaleEpoch fence) disk later = WhereMoments (Starts epoch) disk later
LeavesFile epoch (Limit Records kept) disk later = WhereMoments (Starts epoch) disk later
LeavesFile epoch (Limit Lines kept) disk later = ⊤
LeavesFile epoch (Limit Packets kept) disk later = ⊤
LeavesFile epoch (Limit Bytes kept) disk later = ⊤
LeavesFile epoch (Limit Calls kept) disk later = ⊤
LeavesFile epoch Done disk later = ⊤
LeavesFile epoch Usage disk later = ⊤
LeavesFile epoch (BadInput line fault) disk later = ⊤
LeavesFile epoch ReadFault disk later = ⊤
LeavesFile epoch WriteFault disk later = ⊤
LeavesFile epoch OutOfMemory disk later = ⊤
LeavesFile epoch DiskFault disk later = ⊤

-- the statuses of a master that does not start
abbrev pub IsStartStatus : Status → Type 0
IsStartStatus DiskFault = ⊤
IsStartStatus (DamagedCheckpoint offset) = ⊤
IsStartStatus (StaleEpoch fence) = ⊤
IsStartStatus (Limit Records kept) = ⊤
IsStartStatus (Limit Lines kept) = ⊥
IsStartStatus (Limit Packets kept) = ⊥
IsStartStatus (Limit Bytes kept) = ⊥
IsStartStatus (Limit Calls kept) = ⊥
IsStartStatus OutOfMemory = ⊤
IsStartStatus Done = ⊥
IsStartStatus Usage = ⊥
IsStartStatus (BadInput line fault) = ⊥
IsStartStatus ReadFault = ⊥
IsStartStatus WriteFault = ⊥

-- why it does not start, as its status; a start has no other fault
abbrev pub start_status : HardFault → Status
start_status (Stale fence) = StaleEpoch fence
start_status (NotCheckpoint offset) = DamagedCheckpoint offset
start_status Full = Limit Records most_records
start_status NoDisk = DiskFault
start_status NoMemory = OutOfMemory
start_status (Fenced fence) = OutOfMemory
start_status Known = OutOfMemory
start_status NoJob = OutOfMemory
start_status HasEnded = OutOfMemory
start_status AlreadyBanned = OutOfMemory
start_status NotBanned = OutOfMemory

-- the status of a run: a disk that failed has one too
abbrev pub status_of : Result Status DiskFailed → Status
status_of (Ok status) = status
status_of (Err failed) = DiskFault

-- of these bytes only a few were read
pub record ReadsAhead (bytes : List ℕ) (left : Option (List ℕ)) : Type 0 where
  pub ahead : List ℕ
  pub gave : Consumes (Some bytes) left ahead
  pub few : length ahead ≤ read_ahead

-- It did not start: of the input no line was taken, nothing was written, and the door was left alone. A crash leaves a file that stands for what it stood for
-- before, or for that with the fence at the epoch.
pub record StaysOut (epoch : ℕ) (disk later : Option Moments) (bytes : List ℕ) (status : Status) (left w0 w : Option (List ℕ)) (old new : Told) : Type 0 where
  pub is : IsStartStatus status
  pub unread : ReadsAhead bytes left
  pub unwritten : w ≡ w0
  pub unmet : new ≡ old
  pub leaves : WhereMoments (Starts epoch) disk later

-- It started with this hard state, and its run ended so. At each end the file, where the disk told it at the start, stands for the hard state of the run over
-- the lines taken, and so does whatever a crash leaves of it; where the disk failed or memory lacked, the line at which it did may count as taken or not.
pub record RunsFrom (epoch : ℕ) (start : HardState → Start) (disk later : Option Moments) (bytes : List ℕ) (status : Status) (left w0 w : Option (List ℕ)) (before now : ℕ) (old new : Told) : Type 0 where
  pub hard : HardState
  pub raised : IsRaisedFrom epoch disk hard
  pub outcome : Result Status DiskFailed
  pub is : status ≡ status_of outcome
  pub ran : Ended (KeepsFile disk later) (KeepsEither disk later) (start hard) bytes outcome left w0 w before now old new

-- what a node of a master did that ended with this status; disk, later: the moments of its disk at the start and at the end, where it tells them
abbrev pub MasterEnded : ℕ → (HardState → Start) → Option Moments → Option Moments → List ℕ → Status → Option (List ℕ) → Option (List ℕ) → Option (List ℕ) → ℕ → ℕ → Told → Told → Type 0
MasterEnded epoch start disk later bytes status left w0 w before now old new =
    StaysOut epoch disk later bytes status left w0 w old new ⊎ RunsFrom epoch start disk later bytes status left w0 w before now old new
