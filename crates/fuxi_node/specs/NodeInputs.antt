-- A node over a whole input: what it does with the line that describes the cluster, and behind it.
use Rattle.std.specs.Prelude.{◌≡◌, ◌⊎◌, ℕ, ◌<◌, ◌≤◌, ⊤, Bool, true, cond, nat_lt, List, length, Option, Some, Ok}
use Rattle.fuxi_io.specs.Disks.{Told as Moments}
use Rattle.fuxi_io.specs.Lines.{lines_of}
use Rattle.fuxi_io.specs.declared.status.InputFault.TheVariants.{NoMachine}
use Rattle.fuxi_io.specs.declared.status.LimitOf.TheVariants.{Lines, Packets, Bytes, Records, Calls}
use Rattle.fuxi_io.specs.declared.status.Status.{Status}
use Rattle.fuxi_io.specs.declared.status.Status.TheVariants.{Done, Usage, BadInput, ReadFault, WriteFault, Limit, OutOfMemory, DiskFault, StaleEpoch, DamagedCheckpoint}
use Rattle.fuxi_terms.specs.Cluster.{ClusterRecord}
use Rattle.fuxi_terms.specs.Limits.{most_jobs, most_machines, most_units}
use Rattle.spec_roles.specs.HardState.{HardState, Raise, hard_step}
use Rattle.hard_state.specs.HardFiles.{records_of}
use Rattle.input_lines.specs.Openings.{Opening, Opens, BadAt, TooMany, opening_from, HasCluster, StopsBefore}
use Rattle.fuxi_io.specs.Doors.{Told}
use Rattle.fuxi_node.specs.NodeEnds.{Ended, EndsBy}
use Rattle.fuxi_node.specs.NodeRuns.{Ending, AtEnd, AtBadLine, AtLimit, ending_from}
use Rattle.fuxi_node.specs.NodeStarts.{agent_start, app_start, master_start}
use Rattle.fuxi_node.specs.MasterEnds.{LeavesFile, MasterEnded, ReadsAhead, TellsFile}
use Rattle.fuxi_node.specs.declared.kind.NodeKind.{NodeKind}
use Rattle.fuxi_node.specs.declared.kind.NodeKind.TheVariants.{Master, Agent, App}

-- its numbers are within the limits
abbrev pub IsKind : NodeKind → Type 0
IsKind (Master epoch) = 0 < epoch
IsKind (Agent m boot) = (m.0 < most_machines) × (0 < boot)
IsKind (App a boot units) = (a.0 < most_jobs) × (0 < boot) × (units ≤ most_units)

-- the cluster has its machine, where it is an agent
abbrev pub IsThere : NodeKind → ClusterRecord → Type 0
IsThere (Master epoch) c = ⊤
IsThere (Agent m boot) c = m.0 < length c.machines
IsThere (App a boot units) c = ⊤

-- an agent whose machine the cluster has not: that is told of the line of the cluster, and nothing else was done
pub record LacksMachine (c : ClusterRecord) (m number : ℕ) (bytes : List ℕ) (status : Status) (left w0 w : Option (List ℕ)) (old new : Told) : Type 0 where
  pub lacks : length c.machines ≤ m
  pub is : status ≡ BadInput number NoMachine
  pub unread : ReadsAhead bytes left
  pub unwritten : w ≡ w0
  pub unmet : new ≡ old

-- What a node did behind the line of its cluster, by the status that it ended with. Behind: the cluster, how many lines go up to its line, and the
-- bytes behind it. disk, later: the moments of the disk at the start and at the end, where it tells them.
abbrev pub NodeEnded : NodeKind → List ℕ → Option Moments → Option Moments → ClusterRecord → ℕ → List ℕ → Status → Option (List ℕ) → Option (List ℕ) → Option (List ℕ) → ℕ → ℕ → Told → Told → Type 0
NodeEnded (Master epoch) addr disk later c number bytes status left w0 w before now old new =
    MasterEnded epoch (master_start c epoch addr number) disk later bytes status left w0 w before now old new
NodeEnded (Agent m boot) addr disk later c number bytes status left w0 w before now old new =
    ((m.0 < length c.machines) × Ended (λ q. ⊤) (λ q p. ⊤) (agent_start c m.0 boot addr number) bytes (Ok status) left w0 w before now old new)
    ⊎ LacksMachine c m.0 number bytes status left w0 w old new
NodeEnded (App a boot units) addr disk later c number bytes status left w0 w before now old new =
    Ended (λ q. ⊤) (λ q p. ⊤) (app_start c a.0 units boot addr number) bytes (Ok status) left w0 w before now old new

-- it ended at the line of the cluster or before it, nothing was written, and its disk was left alone
pub record EndsBefore (disk later : Option Moments) (bytes : List ℕ) (status : Status) (left w0 w : Option (List ℕ)) (old new : Told) : Type 0 where
  pub stops : StopsBefore 0 bytes status left
  pub unwritten : w ≡ w0
  pub unmet : new ≡ old
  pub untouched : later ≡ disk

-- it ended behind that line
pub record EndsBehind (kind : NodeKind) (addr : List ℕ) (disk later : Option Moments) (bytes : List ℕ) (status : Status) (left w0 w : Option (List ℕ)) (before now : ℕ) (old new : Told) : Type 0 where
  pub cluster : ClusterRecord
  pub number : ℕ
  pub newline : Bool
  pub rest : List ℕ
  pub has : HasCluster bytes cluster 0 number newline (Some rest)
  pub ran : NodeEnded kind addr disk later cluster number rest status left w0 w before now old new

-- what a node did with the bytes of an input
abbrev pub InputEnded : NodeKind → List ℕ → Option Moments → Option Moments → List ℕ → Status → Option (List ℕ) → Option (List ℕ) → Option (List ℕ) → ℕ → ℕ → Told → Told → Type 0
InputEnded kind addr disk later bytes status left w0 w before now old new =
    EndsBefore disk later bytes status left w0 w old new ⊎ EndsBehind kind addr disk later bytes status left w0 w before now old new

-- a status of a node without a disk
abbrev pub IsDiskless : Status → Type 0
IsDiskless DiskFault = ⊥
IsDiskless (StaleEpoch fence) = ⊥
IsDiskless (DamagedCheckpoint offset) = ⊥
IsDiskless (Limit Records kept) = ⊥
IsDiskless (Limit Lines kept) = ⊤
IsDiskless (Limit Packets kept) = ⊤
IsDiskless (Limit Bytes kept) = ⊤
IsDiskless (Limit Calls kept) = ⊤
IsDiskless Done = ⊤
IsDiskless Usage = ⊤
IsDiskless (BadInput line fault) = ⊤
IsDiskless ReadFault = ⊤
IsDiskless WriteFault = ⊤
IsDiskless OutOfMemory = ⊤

-- what a status says of the disk at the start
abbrev pub TellsDisk : NodeKind → Status → Option Moments → Type 0
TellsDisk (Master epoch) status disk = TellsFile epoch status disk
TellsDisk (Agent m boot) status disk = IsDiskless status
TellsDisk (App a boot units) status disk = IsDiskless status

-- what it says of the disk of a master that did not get to its lines, at the start and at the end
abbrev pub LeavesDisk : NodeKind → Status → Option Moments → Option Moments → Type 0
LeavesDisk (Master epoch) status disk later = LeavesFile epoch status disk later
LeavesDisk (Agent m boot) status disk later = ⊤
LeavesDisk (App a boot units) status disk later = ⊤

-- the cluster has its machine, as a test
abbrev pub is_there : NodeKind → ClusterRecord → Bool
is_there (Master epoch) c = true
is_there (Agent m boot) c = nat_lt m.0 (length c.machines)
is_there (App a boot units) c = true

-- Where an input ends by its lines: at the first that is bad, where a cluster that lacks the machine is one; at the limit; or at their end
abbrev pub ending_behind : NodeKind → Opening → Ending
ending_behind kind (Opens c number behind) = cond (is_there kind c) (ending_from number behind) (AtBadLine number NoMachine)
ending_behind kind (BadAt line fault) = AtBadLine line fault
ending_behind kind (TooMany kept) = AtLimit kept

abbrev pub ending_of : NodeKind → List ℕ → Ending
ending_of kind bytes = ending_behind kind (opening_from 0 (lines_of bytes))

-- the status of a node whose lines end there, and whose input, output, disk and memory allow it
abbrev pub status_at : Ending → Status
status_at AtEnd = Done
status_at (AtBadLine line fault) = BadInput line fault
status_at (AtLimit kept) = Limit Lines kept

-- what a status says of where the lines of an input end, and of what its source has left
abbrev pub InputEndsBy : NodeKind → List ℕ → Status → Option (List ℕ) → Type 0
InputEndsBy kind bytes status left = EndsBy (ending_of kind bytes) status left

-- no line describes a cluster
abbrev pub HasNone : Opening → Type 0
HasNone (Opens c number behind) = ⊥
HasNone (BadAt line fault) = ⊤
HasNone (TooMany kept) = ⊤

abbrev pub HasNoCluster : List ℕ → Type 0
HasNoCluster bytes = HasNone (opening_from 0 (lines_of bytes))

-- the file of the disk lets the epoch in
pub record LetsIn (epoch : ℕ) (disk : Option Moments) : Type 0 where
  pub told : Moments
  pub is : disk ≡ Some told
  pub before : HardState
  pub reads : records_of told.now.bytes ≡ Ok before
  pub after : HardState
  pub step : hard_step before epoch Raise ≡ Ok after

abbrev pub MayStart : NodeKind → Option Moments → Type 0
MayStart (Master epoch) disk = LetsIn epoch disk
MayStart (Agent m boot) disk = ⊤
MayStart (App a boot units) disk = ⊤
