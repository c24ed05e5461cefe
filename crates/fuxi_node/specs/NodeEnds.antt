-- What is known of a node's run by the status that it ends with.
use Rattle.std.specs.Prelude.{Result, Ok, Err, ⊤, ◌≡◌, ◌⊎◌, ℕ, ◌≤◌, List, [], ◌++◌, length, Option, Some}
use Rattle.std.specs.List.{concat}
use Rattle.std.specs.Io.KnownBytes.{Appends, Consumes}
use Rattle.fuxi_io.specs.Disks.{Told as Moments, WhereTold as WhereMoments}
use Rattle.fuxi_io.specs.Lines.{InputLine, lines_of}
use Rattle.fuxi_io.specs.declared.status.LimitOf.TheVariants.{Lines, Packets, Bytes, Records, Calls}
use Rattle.fuxi_io.specs.declared.status.Status.{Status}
use Rattle.fuxi_io.specs.declared.status.Status.TheVariants.{Done, Usage, BadInput, ReadFault, WriteFault, Limit, OutOfMemory, DiskFault, StaleEpoch, DamagedCheckpoint}
use Rattle.input_lines.specs.Wholes.{whole_lines, TakesSome, WritesLast}
use Rattle.fuxi_io.specs.Doors.{Told}
use Rattle.node_core.specs.Roles.{Role}
use Rattle.node_core.specs.Rounds.{Breaks}
use Rattle.node_core.specs.PartyEvents.{accepts}
use Rattle.node_core.specs.NodeHalts.{FitsEither}
use Rattle.fuxi_node.specs.declared.taking.DiskFailed.{DiskFailed}
use Rattle.fuxi_node.specs.NodeRuns.{Node, Run, Ending, AtEnd, AtBadLine, AtLimit, role_run, ending_from, pieces}
use Rattle.fuxi_node.specs.Visits.{Visit, rounds_of, played_of, WasAt}

-- the input before a node's lines: so many lines, and what the source and the sink have
pub record Start : Type 0 where
  pub most : ℕ
  pub addr : List ℕ
  pub first : ℕ
  pub node : Node

abbrev pub run_of : Start → List Visit → List InputLine → Run
run_of s visits lines = role_run s.most s.first s.node (rounds_of visits) lines

-- of the run over these lines, with what came in its rounds, this holds; and the door was at just the rounds of this run
pub record Ran (s : Start) (lines : List InputLine) (Holds : Run → Type 0) (before now : ℕ) (old new : Told) : Type 0 where
  pub visits : List Visit
  pub was : WasAt s.most s.addr visits before now old new
  pub rounds : (run_of s visits lines).rounds ≡ played_of visits
  pub holds : Holds (run_of s visits lines)

-- it ended there, and its outputs are written, and nothing else
abbrev pub EndsAt : Ending → Option (List ℕ) → Option (List ℕ) → Run → Type 0
EndsAt ending w0 w r = (r.ending ≡ ending) × Appends w0 w (concat r.outputs)

-- the same, and this holds of its party
abbrev pub EndsWith : (Role → Type 0) → Ending → Option (List ℕ) → Option (List ℕ) → Run → Type 0
EndsWith Fits ending w0 w r = (r.ending ≡ ending) × Appends w0 w (concat r.outputs) × Fits r.node.role

-- it came to the end of its lines, its outputs and the state are written, and this holds of its party
abbrev pub EndsWhole : (Role → Type 0) → Option (List ℕ) → Option (List ℕ) → Run → Type 0
EndsWhole Fits w0 w r = (r.ending ≡ AtEnd) × Appends w0 w (concat (pieces r)) × Fits r.node.role

-- a source failed: the run over all whole lines that it gave before
pub record ReadsWhole (Fits : Role → Type 0) (s : Start) (bytes : List ℕ) (left w0 w : Option (List ℕ)) (before now : ℕ) (old new : Told) : Type 0 where
  pub given : List ℕ
  pub gave : Consumes (Some bytes) left given
  pub ran : Ran s (whole_lines (lines_of given)) (EndsWith Fits AtEnd w0 w) before now old new

-- a write failed: within the output of the last line that was taken, or behind a whole input within the state
pub record StopsWriting (Fits : Role → Type 0) (s : Start) (bytes : List ℕ) (left w0 w : Option (List ℕ)) (before now : ℕ) (old new : Told) : Type 0 where
  pub lines : List InputLine
  pub takes : TakesSome bytes left lines
  pub ran : Ran s lines (λ r. (WritesLast r.outputs w0 w ⊎ ((lines_of bytes ≡ lines) × WritesLast (pieces r) w0 w)) × Fits r.node.role) before now old new

-- this holds of the parties behind these lines and behind one more, which may count as taken or not
abbrev pub EitherFits : (Role → Role → Type 0) → Start → List Visit → List InputLine → List InputLine → Type 0
EitherFits FitsOne s visits lines next = FitsOne (run_of s visits lines).node.role (run_of s visits (lines ++ next)).node.role

-- memory lacked behind the output of the lines taken, at the end or at one line more; a round of that line may have been broken off
pub record StopsWanting (FitsOne : Role → Role → Type 0) (s : Start) (bytes : List ℕ) (left w0 w : Option (List ℕ)) (before now : ℕ) (old new : Told) : Type 0 where
  pub lines : List InputLine
  pub next : List InputLine
  pub one : length next ≤ 1
  pub takes : TakesSome bytes left (lines ++ next)
  pub mid : Told
  pub ran : Ran s lines (λ r. EndsAt AtEnd w0 w r × Breaks (accepts r.node.role) s.addr r.node.role mid new) before now old mid
  pub fits : EitherFits FitsOne s ran.visits lines next

-- the disk failed at the line behind the lines taken, whose output is written
pub record StopsAtDisk (FitsOne : Role → Role → Type 0) (s : Start) (bytes : List ℕ) (left w0 w : Option (List ℕ)) (before now : ℕ) (old new : Told) : Type 0 where
  pub lines : List InputLine
  pub next : List InputLine
  pub one : length next ≤ 1
  pub takes : TakesSome bytes left (lines ++ next)
  pub ran : Ran s lines (EndsAt AtEnd w0 w) before now old new
  pub fits : EitherFits FitsOne s ran.visits lines next

-- what a node wrote that ended with a status, or since its disk failed; what its source has left then, and what its door has been through.
-- Fits, FitsOne: what is known of its disk at the end, for the party behind the lines taken, and where one line may count as taken or not.
abbrev pub Ended : (Role → Type 0) → (Role → Role → Type 0) → Start → List ℕ → Result Status DiskFailed → Option (List ℕ) → Option (List ℕ) → Option (List ℕ) → ℕ → ℕ → Told → Told → Type 0
Ended Fits FitsOne s bytes (Ok Done) left w0 w before now old new = (left ≡ Some []) × Ran s (lines_of bytes) (EndsWhole Fits w0 w) before now old new
Ended Fits FitsOne s bytes (Ok (BadInput line fault)) left w0 w before now old new = Ran s (lines_of bytes) (EndsWith Fits (AtBadLine line fault) w0 w) before now old new
Ended Fits FitsOne s bytes (Ok (Limit Lines kept)) left w0 w before now old new = Ran s (lines_of bytes) (EndsWith Fits (AtLimit kept) w0 w) before now old new
Ended Fits FitsOne s bytes (Ok (Limit Packets kept)) left w0 w before now old new = ⊥
Ended Fits FitsOne s bytes (Ok (Limit Bytes kept)) left w0 w before now old new = ⊥
Ended Fits FitsOne s bytes (Ok (Limit Calls kept)) left w0 w before now old new = ⊥
Ended Fits FitsOne s bytes (Ok (Limit Records kept)) left w0 w before now old new = ⊥
Ended Fits FitsOne s bytes (Ok ReadFault) left w0 w before now old new = ReadsWhole Fits s bytes left w0 w before now old new
Ended Fits FitsOne s bytes (Ok WriteFault) left w0 w before now old new = StopsWriting Fits s bytes left w0 w before now old new
Ended Fits FitsOne s bytes (Ok OutOfMemory) left w0 w before now old new = StopsWanting FitsOne s bytes left w0 w before now old new
Ended Fits FitsOne s bytes (Ok Usage) left w0 w before now old new = ⊥
Ended Fits FitsOne s bytes (Ok DiskFault) left w0 w before now old new = ⊥
Ended Fits FitsOne s bytes (Ok (StaleEpoch fence)) left w0 w before now old new = ⊥
Ended Fits FitsOne s bytes (Ok (DamagedCheckpoint offset)) left w0 w before now old new = ⊥
Ended Fits FitsOne s bytes (Err failed) left w0 w before now old new = StopsAtDisk FitsOne s bytes left w0 w before now old new

-- The statuses that a run itself ends with: a command line, a checkpoint that cannot be opened and a disk that failed are told by others.
abbrev pub IsRunStatus : Status → Type 0
IsRunStatus Done = ⊤
IsRunStatus (BadInput line fault) = ⊤
IsRunStatus ReadFault = ⊤
IsRunStatus WriteFault = ⊤
IsRunStatus (Limit Lines kept) = ⊤
IsRunStatus (Limit Packets kept) = ⊥
IsRunStatus (Limit Bytes kept) = ⊥
IsRunStatus (Limit Calls kept) = ⊥
IsRunStatus (Limit Records kept) = ⊥
IsRunStatus OutOfMemory = ⊤
IsRunStatus Usage = ⊥
IsRunStatus DiskFault = ⊥
IsRunStatus (StaleEpoch fence) = ⊥
IsRunStatus (DamagedCheckpoint offset) = ⊥

-- What a status says of where the lines end, and of what the source has left: a whole input, the first bad line, the limit on lines. The other statuses
-- come at any line.
abbrev pub EndsBy : Ending → Status → Option (List ℕ) → Type 0
EndsBy ending Done left = (ending ≡ AtEnd) × (left ≡ Some [])
EndsBy ending (BadInput line fault) left = ending ≡ AtBadLine line fault
EndsBy ending (Limit Lines kept) left = ending ≡ AtLimit kept
EndsBy ending (Limit Packets kept) left = ⊥
EndsBy ending (Limit Bytes kept) left = ⊥
EndsBy ending (Limit Calls kept) left = ⊥
EndsBy ending (Limit Records kept) left = ⊤
EndsBy ending ReadFault left = ⊤
EndsBy ending WriteFault left = ⊤
EndsBy ending OutOfMemory left = ⊤
EndsBy ending Usage left = ⊤
EndsBy ending DiskFault left = ⊤
EndsBy ending (StaleEpoch fence) left = ⊤
EndsBy ending (DamagedCheckpoint offset) left = ⊤

-- the same of a run, whose disk may have failed
abbrev pub RunEndsBy : Ending → Result Status DiskFailed → Option (List ℕ) → Type 0
RunEndsBy ending (Ok status) left = EndsBy ending status left
RunEndsBy ending (Err failed) left = ⊤

-- so many lines having gone before
abbrev pub EndsByLines : ℕ → List ℕ → Result Status DiskFailed → Option (List ℕ) → Type 0
EndsByLines first bytes result left = RunEndsBy (ending_from first (lines_of bytes)) result left

-- a node of this party that took no event yet, so many lines having gone before
abbrev pub start_of : ℕ → List ℕ → ℕ → Role → Start
start_of most addr first r = record { most = most; addr = addr; first = first; node = record { role = r; events = 0 } }

-- of a disk that tells its moments, and was as a party needs it: this is known of those that it tells now
abbrev pub FromRest : {C : Type 0} → (C → ℕ → Option Moments → Type 0) → C → ℕ → (Moments → Type 0) → Option Moments → Option Moments → Type 0
FromRest rests core size Known old new = WhereMoments (λ before now. rests core size (Some before) → Known now) old new

-- it has what it should of a party
abbrev pub FitsNow : {C : Type 0} → (C → ℕ → Option Moments → Type 0) → (Role → Moments → Type 0) → C → ℕ → Option Moments → Option Moments → Role → Type 0
FitsNow rests fits core size old new r = FromRest rests core size (fits r) old new

-- or of one of two
abbrev pub FitsOneNow : {C : Type 0} → (C → ℕ → Option Moments → Type 0) → (Role → Moments → Type 0) → (Role → Role → Moments → Type 0) → C → ℕ → Option Moments → Option Moments → Role → Role → Type 0
FitsOneNow rests fits halts core size old new before after = FromRest rests core size (FitsEither fits halts before after) old new
