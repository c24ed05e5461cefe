-- How far a node's run has come, and what taking one line does.
use Rattle.std.specs.Prelude.{◌≡◌, ℕ, ◌≤◌, Bool, false, List, [], ◌++◌, Option, Some, Result, Ok, Err, ⊤}
use Rattle.std.specs.Io.KnownBytes.{Appends}
use Rattle.std.specs.List.{concat}
use Rattle.fuxi_io.specs.Causes.{TakesPart}
use Rattle.fuxi_io.specs.Disks.{Told as Moments}
use Rattle.fuxi_io.specs.Lines.{InputLine, lines_of}
use Rattle.fuxi_io.specs.declared.status.InputFault.{InputFault}
use Rattle.fuxi_io.specs.declared.status.Status.{Status}
use Rattle.fuxi_io.specs.declared.status.Status.TheVariants.{Done, Usage, BadInput, ReadFault, WriteFault, Limit, OutOfMemory, DiskFault, StaleEpoch, DamagedCheckpoint}
use Rattle.schedule_text.specs.declared.event.LineFault.{LineFault}
use Rattle.input_lines.specs.InputStatuses.{event_fault}
use Rattle.input_lines.specs.Wholes.{AreTaken}
use Rattle.fuxi_io.specs.Doors.{Told}
use Rattle.node_core.specs.Roles.{Role}
use Rattle.node_core.specs.Rounds.{Breaks}
use Rattle.node_core.specs.declared.line.NodeLine.{NodeLine}
use Rattle.node_core.specs.PartyEvents.{accepts}
use Rattle.fuxi_node.specs.declared.taking.Stop.{Stop}
use Rattle.fuxi_node.specs.declared.taking.Stop.TheVariants.{Ends, Disk}
use Rattle.fuxi_node.specs.NodeRuns.{Node, Round, Played, Run, then_is, behind, takes, role_run, role_after, ending_from}
use Rattle.fuxi_node.specs.Visits.{Visit, rounds_of, played_of, WasAt}
use Rattle.fuxi_node.specs.NodeEnds.{Start, FromRest}

-- a line was taken that says this: these were its rounds, this was printed, and the run goes on behind it
pub record Taken (most : ℕ) (addr : List ℕ) (n : Node) (number : ℕ) (what : Result NodeLine LineFault) (now : Role → Type 0) (Writes : List ℕ → Type 0) (before after : ℕ) (old new : Told) : Type 0 where
  pub visits : List Visit
  pub was : WasAt most addr visits before after old new
  pub output : List ℕ
  pub writes : Writes output
  pub role : Role
  pub stands : now role
  pub through : (rounds : List Round) (run : Node → List Round → Run) → takes most number n (rounds_of visits ++ rounds) what run ≡ behind output (played_of visits) (run (then_is n role) rounds)

-- the same of a line that is no round, whatever the rounds are
pub record Says (n : Node) (what : Result NodeLine LineFault) (now : Role → Type 0) (Writes : List ℕ → Type 0) : Type 0 where
  pub output : List ℕ
  pub writes : Writes output
  pub role : Role
  pub stands : now role
  pub through : (most number : ℕ) (rounds : List Round) (run : Node → List Round → Run) → takes most number n rounds what run ≡ behind output [] (run (then_is n role) rounds)

-- what came of writing a text
abbrev pub WritesText : {A : Type 0} → List ℕ → Result A Status → Option (List ℕ) → Option (List ℕ) → Type 0
WritesText text (Ok done) w0 w = Appends w0 w text
WritesText text (Err WriteFault) w0 w = TakesPart w0 w text
WritesText text (Err OutOfMemory) w0 w = w ≡ w0
WritesText text (Err Done) w0 w = ⊥
WritesText text (Err Usage) w0 w = ⊥
WritesText text (Err (BadInput line fault)) w0 w = ⊥
WritesText text (Err ReadFault) w0 w = ⊥
WritesText text (Err (Limit what kept)) w0 w = ⊥
WritesText text (Err DiskFault) w0 w = ⊥
WritesText text (Err (StaleEpoch fence)) w0 w = ⊥
WritesText text (Err (DamagedCheckpoint offset)) w0 w = ⊥

-- what a node wrote that ended with this status behind its last line
abbrev pub WritesEnd : List ℕ → Status → Option (List ℕ) → Option (List ℕ) → Type 0
WritesEnd text Done w0 w = Appends w0 w text
WritesEnd text WriteFault w0 w = TakesPart w0 w text
WritesEnd text OutOfMemory w0 w = w ≡ w0
WritesEnd text Usage w0 w = ⊥
WritesEnd text (BadInput line fault) w0 w = ⊥
WritesEnd text ReadFault w0 w = ⊥
WritesEnd text (Limit what kept) w0 w = ⊥
WritesEnd text DiskFault w0 w = ⊥
WritesEnd text (StaleEpoch fence) w0 w = ⊥
WritesEnd text (DamagedCheckpoint offset) w0 w = ⊥

-- What taking a line did that is no round. Fits, FitsOne: what is known of the disk, for the party behind the line, and where the line may count as taken or
-- not.
abbrev pub TakesQuietly : {C : Type 0} → (C → Role → Type 0) → (Role → Type 0) → (Role → Role → Type 0) → Node → Result NodeLine LineFault → Result C Stop → Option (List ℕ) → Option (List ℕ) → Type 0
TakesQuietly stands Fits FitsOne n what (Ok core) w0 w = Says n what (stands core) (Appends w0 w)
TakesQuietly stands Fits FitsOne n what (Err (Ends WriteFault)) w0 w = Says n what Fits (TakesPart w0 w)
TakesQuietly stands Fits FitsOne n what (Err (Ends OutOfMemory)) w0 w = (w ≡ w0) × ((most number : ℕ) → FitsOne n.role (role_after most number n what))
TakesQuietly stands Fits FitsOne n what (Err (Ends Done)) w0 w = ⊥
TakesQuietly stands Fits FitsOne n what (Err (Ends Usage)) w0 w = ⊥
TakesQuietly stands Fits FitsOne n what (Err (Ends (BadInput line fault))) w0 w = ⊥
TakesQuietly stands Fits FitsOne n what (Err (Ends ReadFault)) w0 w = ⊥
TakesQuietly stands Fits FitsOne n what (Err (Ends (Limit limit kept))) w0 w = ⊥
TakesQuietly stands Fits FitsOne n what (Err (Ends DiskFault)) w0 w = ⊥
TakesQuietly stands Fits FitsOne n what (Err (Ends (StaleEpoch fence))) w0 w = ⊥
TakesQuietly stands Fits FitsOne n what (Err (Ends (DamagedCheckpoint offset))) w0 w = ⊥
TakesQuietly stands Fits FitsOne n what (Err Disk) w0 w = (w ≡ w0) × ((most number : ℕ) → FitsOne n.role (role_after most number n what))

-- it is the line of no node, for this reason
pub record IsNone (what : Result NodeLine LineFault) (fault : InputFault) : Type 0 where
  pub why : LineFault
  pub is : what ≡ Err why
  pub same : fault ≡ event_fault why

-- it is the line of a node
abbrev pub IsSaid : Result NodeLine LineFault → Type 0
IsSaid (Ok said) = ⊤
IsSaid (Err fault) = ⊥

-- what taking the line with this number did, which is not skipped and says this
abbrev pub TakesLine : {C : Type 0} → (C → Role → Type 0) → (Role → Type 0) → (Role → Role → Type 0) → ℕ → List ℕ → Node → Result NodeLine LineFault → ℕ → Result C Stop → Option (List ℕ) → Option (List ℕ) → ℕ → ℕ → Told → Told → Type 0
TakesLine stands Fits FitsOne most addr n what number (Ok core) w0 w before after old new = Taken most addr n number what (stands core) (Appends w0 w) before after old new
TakesLine stands Fits FitsOne most addr n what number (Err (Ends (BadInput line fault))) w0 w before after old new = IsNone what fault × (line ≡ number) × (w ≡ w0) × WasAt most addr [] before after old new × Fits n.role
TakesLine stands Fits FitsOne most addr n what number (Err (Ends WriteFault)) w0 w before after old new = Taken most addr n number what Fits (TakesPart w0 w) before after old new
TakesLine stands Fits FitsOne most addr n what number (Err (Ends OutOfMemory)) w0 w before after old new = (w ≡ w0) × (before ≤ after) × Breaks (accepts n.role) addr n.role old new × FitsOne n.role (role_after most number n what)
TakesLine stands Fits FitsOne most addr n what number (Err (Ends (Limit limit kept))) w0 w before after old new = ⊥
TakesLine stands Fits FitsOne most addr n what number (Err (Ends Done)) w0 w before after old new = ⊥
TakesLine stands Fits FitsOne most addr n what number (Err (Ends Usage)) w0 w before after old new = ⊥
TakesLine stands Fits FitsOne most addr n what number (Err (Ends ReadFault)) w0 w before after old new = ⊥
TakesLine stands Fits FitsOne most addr n what number (Err (Ends DiskFault)) w0 w before after old new = ⊥
TakesLine stands Fits FitsOne most addr n what number (Err (Ends (StaleEpoch fence))) w0 w before after old new = ⊥
TakesLine stands Fits FitsOne most addr n what number (Err (Ends (DamagedCheckpoint offset))) w0 w before after old new = ⊥
TakesLine stands Fits FitsOne most addr n what number (Err Disk) w0 w before after old new = (w ≡ w0) × WasAt most addr [] before after old new × FitsOne n.role (role_after most number n what)

-- the same with a count of events beside the core
abbrev pub TakesCounted : {C : Type 0} → (C → Role → Type 0) → (Role → Type 0) → (Role → Role → Type 0) → ℕ → List ℕ → Node → Result NodeLine LineFault → ℕ → Result (C × ℕ) Stop → Option (List ℕ) → Option (List ℕ) → ℕ → ℕ → Told → Told → Type 0
TakesCounted {C} stands Fits FitsOne most addr n what number result w0 w before after old new = TakesLine {C = C × ℕ} (λ a. stands a.0) Fits FitsOne most addr n what number result w0 w before after old new

-- of a disk that tells its moments, what a party needs of them is kept
abbrev pub KeepsTold : {C : Type 0} → (C → ℕ → Option Moments → Type 0) → C → ℕ → C → ℕ → Option Moments → Option Moments → Type 0
KeepsTold rests core size after size' old new = FromRest rests core size (λ now. rests after size' (Some now)) old new

-- its last line behind it, a node is done, or its state could not be written, or memory lacks
abbrev pub IsLastStatus : Status → Type 0
IsLastStatus Done = ⊤
IsLastStatus WriteFault = ⊤
IsLastStatus OutOfMemory = ⊤
IsLastStatus (BadInput line fault) = ⊥
IsLastStatus Usage = ⊥
IsLastStatus ReadFault = ⊥
IsLastStatus (Limit what kept) = ⊥
IsLastStatus DiskFault = ⊥
IsLastStatus (StaleEpoch fence) = ⊥
IsLastStatus (DamagedCheckpoint offset) = ⊥

-- writing ends a node only where it could not be written or where memory lacks
abbrev pub IsWriteStop : Status → Type 0
IsWriteStop WriteFault = ⊤
IsWriteStop OutOfMemory = ⊤
IsWriteStop (BadInput line fault) = ⊥
IsWriteStop Done = ⊥
IsWriteStop Usage = ⊥
IsWriteStop ReadFault = ⊥
IsWriteStop (Limit what kept) = ⊥
IsWriteStop DiskFault = ⊥
IsWriteStop (StaleEpoch fence) = ⊥
IsWriteStop (DamagedCheckpoint offset) = ⊥

-- a line ends a node only where it is a bad one, where it could not be written, where memory lacks, or where the disk failed
abbrev pub IsLineStop : Stop → Type 0
IsLineStop (Ends (BadInput line fault)) = ⊤
IsLineStop (Ends WriteFault) = ⊤
IsLineStop (Ends OutOfMemory) = ⊤
IsLineStop (Ends Done) = ⊥
IsLineStop (Ends Usage) = ⊥
IsLineStop (Ends ReadFault) = ⊥
IsLineStop (Ends (Limit what kept)) = ⊥
IsLineStop (Ends DiskFault) = ⊥
IsLineStop (Ends (StaleEpoch fence)) = ⊥
IsLineStop (Ends (DamagedCheckpoint offset)) = ⊥
IsLineStop Disk = ⊤

abbrev pub behind_all : List (List ℕ) → List Played → Run → Run
behind_all front rounds r = record { outputs = front ++ r.outputs; rounds = rounds ++ r.rounds; node = r.node; ending = r.ending }

-- of a run over the bytes of an input, so many lines having gone before: the lines taken and the bytes that are left, the rounds, what was printed, and the party now
pub record Along (s : Start) (bytes : List ℕ) (number : ℕ) (ended : Bool) (events : ℕ) (now : Role → Type 0) (rest w0 w : Option (List ℕ)) (before after : ℕ) (old new : Told) : Type 0 where
  pub lines : List InputLine
  pub left : List ℕ
  pub is_left : rest ≡ Some left
  pub cut : lines_of bytes ≡ lines ++ lines_of left
  pub taken : AreTaken ended bytes left lines
  pub visits : List Visit
  pub was : WasAt s.most s.addr visits before after old new
  pub front : List (List ℕ)
  pub writes : Appends w0 w (concat front)
  pub role : Role
  pub stands : now role
  pub through : (rounds : List Round) (more : List InputLine)
      → role_run s.most s.first s.node (rounds_of visits ++ rounds) (lines ++ more) ≡ behind_all front (played_of visits) (role_run s.most number (record { role = role; events = events }) rounds more)

-- of the bytes of an input: the lines taken end no run, and these bytes are left, so many lines having gone before
pub record Reaches (first : ℕ) (bytes : List ℕ) (number : ℕ) (ended : Bool) (rest : Option (List ℕ)) : Type 0 where
  pub left : List ℕ
  pub is_left : rest ≡ Some left
  pub same : ending_from first (lines_of bytes) ≡ ending_from number (lines_of left)
  pub last : ended ≡ false → left ≡ []
