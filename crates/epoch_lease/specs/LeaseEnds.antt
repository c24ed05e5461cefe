-- What is known of a run over an input by the status that it ends with.
use Rattle.std.specs.Prelude.{◌≡◌, ◌⊎◌, ℕ, ⊤, Ok, Err, List, [], ◌∷◌, ◌++◌, Option, Some, IfSome}
use Rattle.std.specs.List.{concat}
use Rattle.std.specs.Io.KnownBytes.{Appends, Consumes}
use Rattle.fuxi_io.specs.Disks.{Told, Leaves, WhereTold}
use Rattle.fuxi_io.specs.Lines.{InputLine, lines_of}
use Rattle.fuxi_io.specs.declared.status.LimitOf.TheVariants.{Lines, Packets, Bytes, Records, Calls}
use Rattle.fuxi_io.specs.declared.status.Status.{Status}
use Rattle.fuxi_io.specs.declared.status.Status.TheVariants.{Done, Usage, BadInput, ReadFault, WriteFault, Limit, OutOfMemory, DiskFault, StaleEpoch, DamagedCheckpoint}
use Rattle.fuxi_terms.specs.Limits.{most_lines}
use Rattle.spec_roles.specs.HardState.{HardState}
use Rattle.hard_state.specs.HardFiles.{Opens, SyncsAll, records_of}
use Rattle.input_lines.specs.Contents.{content}
use Rattle.input_lines.specs.LineRuns.{AtEnd, AtBadLine, AtLimit, Run, pieces}
use Rattle.input_lines.specs.RunEnds.{Causes, no_causes}
use Rattle.input_lines.specs.Wholes.{whole_lines, TakesSome, WritesLast}
use Rattle.epoch_lease.specs.declared.event.LeaseEvent.{LeaseEvent}
use Rattle.epoch_lease.specs.Files.{OpensAs}
use Rattle.epoch_lease.specs.Leases.{LeaseState, IsGrant, lease_step}
use Rattle.epoch_lease.specs.LeaseLines.{lease_event}
use Rattle.epoch_lease.specs.LeaseRuns.{last_texts, lease_in, run_from}

-- of a disk that told its moments at the start: whatever file a crash leaves now opens as this lease
abbrev pub HasFile : Option Told → Option Told → LeaseState → Type 0
HasFile old new s = WhereTold (λ before now. Leaves (OpensAs s) now.now) old new

-- as one of two
abbrev pub HasEither : Option Told → Option Told → LeaseState → LeaseState → Type 0
HasEither old new s after = WhereTold (λ before now. Leaves (λ file. OpensAs s file ⊎ OpensAs after file) now.now) old new

-- a source failed: the answers to all whole lines that it gave before are written, and nothing else
pub record ReadsWhole (run : List InputLine → Run LeaseState) (bytes : List ℕ) (left before after : Option (List ℕ)) (old new : Option Told) : Type 0 where
  pub given : List ℕ
  pub gave : Consumes (Some bytes) left given
  pub good : (run (whole_lines (lines_of given))).ending ≡ AtEnd
  pub writes : Appends before after (concat (run (whole_lines (lines_of given))).outputs)
  pub file : HasFile old new (run (whole_lines (lines_of given))).state

-- A sink failed: all answers but the last of the lines taken are out whole, and of that a part; or behind a whole input a part of its last line. The
-- record of an epoch is written before its answer is begun.
pub record BreaksOff (run : List InputLine → Run LeaseState) (bytes : List ℕ) (left before after : Option (List ℕ)) (old new : Option Told) : Type 0 where
  pub lines : List InputLine
  pub takes : TakesSome bytes left lines
  pub good : (run lines).ending ≡ AtEnd
  pub writes : WritesLast (run lines).outputs before after ⊎ ((takes.behind ≡ []) × WritesLast (pieces last_texts (run lines)) before after)
  pub file : HasFile old new (run lines).state

-- it stopped at a line that is not taken: the answers to those in front of it are out, and nothing else; the source gave these and a few bytes ahead
pub record StopsAt (run : List InputLine → Run LeaseState) (bytes : List ℕ) (left before after : Option (List ℕ)) : Type 0 where
  pub front : List InputLine
  pub line : InputLine
  pub takes : TakesSome bytes left (front ++ line ∷ [])
  pub good : (run front).ending ≡ AtEnd
  pub writes : Appends before after (concat (run front).outputs)

-- memory was refused
pub record LacksMemory (run : List InputLine → Run LeaseState) (bytes : List ℕ) (left before after : Option (List ℕ)) (old new : Option Told) : Type 0 where
  pub stops : StopsAt run bytes left before after
  pub file : HasFile old new (run stops.front).state

-- the event of a line is granted an epoch
pub record IsGranted (line : List ℕ) (s : LeaseState) : Type 0 where
  pub event : LeaseEvent
  pub is : lease_event line ≡ Ok event
  pub grants : IsGrant (lease_step s event).answer

-- the disk failed within a grant, whose record a crash leaves or not
pub record LosesDisk (run : List InputLine → Run LeaseState) (bytes : List ℕ) (left before after : Option (List ℕ)) (old new : Option Told) : Type 0 where
  pub stops : StopsAt run bytes left before after
  pub grants : IsGranted (content stops.line) (run stops.front).state
  pub file : HasEither old new (run stops.front).state (run (stops.front ++ stops.line ∷ [])).state

-- What a run from an open lease wrote that ended with a status, what its source has left then, and what a crash leaves of the file
abbrev pub Ended : (List InputLine → Run LeaseState) → List ℕ → Status → Option (List ℕ) → Option (List ℕ) → Option (List ℕ) → Option Told → Option Told → Type 0
Ended run bytes Done left before after old new =
    (left ≡ Some []) × ((run (lines_of bytes)).ending ≡ AtEnd) × Appends before after (concat (pieces last_texts (run (lines_of bytes)))) × HasFile old new (run (lines_of bytes)).state
Ended run bytes (BadInput line fault) left before after old new =
    ((run (lines_of bytes)).ending ≡ AtBadLine line fault) × Appends before after (concat (run (lines_of bytes)).outputs) × HasFile old new (run (lines_of bytes)).state
Ended run bytes (Limit Lines kept) left before after old new =
    (kept ≡ most_lines) × ((run (lines_of bytes)).ending ≡ AtLimit Lines most_lines) × Appends before after (concat (run (lines_of bytes)).outputs) × HasFile old new (run (lines_of bytes)).state
Ended run bytes (Limit Packets kept) left before after old new = ⊥
Ended run bytes (Limit Bytes kept) left before after old new = ⊥
Ended run bytes (Limit Calls kept) left before after old new = ⊥
Ended run bytes (Limit Records kept) left before after old new = ⊥
Ended run bytes ReadFault left before after old new = ReadsWhole run bytes left before after old new
Ended run bytes WriteFault left before after old new = BreaksOff run bytes left before after old new
Ended run bytes OutOfMemory left before after old new = LacksMemory run bytes left before after old new
Ended run bytes DiskFault left before after old new = LosesDisk run bytes left before after old new
Ended run bytes Usage left before after old new = ⊥
Ended run bytes (StaleEpoch fence) left before after old new = ⊥
Ended run bytes (DamagedCheckpoint offset) left before after old new = ⊥

-- why a lease was not opened: the file has a damaged record, which was not touched; the disk failed; or memory was refused
abbrev pub StaysShut : Status → Option Told → Option Told → Type 0
StaysShut (DamagedCheckpoint offset) old new = IfSome old (λ t. records_of t.now.bytes ≡ Err offset) × WhereTold SyncsAll old new
StaysShut DiskFault old new = ⊤
StaysShut OutOfMemory old new = ⊤
StaysShut Done old new = ⊥
StaysShut Usage old new = ⊥
StaysShut (BadInput line fault) old new = ⊥
StaysShut ReadFault old new = ⊥
StaysShut WriteFault old new = ⊥
StaysShut (Limit what kept) old new = ⊥
StaysShut (StaleEpoch fence) old new = ⊥

-- It was not opened: nothing was read and nothing written. From the first sync on a crash leaves a file that stands for what it stood for.
pub record EndsShut (bytes : List ℕ) (status : Status) (left before after : Option (List ℕ)) (old new : Option Told) : Type 0 where
  pub shut : StaysShut status old new
  pub unread : left ≡ Some bytes
  pub unwritten : after ≡ before
  pub leaves : WhereTold Opens old new

-- it was opened, with this value of its file, and ran
pub record EndsOpen (bytes : List ℕ) (status : Status) (left before after : Option (List ℕ)) (old new : Option Told) : Type 0 where
  pub value : HardState
  pub reads : IfSome old (λ t. records_of t.now.bytes ≡ Ok value)
  pub ran : Ended (run_from 0 (lease_in value)) bytes status left before after old new

-- what was made of the bytes of an input
abbrev pub LeaseEnded : List ℕ → Status → Option (List ℕ) → Option (List ℕ) → Option (List ℕ) → Option Told → Option Told → Type 0
LeaseEnded bytes status left before after old new = EndsShut bytes status left before after old new ⊎ EndsOpen bytes status left before after old new

-- what ends a run of a lease but a fault: a bad line, a line after the limit, want of memory, and, where it has one, a damaged record at an offset
abbrev pub lease_causes : (ℕ → Type 0) → Causes
lease_causes damaged = record no_causes { bad = λ line fault. ⊤; limit = λ what kept. (what ≡ Lines) × (kept ≡ most_lines); memory = ⊤; damaged = damaged }
