-- What a line makes of the lease, and leaves of the disk.
use Rattle.std.proofs.Common.{◌≡◌, ◌⊎◌, inr, ℕ, false, List, [], ◌∷◌, ◌++◌, Option, None, Some, Ok, Err, refl, sym, ◌∙◌, ap, subst}
use Rattle.std.specs.Io.KnownBytes.{Appends}
use Rattle.std.specs.List.{AllByRecursion}
use Rattle.fuxi_io.specs.Causes.{TakesPart}
use Rattle.fuxi_io.specs.Disks.{Moment, Told, Leaves, LeavesAlways, WhereTold}
use Rattle.fuxi_io.specs.declared.status.Status.{Status}
use Rattle.fuxi_io.specs.declared.status.Status.TheVariants.{Done, Usage, BadInput, ReadFault, WriteFault, Limit, OutOfMemory, DiskFault, StaleEpoch, DamagedCheckpoint}
use Rattle.hard_state.specs.HardFiles.{IsAtRest}
use Rattle.schedule_text.specs.ReadEvents.{IsFault}
use Rattle.schedule_text.specs.declared.event.LineFault.{LineFault}
use Rattle.schedule_text.specs.declared.event.LineFault.TheVariants.{UnknownWord, WrongCount, BadNumber, Range, OutOfMemory as LineOutOfMemory}
use Rattle.input_lines.specs.Contents.{is_skipped}
use Rattle.input_lines.specs.LineProgress.{IsTaken}
use Rattle.input_lines.specs.LineRuns.{Prints}
use Rattle.input_lines.specs.InputStatuses.{event_status}
use Rattle.epoch_lease.specs.declared.event.LeaseEvent.{LeaseEvent}
use Rattle.epoch_lease.specs.declared.event.LeaseFault.{LeaseFault}
use Rattle.epoch_lease.specs.declared.event.LeaseFault.TheVariants.{NotCheckpoint, DiskFault as NoDisk, OutOfMemory as NoMemory}
use Rattle.epoch_lease.specs.Files.{KeptLease, Endures, LeavesStep, OpensAs, OpensLease, lease_of}
use Rattle.epoch_lease.specs.declared.event.LeaseOut.{LeaseOut}
use Rattle.epoch_lease.specs.Leases.{LeaseState, becomes, lease_step}
use Rattle.epoch_lease.specs.LeaseLines.{lease_event}
use Rattle.epoch_lease.specs.LeaseEnds.{HasFile, HasEither}
use Rattle.epoch_lease.specs.LeaseProgress.{fault_status, after_said, LeavesLine, Rests, TakesLine}
use Rattle.epoch_lease.specs.LeaseRuns.{lease_runner, said_of}
use Rattle.epoch_lease.specs.LeaseTexts.{answer_text}

-- a line is no event, or its event made this of the lease and was answered so
pub bad_line : (line : List ℕ) (number : ℕ) (s : LeaseState) (fault : LineFault) (took : Option (List ℕ)) → is_skipped line ≡ false → IsFault (lease_event line) fault → TakesLine line number s s (Err (event_status fault number)) took took
bad_line line number s UnknownWord took unskipped is = (unskipped, ap (said_of s) is, refl, refl, refl)
bad_line line number s WrongCount took unskipped is = (unskipped, ap (said_of s) is, refl, refl, refl)
bad_line line number s (BadNumber place) took unskipped is = (unskipped, ap (said_of s) is, refl, refl, refl)
bad_line line number s (Range place) took unskipped is = (unskipped, ap (said_of s) is, refl, refl, refl)
bad_line line number s LineOutOfMemory took unskipped is = (unskipped, refl, refl)

answers : (line : List ℕ) (s after : LeaseState) (event : LeaseEvent) (answer : LeaseOut) → lease_event line ≡ Ok event → lease_step s event ≡ becomes after answer → IsTaken lease_runner.says (λ x. after ≡ x) line s (answer_text answer)
answers line s after event answer is steps = record { after = after; is = ap (said_of s) is ∙ ap (λ x. Prints (answer_text x.answer) x.state) steps; stands = refl }

pub answered : (line : List ℕ) (number : ℕ) (s after : LeaseState) (event : LeaseEvent) (answer : LeaseOut) (w0 w : Option (List ℕ)) → is_skipped line ≡ false → lease_event line ≡ Ok event → lease_step s event ≡ becomes after answer → Appends w0 w (answer_text answer)
    → TakesLine line number s after (Ok tt) w0 w
answered line number s after event answer w0 w unskipped is steps writes = inr (unskipped, (answer_text answer, answers line s after event answer is steps, writes))

pub answered_in_part : (line : List ℕ) (number : ℕ) (s after : LeaseState) (event : LeaseEvent) (answer : LeaseOut) (w0 w : Option (List ℕ)) → is_skipped line ≡ false → lease_event line ≡ Ok event → lease_step s event ≡ becomes after answer → TakesPart w0 w (answer_text answer)
    → TakesLine line number s after (Err WriteFault) w0 w
answered_in_part line number s after event answer w0 w unskipped is steps writes = (unskipped, (answer_text answer, answers line s after event answer is steps, writes))

-- what holds always holds at the end
always_now : (P : List ℕ → Type 0) (old new : Told) → LeavesAlways P old new → Leaves P new.now
always_now P old new all = go all.since all.reached all.each
  where
    go : (since : List Moment) → new.now ∷ new.before ≡ since ++ old.now ∷ old.before → AllByRecursion (Leaves P) since → Leaves P new.now
    go [] reached each = let same : old.now ≡ new.now = cc in subst (Leaves P) same all.first
    go (m ∷ ms) reached each = let same : m ≡ new.now = cc in subst (Leaves P) same each.0

-- a checkpoint at rest is safe, which is a law
abbrev pub AllEndure : Type 0
AllEndure = (k : KeptLease) (moment : Moment) → IsAtRest k.hard moment → Endures k moment

pub skips : AllEndure → (line : List ℕ) (k : KeptLease) (told : Option Told) → WhereTold (LeavesLine line (Ok tt) k k) told told
skips safe line k None = tt
skips safe line k (Some t) = safe k t.now

pub is_bad : AllEndure → (line : List ℕ) (fault : LineFault) (number : ℕ) (k : KeptLease) (told : Option Told) → WhereTold (LeavesLine line (Err (event_status fault number)) k k) told told
is_bad safe line fault number k None = tt
is_bad safe line UnknownWord number k (Some t) = safe k t.now
is_bad safe line WrongCount number k (Some t) = safe k t.now
is_bad safe line (BadNumber place) number k (Some t) = safe k t.now
is_bad safe line (Range place) number k (Some t) = safe k t.now
is_bad safe line LineOutOfMemory number k (Some t) = safe k t.now

pub fails : (line : List ℕ) (event : LeaseEvent) (fault : LeaseFault) (before after : KeptLease) (old new : Option Told) → lease_event line ≡ Ok event
    → WhereTold (LeavesStep before after (lease_step (lease_of before) event).state (Err fault)) old new → WhereTold (LeavesLine line (Err (fault_status fault)) before after) old new
fails line event fault before after None new is leaves = tt
fails line event fault before after (Some t) None is leaves = absurd leaves
fails line event (NotCheckpoint offset) before after (Some t) (Some u) is leaves = λ rest. (leaves rest).answered
fails line event NoDisk before after (Some t) (Some u) is leaves = λ rest.
    subst (λ (s : LeaseState). Leaves (λ file. OpensAs (lease_of before) file ⊎ OpensAs s file) u.now) (ap (after_said (lease_of before)) (sym is)) (always_now _ t u (leaves rest).either)
fails line event NoMemory before after (Some t) (Some u) is leaves = λ rest. (leaves rest).answered

-- from a file that stands for the lease: it stands for the lease behind a line
pub goes_on : (k after : KeptLease) (before old new : Option Told) → Rests before k old → WhereTold (λ t u. IsAtRest k.hard t.now → Endures after u.now) old new → Rests before after new
goes_on k after None old new rests leaves = tt
goes_on k after (Some t) None new rests leaves = absurd rests
goes_on k after (Some t) (Some u) None rests leaves = absurd leaves
goes_on k after (Some t) (Some u) (Some v) rests leaves = leaves rests.rest

pub has_file : (k : KeptLease) (before now : Option Told) → Rests before k now → HasFile before now (lease_of k)
has_file k None now rests = tt
has_file k (Some t) None rests = absurd rests
has_file k (Some t) (Some u) rests = rests.leaves

-- what is left of it by the status with which a line ends the run
abbrev pub FileBehind : Status → List ℕ → LeaseState → LeaseState → Option Told → Option Told → Type 0
FileBehind DiskFault line s after before now = HasEither before now s (after_said s (lease_event line))
FileBehind status line s after before now = HasFile before now after

pub file_behind : (status : Status) (line : List ℕ) (k after : KeptLease) (before old new : Option Told) → Rests before k old → WhereTold (LeavesLine line (Err status) k after) old new
    → FileBehind status line (lease_of k) (lease_of after) before new
file_behind DiskFault line k after None old new rests leaves = tt
file_behind DiskFault line k after (Some t) None new rests leaves = absurd rests
file_behind DiskFault line k after (Some t) (Some u) None rests leaves = absurd leaves
file_behind DiskFault line k after (Some t) (Some u) (Some v) rests leaves = leaves rests.rest
file_behind Done line k after before old new rests leaves = has_file after before new (goes_on k after before old new rests leaves)
file_behind Usage line k after before old new rests leaves = has_file after before new (goes_on k after before old new rests leaves)
file_behind (BadInput n fault) line k after before old new rests leaves = has_file after before new (goes_on k after before old new rests leaves)
file_behind ReadFault line k after before old new rests leaves = has_file after before new (goes_on k after before old new rests leaves)
file_behind WriteFault line k after before old new rests leaves = has_file after before new (goes_on k after before old new rests leaves)
file_behind (Limit what kept) line k after before old new rests leaves = has_file after before new (goes_on k after before old new rests leaves)
file_behind OutOfMemory line k after before old new rests leaves = has_file after before new (goes_on k after before old new rests leaves)
file_behind (StaleEpoch fence) line k after before old new rests leaves = has_file after before new (goes_on k after before old new rests leaves)
file_behind (DamagedCheckpoint offset) line k after before old new rests leaves = has_file after before new (goes_on k after before old new rests leaves)

-- a lease that was opened
pub opened : (k : KeptLease) (old new : Option Told) → WhereTold (OpensLease k) old new → Rests old k new
opened k None new opens = tt
opened k (Some t) None opens = absurd opens
opened k (Some t) (Some u) opens = opens.endures
