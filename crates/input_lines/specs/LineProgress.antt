-- How far a run over lines has come, and what taking one line does.
use Rattle.std.specs.Prelude.{◌≡◌, ◌⊎◌, ℕ, Bool, true, false, List, ◌++◌, Option, Some, Result, Ok, Err}
use Rattle.std.specs.Io.KnownBytes.{Appends}
use Rattle.std.specs.List.{concat}
use Rattle.fuxi_io.specs.Causes.{TakesPart}
use Rattle.fuxi_io.specs.Lines.{InputLine, lines_of}
use Rattle.fuxi_io.specs.WriteBuffers.{with_waiting}
use Rattle.fuxi_io.specs.declared.status.Status.{Status}
use Rattle.fuxi_io.specs.declared.status.Status.TheVariants.{Done, Usage, BadInput, ReadFault, WriteFault, Limit, OutOfMemory, DiskFault, StaleEpoch, DamagedCheckpoint}
use Rattle.input_lines.specs.Contents.{is_skipped}
use Rattle.input_lines.specs.LineRuns.{AtEnd, Run, Said, IsBad, IsPast, Prints, Runner, Ends, behind_all, run_from, StopsWithin}
use Rattle.input_lines.specs.Wholes.{AreTaken}

-- the line prints this text in the state, and leaves one for which what runs stands
pub record IsTaken {W : Type 0} (says : W → List ℕ → Said W) (Stands : W → Type 0) (line : List ℕ) (w : W) (text : List ℕ) : Type 0 where
  pub after : W
  pub is : says w line ≡ Prints text after
  pub stands : Stands after

-- what taking the line with this number wrote, and for which state what runs stands then, where its text was begun
abbrev pub TakesLine : {W A : Type 0} → (W → List ℕ → Said W) → (W → Type 0) → List ℕ → ℕ → W → Result A Status → Option (List ℕ) → Option (List ℕ) → Type 0
TakesLine says Stands line number w (Ok done) before after =
    ((is_skipped line ≡ true) × Stands w × (after ≡ before)) ⊎ ((is_skipped line ≡ false) × ((text : List ℕ) × IsTaken says Stands line w text × Appends before after text))
TakesLine says Stands line number w (Err (BadInput n fault)) before after = (is_skipped line ≡ false) × (says w line ≡ IsBad fault) × (n ≡ number) × (after ≡ before)
TakesLine says Stands line number w (Err (Limit what kept)) before after = (is_skipped line ≡ false) × (says w line ≡ IsPast what kept) × (after ≡ before)
TakesLine says Stands line number w (Err WriteFault) before after = (is_skipped line ≡ false) × ((text : List ℕ) × IsTaken says Stands line w text × TakesPart before after text)
TakesLine says Stands line number w (Err OutOfMemory) before after = (is_skipped line ≡ false) × (after ≡ before)
TakesLine says Stands line number w (Err Done) before after = ⊥
TakesLine says Stands line number w (Err Usage) before after = ⊥
TakesLine says Stands line number w (Err ReadFault) before after = ⊥
TakesLine says Stands line number w (Err DiskFault) before after = ⊥
TakesLine says Stands line number w (Err (StaleEpoch fence)) before after = ⊥
TakesLine says Stands line number w (Err (DamagedCheckpoint offset)) before after = ⊥

-- what waited was written, and then this was done; or a part of it was, which is a fault
abbrev pub Flushes : List ℕ → Status → Option (List ℕ) → Option (List ℕ) → (Option (List ℕ) → Type 0) → Type 0
Flushes waiting status took now does = ((status ≡ WriteFault) × TakesPart took now waiting) ⊎ ((mid : Option (List ℕ)) × Appends took mid waiting × does mid)

-- what was taken and what waits are together what they were
abbrev pub StaysWaiting : Option (List ℕ) → List ℕ → Option (List ℕ) → List ℕ → Type 0
StaysWaiting took waiting now left = (before : Option (List ℕ)) (text : List ℕ) → Appends before (with_waiting took waiting) text → Appends before (with_waiting now left) text

-- what taking the line with this number did where its text waits behind what waited
abbrev pub TakesLineBehind : {W : Type 0} → (W → List ℕ → Said W) → (W → Type 0) → (W → Type 0) → List ℕ → ℕ → Result (Unit {0}) Status → List ℕ → List ℕ → Option (List ℕ) → Option (List ℕ) → Type 0
TakesLineBehind {W} says Stood Stands line number (Ok done) waiting left took now =
    ((w : W) → Stood w → TakesLine says Stands line number w (Ok done) (with_waiting took waiting) (with_waiting now left))
    × ((after : Option (List ℕ)) → TakesPart now after left → Flushes waiting WriteFault took after (λ mid. (w : W) → Stood w → TakesLine {A = Unit {0}} says Stands line number w (Err WriteFault) mid after))
TakesLineBehind {W} says Stood Stands line number (Err status) waiting left took now = Flushes waiting status took now (λ mid. (w : W) → Stood w → TakesLine {A = Unit {0}} says Stands line number w (Err status) mid now)

-- whatever part of what waits was taken, the run stopped within the output of a line that it took
abbrev pub MayBreak : {W S : Type 0} → Ends W S → (List InputLine → Run S) → List ℕ → Option (List ℕ) → Option (List ℕ) → Option (List ℕ) → List ℕ → Type 0
MayBreak e run bytes left before now waiting = (after : Option (List ℕ)) → TakesPart now after waiting → StopsWithin e run bytes left before after

-- what ending a run in this state with this status wrote behind its last line
abbrev pub WritesEnd : {W S : Type 0} → Ends W S → W → Status → Option (List ℕ) → Option (List ℕ) → Type 0
WritesEnd e w Done before after = e.WritesFinal w before after
WritesEnd e w WriteFault before after = e.BreaksFinal w before after
WritesEnd e w OutOfMemory before after = after ≡ before
WritesEnd e w Usage before after = ⊥
WritesEnd e w (BadInput n fault) before after = ⊥
WritesEnd e w ReadFault before after = ⊥
WritesEnd e w (Limit what kept) before after = ⊥
WritesEnd e w DiskFault before after = ⊥
WritesEnd e w (StaleEpoch fence) before after = ⊥
WritesEnd e w (DamagedCheckpoint offset) before after = ⊥

-- that what a run writes at its end is this: one at its end is open, and behind all outputs stands what is written of its state, whole or broken off
pub record WritesItsEnd {W S : Type 0} (k : Runner W S) (e : Ends W S) : Type 0 where
  pub unended : e.IsOpen AtEnd
  pub all : (r : Run S) (w : W) (before now after : Option (List ℕ)) → r.state ≡ k.tells w → r.ending ≡ AtEnd → Appends before now (concat r.outputs) → e.WritesFinal w now after → e.WritesAll r before after
  pub part : (r : Run S) (w : W) (before now after : Option (List ℕ)) → r.state ≡ k.tells w → r.ending ≡ AtEnd → Appends before now (concat r.outputs) → e.BreaksFinal w now after → e.BreaksAll r before after

-- of a run over the bytes of an input, so many lines having gone before it: the lines taken and the bytes that are left, what was printed, and the state
-- now, for which what runs stands
pub record Along {W S : Type 0} (k : Runner W S) (start : W) (bytes : List ℕ) (first number : ℕ) (ended : Bool) (Stands : W → Type 0) (rest before after : Option (List ℕ)) : Type 0 where
  pub lines : List InputLine
  pub left : List ℕ
  pub is_left : rest ≡ Some left
  pub cut : lines_of bytes ≡ lines ++ lines_of left
  pub taken : AreTaken ended bytes left lines
  pub front : List (List ℕ)
  pub writes : Appends before after (concat front)
  pub state : W
  pub stands : Stands state
  pub through : (more : List InputLine) → run_from k first start (lines ++ more) ≡ behind_all front (run_from k number state more)
