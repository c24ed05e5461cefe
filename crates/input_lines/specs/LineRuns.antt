-- A run over the lines of an input, whatever runs: what each line prints, where the run ends, and what is known of it by the status that it ends with.
use Rattle.std.specs.Prelude.{◌≡◌, ◌⊎◌, ℕ, ◌+◌, ◌≤◌, not, nat_lt, if◌then◌else◌, true, false, List, [], ◌∷◌, ◌++◌, length, Option, Some}
use Rattle.std.specs.List.{concat}
use Rattle.std.specs.Io.KnownBytes.{Appends, Consumes}
use Rattle.fuxi_io.specs.Causes.{TakesPart}
use Rattle.fuxi_io.specs.Lines.{InputLine, lines_of}
use Rattle.fuxi_io.specs.Reading.{read_ahead}
use Rattle.fuxi_io.specs.declared.status.InputFault.{InputFault}
use Rattle.fuxi_io.specs.declared.status.InputFault.TheVariants.{LineTooLong}
use Rattle.fuxi_io.specs.declared.status.LimitOf.{LimitOf}
use Rattle.fuxi_io.specs.declared.status.LimitOf.TheVariants.{Lines}
use Rattle.fuxi_io.specs.declared.status.Status.{Status}
use Rattle.fuxi_io.specs.declared.status.Status.TheVariants.{Done, Usage, BadInput, ReadFault, WriteFault, Limit, OutOfMemory, DiskFault, StaleEpoch, DamagedCheckpoint}
use Rattle.fuxi_terms.specs.Limits.{most_line_bytes, most_lines}
use Rattle.input_lines.specs.Contents.{content, is_skipped}
use Rattle.input_lines.specs.Wholes.{whole_lines, WritesLast}

-- where a run ends: at the end of the input, at a bad line, or at a limit, with the number that stands so far
pub data Ending : Type 0 where
  AtEnd : Ending
  AtBadLine : (line : ℕ) → (fault : InputFault) → Ending
  AtLimit : (what : LimitOf) → (kept : ℕ) → Ending

-- what each line that is not skipped printed, one after another; what is told of the state then; and where it ended
pub record Run (S : Type 0) : Type 0 where
  pub outputs : List (List ℕ)
  pub state : S
  pub ending : Ending

-- what a line that is not skipped makes of a state: it is bad, and why; it would pass a limit, with the number that stands so far, and is not taken; or
-- it prints a text and leaves a state
pub data Said (W : Type 0) : Type 0 where
  IsBad : (fault : InputFault) → Said W
  IsPast : (what : LimitOf) → (kept : ℕ) → Said W
  Prints : (text : List ℕ) → (after : W) → Said W

-- what runs: what a line says in a state, and what is told of a state at the end
pub record Runner (W S : Type 0) : Type 0 where
  pub says : W → List ℕ → Said W
  pub tells : W → S

abbrev pub ended : {S : Type 0} → S → Ending → Run S
ended s ending = record { outputs = []; state = s; ending = ending }

abbrev pub behind : {S : Type 0} → List ℕ → Run S → Run S
behind output r = record { outputs = output ∷ r.outputs; state = r.state; ending = r.ending }

abbrev pub behind_all : {S : Type 0} → List (List ℕ) → Run S → Run S
behind_all front r = record { outputs = front ++ r.outputs; state = r.state; ending = r.ending }

-- the line begins past the greatest number of lines, or is too long; else what it says decides
abbrev pub within_limits : {S : Type 0} → ℕ → S → InputLine → Run S → Run S
within_limits before s line run =
    if not (nat_lt before most_lines) then ended s (AtLimit Lines most_lines)
    else (if nat_lt most_line_bytes (length line.bytes) then ended s (AtBadLine (before + 1) LineTooLong) else run)

-- the run from the line with this number on, which says this
abbrev pub with_said : {W S : Type 0} → Runner W S → ℕ → W → Said W → (W → Run S) → Run S
with_said k number w (IsBad fault) run = ended (k.tells w) (AtBadLine number fault)
with_said k number w (IsPast what kept) run = ended (k.tells w) (AtLimit what kept)
with_said k number w (Prints text after) run = behind text (run after)

-- the run over these lines, so many lines having gone before
abbrev pub run_from : {W S : Type 0} → Runner W S → ℕ → W → List InputLine → Run S
run_from k before w [] = ended (k.tells w) AtEnd
run_from k before w (line ∷ lines) = within_limits before (k.tells w) line (elim (is_skipped (content line)) [
  | true ↦ run_from k (before + 1) w lines
  | false ↦ with_said k (before + 1) w (k.says w (content line)) (λ w. run_from k (before + 1) w lines)
])

-- how the end of a run is written: in which endings it is open while its source has not ended; what stands behind the outputs of a whole input, and the
-- same broken off; and both with those outputs before them
pub record Ends (W S : Type 0) : Type 1 where
  pub IsOpen : Ending → Type 0
  pub WritesFinal : W → Option (List ℕ) → Option (List ℕ) → Type 0
  pub BreaksFinal : W → Option (List ℕ) → Option (List ℕ) → Type 0
  pub WritesAll : Run S → Option (List ℕ) → Option (List ℕ) → Type 0
  pub BreaksAll : Run S → Option (List ℕ) → Option (List ℕ) → Type 0

-- behind a whole input these texts
abbrev pub final_text : {S : Type 0} → (S → List (List ℕ)) → S → Ending → List (List ℕ)
final_text texts s AtEnd = texts s
final_text texts s (AtBadLine line fault) = []
final_text texts s (AtLimit what kept) = []

-- what is written in the end: the outputs, and behind a whole input these texts
abbrev pub pieces : {S : Type 0} → (S → List (List ℕ)) → Run S → List (List ℕ)
pieces texts r = r.outputs ++ final_text texts r.state r.ending

-- a run that ends with one text, which the state has
abbrev pub text_ends : {W S : Type 0} → (Ending → Type 0) → (W → List ℕ) → (S → List (List ℕ)) → Ends W S
text_ends IsOpen text texts = record {
  IsOpen = IsOpen;
  WritesFinal = λ w before after. Appends before after (text w);
  BreaksFinal = λ w before after. TakesPart before after (text w);
  WritesAll = λ r before after. Appends before after (concat (pieces texts r));
  BreaksAll = λ r before after. WritesLast (pieces texts r) before after;
}

-- a source failed: the outputs of all whole lines that it gave before are written, and nothing else
pub record ReadsWhole {W S : Type 0} (e : Ends W S) (run : List InputLine → Run S) (bytes : List ℕ) (left before after : Option (List ℕ)) : Type 0 where
  pub given : List ℕ
  pub gave : Consumes (Some bytes) left given
  pub unended : e.IsOpen (run (whole_lines (lines_of given))).ending
  pub writes : Appends before after (concat (run (whole_lines (lines_of given))).outputs)

-- a run stopped within the output of the last of the lines that it took, or behind a whole input within what is written there;
-- the source gave these lines and a few bytes ahead
pub record StopsWithin {W S : Type 0} (e : Ends W S) (run : List InputLine → Run S) (bytes : List ℕ) (left before after : Option (List ℕ)) : Type 0 where
  pub lines : List InputLine
  pub behind : List ℕ
  pub cut : lines_of bytes ≡ lines ++ lines_of behind
  pub ahead : List ℕ
  pub gave : Consumes (Some behind) left ahead
  pub few : length ahead ≤ read_ahead
  pub writes : WritesLast (run lines).outputs before after ⊎ ((behind ≡ []) × e.BreaksAll (run lines) before after)

-- what a run over an input wrote that ended with a status, and what its source has left then
abbrev pub Ended : {W S : Type 0} → Ends W S → (List InputLine → Run S) → List ℕ → Status → Option (List ℕ) → Option (List ℕ) → Option (List ℕ) → Type 0
Ended e run bytes Done left before after = (left ≡ Some []) × ((run (lines_of bytes)).ending ≡ AtEnd) × e.WritesAll (run (lines_of bytes)) before after
Ended e run bytes (BadInput line fault) left before after = ((run (lines_of bytes)).ending ≡ AtBadLine line fault) × Appends before after (concat (run (lines_of bytes)).outputs)
Ended e run bytes (Limit what kept) left before after = ((run (lines_of bytes)).ending ≡ AtLimit what kept) × Appends before after (concat (run (lines_of bytes)).outputs)
Ended e run bytes ReadFault left before after = ReadsWhole e run bytes left before after
Ended e run bytes WriteFault left before after = StopsWithin e run bytes left before after
Ended e run bytes OutOfMemory left before after = StopsWithin e run bytes left before after
Ended e run bytes Usage left before after = ⊥
Ended e run bytes DiskFault left before after = ⊥
Ended e run bytes (StaleEpoch fence) left before after = ⊥
Ended e run bytes (DamagedCheckpoint offset) left before after = ⊥
