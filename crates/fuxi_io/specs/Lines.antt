-- The lines of an input. A line ends with a newline or with the input.
use Rattle.std.specs.Prelude.{◌≡◌, ◌≢◌, ℕ, Bool, true, false, ◌<◌, ◌≤◌, ◌==◌, if◌then◌else◌, List, [], ◌∷◌, ◌++◌, length, Option, Some, None, ⊤}
use Rattle.std.specs.Io.KnownBytes.{Consumes}
use Rattle.fuxi_io.specs.Pieces.{NoNewline}
use Rattle.fuxi_io.specs.declared.lines.Got.{Got}
use Rattle.fuxi_io.specs.declared.lines.Got.TheVariants.{Line, End}
use Rattle.fuxi_terms.specs.Limits.{most_line_bytes}

-- the bytes of a line, and whether a newline ended it
pub record InputLine : Type 0 where
  pub bytes : List ℕ
  pub ended : Bool

-- a byte before the first line
abbrev pub onto_first : ℕ → List InputLine → List InputLine
onto_first b [] = (record { bytes = b ∷ []; ended = false }) ∷ []
onto_first b (line ∷ lines) = (record { bytes = b ∷ line.bytes; ended = line.ended }) ∷ lines

-- the lines, without their newlines
abbrev pub lines_of : List ℕ → List InputLine
lines_of [] = []
lines_of (b ∷ bytes) = if b == 10 then (record { bytes = []; ended = true }) ∷ lines_of bytes else onto_first b (lines_of bytes)

-- there is a first line, and it has more than so many bytes
abbrev pub FirstLonger : ℕ → List InputLine → Type 0
FirstLonger limit [] = ⊥
FirstLonger limit (line ∷ lines) = limit < length line.bytes

-- a line as it stands in the input
abbrev pub bytes_of : InputLine → List ℕ
bytes_of line = if line.ended then line.bytes ++ 10 ∷ [] else line.bytes

-- the line is the first of the old bytes, and the new ones stand behind it
pub record IsFirst (old : List ℕ) (line : InputLine) (new : List ℕ) : Type 0 where
  pub cut : old ≡ bytes_of line ++ new
  pub first : lines_of old ≡ line ∷ lines_of new
  pub short : length line.bytes ≤ most_line_bytes
  -- a line that a newline ends is the first, whatever stands behind it; nothing stands behind another one
  pub alone : line.ended ≡ true → (more : List ℕ) → lines_of (bytes_of line ++ more) ≡ line ∷ lines_of more
  pub last : line.ended ≡ false → new ≡ []

-- what came of the bytes that were left, and what is left then
abbrev pub Gives : Got → List ℕ → InputLine → List ℕ → Type 0
Gives Line old line new = IsFirst old line new
Gives End old line new = (old ≡ []) × (new ≡ [])

-- the same where the bytes are known; what was known stays known
abbrev pub GivesKnown : Got → Option (List ℕ) → InputLine → Option (List ℕ) → Type 0
GivesKnown got None line new = ⊤
GivesKnown got (Some old) line None = ⊥
GivesKnown got (Some old) line (Some new) = Gives got old line new

-- a reading broke off: what was given of the bytes that were left is the beginning of one line
pub record BreaksOff (old new : Option (List ℕ)) : Type 0 where
  pub part : List ℕ
  pub gave : Consumes old new part
  pub plain : NoNewline part

-- where the bytes that are left are known, their first line is too long
abbrev pub FirstTooLongKnown : Option (List ℕ) → Type 0
FirstTooLongKnown None = ⊤
FirstTooLongKnown (Some old) = FirstLonger most_line_bytes (lines_of old)

-- where the bytes that are left are known, there are some
abbrev pub MoreKnown : Option (List ℕ) → Type 0
MoreKnown None = ⊤
MoreKnown (Some old) = old ≢ []
