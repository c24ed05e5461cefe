-- Lines that were taken from the front of an input, and what is written where the last output breaks off.
use Rattle.std.specs.Prelude.{◌≡◌, ◌≢◌, ℕ, ◌-◌, ◌≤◌, Bool, true, false, filter, List, [], ◌∷◌, ◌++◌, length, take, Option, Some, None, slice_get}
use Rattle.std.specs.Option.{unwrap_or}
use Rattle.std.specs.List.{concat}
use Rattle.std.specs.Io.KnownBytes.{Appends, Consumes, IsAtEnd, prepend_known}
use Rattle.fuxi_io.specs.Lines.{InputLine, lines_of, BreaksOff, GivesKnown, IsFirst}
use Rattle.fuxi_io.specs.declared.lines.Got.TheVariants.{Line, End}
use Rattle.fuxi_io.specs.Reading.{Reading, rest_of, read_ahead}

-- the lines that a newline ends
abbrev pub whole_lines : List InputLine → List InputLine
whole_lines lines = filter (λ line. line.ended) lines

-- the lines taken all end with a newline, so whatever stands behind them is cut alike
pub record AreWhole (bytes left : List ℕ) (lines : List InputLine) : Type 0 where
  pub given : List ℕ
  pub is : bytes ≡ given ++ left
  pub alone : (more : List ℕ) → lines_of (given ++ more) ≡ lines ++ lines_of more
  pub whole : whole_lines lines ≡ lines

-- the same unless the last of them ended the input
pub record AreTaken (ended : Bool) (bytes left : List ℕ) (lines : List InputLine) : Type 0 where
  pub whole : ended ≡ true → AreWhole bytes left lines
  pub last : ended ≡ false → left ≡ []

-- a reader that has not stopped, and is at the end where its last line ended the input
pub record IsReady (reading : Reading) (left : Option (List ℕ)) : Type 0 where
  pub running : reading.stop ≡ None
  pub last : reading.ended ≡ false → IsAtEnd (rest_of reading left)

-- the lines taken, and what stands behind them; the source gave these lines and a few bytes ahead
pub record TakesSome (bytes : List ℕ) (left : Option (List ℕ)) (lines : List InputLine) : Type 0 where
  pub behind : List ℕ
  pub cut : lines_of bytes ≡ lines ++ lines_of behind
  pub ahead : List ℕ
  pub gave : Consumes (Some behind) left ahead
  pub few : length ahead ≤ read_ahead

-- all of these but the last are written whole, and of the last a part from its front
pub record WritesLast (all : List (List ℕ)) (before after : Option (List ℕ)) : Type 0 where
  pub part : ℕ
  pub writes : Appends before after (concat (take (length all - 1) all) ++ take part (unwrap_or (slice_get all (length all - 1)) []))

-- what a source gave up to its fault has these whole lines
pub record IsBroken (bytes : List ℕ) (left : Option (List ℕ)) (lines : List InputLine) : Type 0 where
  pub given : List ℕ
  pub gave : Consumes (Some bytes) left given
  pub whole : whole_lines (lines_of given) ≡ lines

-- the first line of what was left, and the bytes behind it
pub record IsNext (left : List ℕ) (line : InputLine) (rest : Option (List ℕ)) : Type 0 where
  pub behind : List ℕ
  pub is_left : rest ≡ Some behind
  pub first : IsFirst left line behind

-- Of every input from whose front lines are taken one by one: none, one more, the next, and the end; what stands behind a fault of its source; that
-- bytes are some lines; what waits in the reader, with what its source has left; outputs with one more behind them; and a last output that breaks off.
pub record TakesLines : Type 0 where
  pub none : (bytes : List ℕ) → AreWhole bytes bytes []
  pub more : (bytes left behind : List ℕ) (lines : List InputLine) (line : InputLine) → AreWhole bytes left lines → IsFirst left line behind → line.ended ≡ true → AreWhole bytes behind (lines ++ line ∷ [])
  pub next : (left : List ℕ) (line : InputLine) (old rest : Option (List ℕ)) → old ≡ Some left → GivesKnown Line old line rest → IsNext left line rest
  pub end : (left : List ℕ) (line : InputLine) (old rest : Option (List ℕ)) → old ≡ Some left → GivesKnown End old line rest → (left ≡ []) × (rest ≡ Some [])
  pub broken : (bytes left : List ℕ) (rest : Option (List ℕ)) (lines : List InputLine) → AreWhole bytes left lines → BreaksOff (Some left) rest → IsBroken bytes rest lines
  pub some : (bytes : List ℕ) → bytes ≢ [] → lines_of bytes ≢ []
  pub ahead : (pending left : List ℕ) (source : Option (List ℕ)) → prepend_known pending source ≡ Some left → Consumes (Some left) source pending
  pub no_more : (pending : List ℕ) (source : Option (List ℕ)) → prepend_known pending source ≡ Some [] → source ≡ Some []
  pub both : (front : List (List ℕ)) (x : List ℕ) (before now after : Option (List ℕ)) → Appends before now (concat front) → Appends now after x → Appends before after (concat (front ++ x ∷ []))
  pub all : (outputs : List (List ℕ)) (before after : Option (List ℕ)) → Appends before after (concat outputs) → WritesLast outputs before after
  pub last : (all front : List (List ℕ)) (x : List ℕ) (n : ℕ) (before now after : Option (List ℕ)) → all ≡ front ++ x ∷ [] → Appends before now (concat front) → Appends now after (take n x) → WritesLast all before after
