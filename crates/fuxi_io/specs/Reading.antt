-- What a line reader is seen as.
use Rattle.std.specs.Prelude.{ℕ, Bool, ◌+◌, List, Option, Some, None, Result, Ok, Err}
use Rattle.std.specs.Io.KnownBytes.{prepend_known}
use Rattle.fuxi_io.specs.Lines.{InputLine}
use Rattle.fuxi_io.specs.declared.lines.Got.{Got}
use Rattle.fuxi_io.specs.declared.lines.Got.TheVariants.{Line, End}
use Rattle.fuxi_io.specs.declared.lines.LineStop.{LineStop}

-- the bytes that were read and not yet given, the last line and whether a newline ended it, how many lines were given, and what ended the reading
pub record Reading : Type 0 where
  pub pending : List ℕ
  pub line : List ℕ
  pub ended : Bool
  pub number : ℕ
  pub stop : Option LineStop

-- how many bytes are read before they are needed, at most
abbrev pub read_ahead : ℕ
read_ahead = 16384

-- the last line as one of the input's
abbrev pub line_of : Reading → InputLine
line_of reading = record { bytes = reading.line; ended = reading.ended }

-- the bytes that are still to be given: those that wait in the reader, and what its source has left
abbrev pub rest_of : Reading → Option (List ℕ) → Option (List ℕ)
rest_of reading left = prepend_known reading.pending left

-- what an answer says of the end of the reading
abbrev pub stop_of : Result Got LineStop → Option LineStop
stop_of (Ok got) = None
stop_of (Err stop) = Some stop

-- how many lines were given after an answer
abbrev pub number_after : ℕ → Result Got LineStop → ℕ
number_after number (Ok Line) = number + 1
number_after number (Ok End) = number
number_after number (Err stop) = number
