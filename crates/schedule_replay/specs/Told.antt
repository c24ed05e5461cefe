-- What a run over an input tells, in terms of its cluster and its events.
use Rattle.std.specs.Prelude.{◌≡◌, ℕ, ◌-◌, List, take, Option, Ok, Err}
use Rattle.std.specs.Io.KnownBytes.{Appends}
use Rattle.fuxi_io.specs.Lines.{lines_of}
use Rattle.fuxi_io.specs.declared.status.InputFault.{InputFault}
use Rattle.schedule_replay.specs.ReplayTexts.{lines_text}
use Rattle.spec_world.specs.Runs.{text}
use Rattle.schedule_replay.specs.Inputs.{Input, input_from, input_of, told}

-- these bytes are an input, and this is its whole text: the lines of its events, and then the state
pub record IsText (bytes written : List ℕ) : Type 0 where
  pub input : Input
  pub is : input_of bytes ≡ Ok input
  pub whole : written ≡ lines_text (text input.cluster input.events)

-- this line is the first bad one, and what the lines before it print is this
pub record IsTextBefore (bytes : List ℕ) (line : ℕ) (fault : InputFault) (written : List ℕ) : Type 0 where
  pub bad : input_of bytes ≡ Err (record { line = line; fault = fault })
  pub before : written ≡ told (input_from 0 (take (line - 1) (lines_of bytes)))

-- so many lines at the front of an input print this
pub record IsFrontText (bytes written : List ℕ) : Type 0 where
  pub lines : ℕ
  pub before : written ≡ told (input_from 0 (take lines (lines_of bytes)))

-- a text of this kind was appended
abbrev pub Writes : (List ℕ → Type 0) → Option (List ℕ) → Option (List ℕ) → Type 0
Writes IsKind before after = (written : List ℕ) × IsKind written × Appends before after written

-- the cluster and the events of so many lines at the front of an input: what led to a state of its run
pub record LeadsTo (bytes : List ℕ) (i : Input) : Type 0 where
  pub lines : ℕ
  pub is : input_from 0 (take lines (lines_of bytes)) ≡ Ok i
