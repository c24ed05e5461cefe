-- How a desk goes over the lines of an input, and what is known of it by the status that it ends with.
use Rattle.std.specs.Prelude.{ℕ, Bool, true, false, Result, Ok, Err, List, [], ◌∷◌, ◌++◌, Option, Some, None}
use Rattle.std.specs.List.{concat}
use Rattle.std.specs.Io.KnownBytes.{Appends}
use Rattle.fuxi_io.specs.Causes.{TakesPart}
use Rattle.fuxi_io.specs.Lines.{InputLine, lines_of}
use Rattle.fuxi_io.specs.declared.status.LimitOf.TheVariants.{Calls}
use Rattle.fuxi_io.specs.declared.status.Status.{Status}
use Rattle.schedule_text.specs.declared.event.LineFault.{LineFault}
use Rattle.master_desk.specs.CallOrders.{most_calls}
use Rattle.fuxi_desk.specs.DeskLines.{DeskEvent, desk_event}
use Rattle.fuxi_desk.specs.Preparing.{Prepared, desk_step, is_past, prepared_for}
use Rattle.fuxi_desk.specs.DeskTexts.{IsDeskText}
use Rattle.input_lines.specs.LineRuns.{Run, Said, IsBad, IsPast, Prints, Runner, Ends, run_from as runs_from, Ended as EndedSo}
use Rattle.input_lines.specs.OpenedRuns.{Opener, IsOpen, read_from as reads_from}
use Rattle.input_lines.specs.InputStatuses.{event_fault}
use Rattle.input_lines.specs.Wholes.{WritesLast}

-- a call past the limit is not taken; else the line prints its text
abbrev pub unless_past : Prepared → DeskEvent → Bool → Said Prepared
unless_past w event true = IsPast Calls most_calls
unless_past w event false = let s = desk_step w event in Prints s.text s.prepared

-- what a line says of what is prepared
abbrev pub said_of : Prepared → Result DeskEvent LineFault → Said Prepared
said_of w (Err fault) = IsBad (event_fault fault)
said_of w (Ok event) = unless_past w event (is_past w event)

-- what is prepared, as what runs over lines, and behind the line that describes the cluster
abbrev pub desk_runner : Runner Prepared (Option Prepared)
desk_runner = record { says = λ w line. said_of w (desk_event line); tells = λ w. Some w }

abbrev pub desk_opener : Opener Prepared (Option Prepared)
desk_opener = record { runner = desk_runner; start = prepared_for; unopened = None }

-- the run over these lines, so many lines having gone before: what each line printed, what is prepared then, and where it ended
abbrev pub run_from : ℕ → Prepared → List InputLine → Run (Option Prepared)
run_from before w lines = runs_from desk_runner before w lines

-- the run over these lines, of which the first that is not skipped describes the cluster
abbrev pub read_from : ℕ → List InputLine → Run (Option Prepared)
read_from before lines = reads_from desk_opener before lines

-- the run over the bytes of a whole input
abbrev pub run_of : List ℕ → Run (Option Prepared)
run_of bytes = read_from 0 (lines_of bytes)

-- what is written behind a whole input
abbrev pub IsFinal : Option Prepared → List ℕ → Type 0
IsFinal None text = ⊥
IsFinal (Some p) text = IsDeskText p text

-- it was written, or a part of it
pub record WritesText (w : Prepared) (before after : Option (List ℕ)) : Type 0 where
  pub text : List ℕ
  pub final : IsDeskText w text
  pub writes : Appends before after text

pub record WritesPart (w : Prepared) (before after : Option (List ℕ)) : Type 0 where
  pub text : List ℕ
  pub final : IsDeskText w text
  pub writes : TakesPart before after text

abbrev pub pieces : Run (Option Prepared) → List ℕ → List (List ℕ)
pieces r text = r.outputs ++ text ∷ []

-- the outputs of all lines, and the text behind them
pub record WritesAll (r : Run (Option Prepared)) (before after : Option (List ℕ)) : Type 0 where
  pub text : List ℕ
  pub final : IsFinal r.state text
  pub writes : Appends before after (concat (pieces r text))

-- the same broken off within the text
pub record BreaksText (r : Run (Option Prepared)) (before after : Option (List ℕ)) : Type 0 where
  pub text : List ℕ
  pub final : IsFinal r.state text
  pub writes : WritesLast (pieces r text) before after

abbrev pub desk_ends : Ends Prepared (Option Prepared)
desk_ends = record { IsOpen = IsOpen; WritesFinal = WritesText; BreaksFinal = WritesPart; WritesAll = WritesAll; BreaksAll = BreaksText }

-- what a run over an input wrote that ended with a status, and what its source has left then
abbrev pub Ended : (List InputLine → Run (Option Prepared)) → List ℕ → Status → Option (List ℕ) → Option (List ℕ) → Option (List ℕ) → Type 0
Ended run bytes status left before after = EndedSo desk_ends run bytes status left before after
