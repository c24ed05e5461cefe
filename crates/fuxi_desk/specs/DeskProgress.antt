-- What taking one line does.
use Rattle.std.specs.Prelude.{ℕ, List, Option, Result, Ok, Err, ⊤}
use Rattle.fuxi_io.specs.declared.status.Status.{Status}
use Rattle.fuxi_desk.specs.Preparing.{Prepared, PreparedRecord, Stands}
use Rattle.fuxi_desk.specs.DeskRuns.{desk_ends, desk_runner}
use Rattle.input_lines.specs.LineProgress.{TakesLine as Takes, WritesEnd}

-- what was answered stands for what is prepared; where the run ended, it is gone
abbrev pub StandsIn : Result PreparedRecord Status → Prepared → Type 0
StandsIn (Ok r) w = Stands r w
StandsIn (Err status) w = ⊤

-- what taking the line with this number wrote, and that the answer stands for what is prepared behind it
abbrev pub TakesLine : List ℕ → ℕ → Prepared → Result PreparedRecord Status → Option (List ℕ) → Option (List ℕ) → Type 0
TakesLine line number w result before after = Takes desk_runner.says (StandsIn result) line number w result before after

-- what ending a run with this status wrote behind its last line
abbrev pub WritesState : Prepared → Status → Option (List ℕ) → Option (List ℕ) → Type 0
WritesState w status before after = WritesEnd desk_ends w status before after
