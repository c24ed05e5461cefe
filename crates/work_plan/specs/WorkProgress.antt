-- What taking one line does.
use Rattle.std.specs.Prelude.{◌≡◌, ⊤, ℕ, List, Option, Result}
use Rattle.fuxi_io.specs.declared.status.LimitOf.TheVariants.{Packets}
use Rattle.fuxi_io.specs.declared.status.Status.{Status}
use Rattle.fuxi_io.specs.declared.status.Status.TheVariants.{Limit, OutOfMemory}
use Rattle.input_lines.specs.LineProgress.{TakesLine as Takes, WritesEnd}
use Rattle.input_lines.specs.RunEnds.{Causes, no_causes}
use Rattle.work_plan.specs.WorkWorlds.{Stands}
use Rattle.work_plan.specs.declared.stop.WorkStop.{WorkStop}
use Rattle.work_plan.specs.declared.stop.WorkStop.TheVariants.{TooManyPackets, OutOfMemory as WantOfMemory}
use Rattle.work_plan.specs.declared.working.Working.{Working}
use Rattle.work_plan.specs.AgentWithApps.{World}
use Rattle.work_plan.specs.WorkLineRuns.{work_causes, work_plan, work_runner}

-- the status that a stop of the world means
abbrev pub world_status : WorkStop → Status
world_status (TooManyPackets kept) = Limit Packets kept
world_status WantOfMemory = OutOfMemory

-- what taking the line with this number wrote, and that what runs then stands for the world behind it
abbrev pub TakesLine : Working → List ℕ → ℕ → World → Result (Unit {0}) Status → Option (List ℕ) → Option (List ℕ) → Type 0
TakesLine new line number w result before after = Takes {A = Unit {0}} work_runner.says (Stands new) line number w result before after

-- what ending a run with this status wrote behind its last line
abbrev pub WritesState : World → Status → Option (List ℕ) → Option (List ℕ) → Type 0
WritesState w status before after = WritesEnd work_plan w status before after

-- what stops a run at a line: no limit but that on packets; and at the end, where memory alone may be refused
abbrev pub line_causes : Causes
line_causes = record work_causes { limit = λ what kept. what ≡ Packets }

abbrev pub state_causes : Causes
state_causes = record no_causes { memory = ⊤ }
