-- What holds in every state of a run.
use Rattle.std.specs.Prelude.{◌≡◌, ℕ, false, nat_eq, List, take}
use Rattle.fuxi_io.specs.Lines.{lines_of}
use Rattle.work_plan.specs.WorkStates.{AllRun}
use Rattle.work_plan.specs.AgentWithApps.{World, empty_world}
use Rattle.work_plan.specs.WorkLineRuns.{run_from}

-- the world behind so many of the first lines of an input, or where the run over them ended before
abbrev pub world_behind : List ℕ → ℕ → World
world_behind bytes n = (run_from 0 empty_world (take n (lines_of bytes))).state

-- in each of these worlds, where an agent runs, all that run do so as planned
pub record AllPlanned (bytes : List ℕ) : Type 0 where
  pub each : (n : ℕ) → nat_eq (world_behind bytes n).agent 0 ≡ false → AllRun (world_behind bytes n)
