-- What taking one line does.
use Rattle.std.specs.Prelude.{ℕ, List, Option, Result}
use Rattle.fuxi_io.specs.declared.status.LimitOf.TheVariants.{Packets, Bytes}
use Rattle.fuxi_io.specs.declared.status.Status.{Status}
use Rattle.fuxi_io.specs.declared.status.Status.TheVariants.{Limit, OutOfMemory}
use Rattle.schedule_replay.specs.declared.stop.WorldStop.{WorldStop}
use Rattle.schedule_replay.specs.declared.stop.WorldStop.TheVariants.{TooManyPackets, PoolBytes, OutOfMemory as WantOfMemory}
use Rattle.schedule_replay.specs.Worlds.{WorldRecord, IsWorld, StandsFor}
use Rattle.spec_world.specs.World.{World}
use Rattle.input_lines.specs.LineProgress.{TakesLine as Takes, TakesLineBehind as TakesBehind, Flushes, WritesEnd}
use Rattle.schedule_replay.specs.ScheduleRuns.{world_ends, world_runner}

-- what runs stands for a world to which inputs lead
pub record Stands (r : WorldRecord) (w : World) : Type 0 where
  pub is : IsWorld w
  pub stands : StandsFor r w

-- the status that a stop of the world means
abbrev pub world_status : WorldStop → Status
world_status (TooManyPackets kept) = Limit Packets kept
world_status (PoolBytes kept) = Limit Bytes kept
world_status WantOfMemory = OutOfMemory

-- what taking the line with this number wrote, and that what runs then stands for the world behind it
abbrev pub TakesLine : WorldRecord → List ℕ → ℕ → World → Result (Unit {0}) Status → Option (List ℕ) → Option (List ℕ) → Type 0
TakesLine new line number w result before after = Takes {A = Unit {0}} world_runner.says (Stands new) line number w result before after

-- the same where its text waits behind what waited, whatever world what ran stood for
abbrev pub TakesLineBehind : WorldRecord → WorldRecord → List ℕ → ℕ → Result (Unit {0}) Status → List ℕ → List ℕ → Option (List ℕ) → Option (List ℕ) → Type 0
TakesLineBehind old new line number result waiting left took now = TakesBehind world_runner.says (Stands old) (Stands new) line number result waiting left took now

-- what ending a run with this status wrote behind its last line
abbrev pub WritesState : World → Status → Option (List ℕ) → Option (List ℕ) → Type 0
WritesState w status before after = WritesEnd world_ends w status before after

-- what waited was written, and then the state was
abbrev pub WritesStateBehind : WorldRecord → Status → List ℕ → Option (List ℕ) → Option (List ℕ) → Type 0
WritesStateBehind r status waiting took now = Flushes waiting status took now (λ mid. (w : World) → Stands r w → WritesState w status mid now)
