use Rattle.std.proofs.Common.{◌≡◌, ◌++◌}
use Rattle.schedule_replay.specs.Worlds.{IsWorld, StandsFor}
use Rattle.spec_world.specs.World.{World}
use Rattle.storm_run.specs.Summaries.{count_lines}
use Rattle.storm_run.proofs.summary.write_counts.Given as goal

abbrev pub invariant-loop-number : goal.invariant-loop-number
invariant-loop-number l = (w : World) → IsWorld w → StandsFor l.running w → l.out.items ≡ l.fn.out.items ++ count_lines l.what l.number w
