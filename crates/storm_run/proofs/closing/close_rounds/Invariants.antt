use Rattle.std.proofs.Common.{◌+◌, ◌*◌, ◌≤◌, Ok}
use Rattle.schedule_replay.specs.Worlds.{IsReached}
use Rattle.storm_run.specs.Storms.{rounds}
use Rattle.storm_run.specs.StormRuns.{Runs}
use Rattle.storm_run.proofs.closing.close_rounds.Given as goal

abbrev pub invariant-loop-turn : goal.invariant-loop-turn
invariant-loop-turn l = record {
  runs : Runs (rounds l.turn) l.fn.run (Ok l.run);
  reached : IsReached l.run;
  events : l.run.events ≤ l.fn.run.events + 19 * l.turn;
}
