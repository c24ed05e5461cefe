use Rattle.std.proofs.Common.{◌+◌, ◌*◌, ◌≤◌, Ok}
use Rattle.schedule_replay.specs.Worlds.{IsReached}
use Rattle.storm_run.specs.Storms.{all_stepped, storm_at}
use Rattle.storm_run.specs.StormRuns.{Steps}
use Rattle.storm_run.proofs.steps.step_all.Given as goal

abbrev pub invariant-loop-turn : goal.invariant-loop-turn
invariant-loop-turn l = record {
  steps : Steps (λ w. all_stepped l.turn (storm_at w l.fn.generator)) l.fn.run (Ok l.run) l.generator;
  reached : IsReached l.run;
  events : l.run.events ≤ l.fn.run.events + 2 * l.turn;
}
