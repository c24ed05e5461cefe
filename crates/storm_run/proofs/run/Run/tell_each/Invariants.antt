use Rattle.std.proofs.Common.{◌+◌, ◌≤◌, Ok}
use Rattle.schedule_replay.specs.Worlds.{IsReached}
use Rattle.storm_run.specs.Storms.{taken, each}
use Rattle.storm_run.specs.StormRuns.{told, Runs}
use Rattle.storm_run.proofs.run.Run.tell_each.Given as goal

abbrev pub invariant-loop-number : goal.invariant-loop-number
invariant-loop-number l = record {
  runs : Runs (each l.number (λ n w. taken w (told l.order n))) l.fn.self (Ok l.self);
  reached : IsReached l.self;
  events : l.self.events ≤ l.fn.self.events + l.number;
}
