use Rattle.std.proofs.Common.{◌≡◌, ◌≢◌, ◌≤◌, false, length, Some, None, IfSome}
use Rattle.fuxi_io.specs.Reading.{rest_of, read_ahead}
use Rattle.fuxi_io.specs.WriteBuffers.{with_waiting}
use Rattle.fuxi_io.specs.declared.lines.LineStop.TheVariants.{ReadFault}
use Rattle.spec_world.specs.World.{empty_world}
use Rattle.input_lines.specs.LineProgress.{Along, MayBreak}
use Rattle.input_lines.specs.Wholes.{IsReady}
use Rattle.schedule_replay.specs.Worlds.{IsReached}
use Rattle.schedule_replay.specs.ScheduleProgress.{Stands}
use Rattle.schedule_replay.specs.ScheduleRuns.{run_from, world_ends, world_runner}
use Rattle.schedule_replay.proofs.run.run_lines.Given as goal
use Rattle.fuxi_terms.specs.Limits.{most_lines}

abbrev pub invariant-loop-turn : goal.invariant-loop-turn
invariant-loop-turn g l = record {
  along : IsReady l.fn.lines (g.S.Source.left l.fn.source) → IfSome (rest_of l.fn.lines (g.S.Source.left l.fn.source)) (λ bytes. Along world_runner (empty_world l.fn.cluster) bytes l.fn.lines.number l.lines.number l.lines.ended (Stands l.running) (rest_of l.lines (g.S.Source.left l.source)) (g.O.Sink.took l.fn.out) (with_waiting (g.O.Sink.took l.out) l.waiting));
  cut : IsReady l.fn.lines (g.S.Source.left l.fn.source) → IfSome (rest_of l.fn.lines (g.S.Source.left l.fn.source)) (λ bytes. MayBreak world_ends (run_from l.fn.lines.number (empty_world l.fn.cluster)) bytes (g.S.Source.left l.source) (g.O.Sink.took l.fn.out) (g.O.Sink.took l.out) l.waiting);
  reached : IsReached l.running;
  events : l.running.events ≤ l.turn;
  number : l.turn ≤ l.lines.number;
  small : 1 ≤ l.turn → l.lines.number ≤ most_lines;
  ahead : length l.lines.pending ≤ read_ahead;
  last : l.fn.lines.ended ≡ false → l.lines.ended ≡ false;
  running : l.fn.lines.stop ≡ None → l.lines.stop ≡ None;
  unstopped : l.lines.stop ≢ Some ReadFault;
  read : g.S.Source.faults l.source ≡ g.S.Source.faults l.fn.source;
  wrote : g.O.Sink.faults l.out ≡ g.O.Sink.faults l.fn.out;
}
