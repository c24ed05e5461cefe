use Rattle.std.proofs.Common.{◌≡◌, ◌≤◌, true, None, IfSome}
use Rattle.fuxi_io.specs.Reading.{rest_of}
use Rattle.fuxi_terms.specs.Limits.{most_lines}
use Rattle.input_lines.specs.LineProgress.{Along}
use Rattle.work_plan.specs.WorkWorlds.{IsReached, Stands}
use Rattle.work_plan.specs.AgentWithApps.{empty_world}
use Rattle.work_plan.specs.WorkLineRuns.{work_runner}
use Rattle.work_plan.proofs.run.run_lines.Given as goal

abbrev pub invariant-loop-turn : goal.invariant-loop-turn
invariant-loop-turn g l = record {
  along : IfSome (g.S.Source.left l.fn.source) (λ bytes. Along work_runner empty_world bytes 0 l.lines.number true (Stands l.working) (rest_of l.lines (g.S.Source.left l.source)) (g.O.Sink.took l.fn.out) (g.O.Sink.took l.out));
  reached : IsReached l.working;
  events : l.working.events ≤ l.turn;
  number : l.turn ≤ l.lines.number;
  small : 1 ≤ l.turn → l.lines.number ≤ most_lines;
  running : l.lines.stop ≡ None;
  read : g.S.Source.faults l.source ≡ g.S.Source.faults l.fn.source;
  wrote : g.O.Sink.faults l.out ≡ g.O.Sink.faults l.fn.out;
}
