use Rattle.std.proofs.Common.{◌≡◌, ◌≢◌, ◌≤◌, false, length, Some, None, IfSome}
use Rattle.fuxi_io.specs.Reading.{rest_of, read_ahead}
use Rattle.fuxi_io.specs.declared.lines.LineStop.TheVariants.{ReadFault}
use Rattle.input_lines.specs.LineProgress.{Along}
use Rattle.input_lines.specs.Wholes.{IsReady}
use Rattle.fuxi_desk.specs.Preparing.{Stands, prepared_for}
use Rattle.fuxi_desk.specs.DeskRuns.{desk_runner}
use Rattle.fuxi_desk.proofs.run.run_lines.Given as goal
use Rattle.fuxi_terms.specs.Limits.{most_lines}

abbrev pub invariant-loop-turn : goal.invariant-loop-turn
invariant-loop-turn g l = record {
  along : IsReady l.fn.lines (g.S.Source.left l.fn.source) → IfSome (rest_of l.fn.lines (g.S.Source.left l.fn.source)) (λ bytes. Along desk_runner (prepared_for l.fn.cluster) bytes l.fn.lines.number l.lines.number l.lines.ended (Stands l.prepared) (rest_of l.lines (g.S.Source.left l.source)) (g.O.Sink.took l.fn.out) (g.O.Sink.took l.out));
  steps : l.prepared.node.master.steps ≤ l.turn;
  number : l.turn ≤ l.lines.number;
  small : 1 ≤ l.turn → l.lines.number ≤ most_lines;
  ahead : length l.lines.pending ≤ read_ahead;
  last : l.fn.lines.ended ≡ false → l.lines.ended ≡ false;
  running : l.fn.lines.stop ≡ None → l.lines.stop ≡ None;
  unstopped : l.lines.stop ≢ Some ReadFault;
  read : g.S.Source.faults l.fn.source ≤ g.S.Source.faults l.source;
  wrote : g.O.Sink.faults l.fn.out ≤ g.O.Sink.faults l.out;
}
