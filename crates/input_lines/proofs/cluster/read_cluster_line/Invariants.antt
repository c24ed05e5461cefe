use Rattle.std.proofs.Common.{◌≡◌, ◌≢◌, ◌≤◌, length, Some, None, IfSome}
use Rattle.fuxi_io.specs.Reading.{rest_of, read_ahead}
use Rattle.fuxi_io.specs.declared.lines.LineStop.TheVariants.{ReadFault}
use Rattle.fuxi_terms.specs.Limits.{most_lines}
use Rattle.input_lines.proofs.OpeningsLemmas.{Seeking}
use Rattle.input_lines.proofs.cluster.read_cluster_line.Given as goal

abbrev pub invariant-loop-turn : goal.invariant-loop-turn
invariant-loop-turn g l = record {
  seeking : l.fn.lines.stop ≡ None → IfSome (rest_of l.fn.lines (g.S.Source.left l.fn.source)) (λ bytes. Seeking bytes l.fn.lines.number l.lines.number (rest_of l.lines (g.S.Source.left l.source)));
  number : l.turn ≤ l.lines.number;
  ahead : 1 ≤ l.turn → length l.lines.pending ≤ read_ahead;
  small : 1 ≤ l.turn → l.lines.number ≤ most_lines;
  running : l.fn.lines.stop ≡ None → l.lines.stop ≡ None;
  unstopped : l.lines.stop ≢ Some ReadFault;
  same : g.S.Source.faults l.source ≡ g.S.Source.faults l.fn.source;
}
