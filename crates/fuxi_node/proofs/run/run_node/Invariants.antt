use Rattle.std.proofs.Common.{◌≡◌, ◌≢◌, ◌≤◌, ◌+◌, ◌*◌, false, Some, None, IfSome}
use Rattle.fuxi_io.specs.Reading.{rest_of}
use Rattle.fuxi_io.specs.declared.lines.LineStop.TheVariants.{ReadFault}
use Rattle.fuxi_terms.specs.Limits.{most_frames, most_lines}
use Rattle.input_lines.specs.Wholes.{IsReady}
use Rattle.fuxi_io.specs.Doors.{WhereTold}
use Rattle.node_core.specs.Roles.{Role}
use Rattle.fuxi_node.specs.NodeEnds.{start_of}
use Rattle.fuxi_node.specs.NodeProgress.{Along, KeepsTold, Reaches}
use Rattle.fuxi_node.proofs.run.run_node.Given as goal

abbrev pub invariant-loop-turn : goal.invariant-loop-turn
invariant-loop-turn g l = record {
  along : IsReady l.fn.lines (g.S.Source.left l.fn.source) → (r : Role) → g.C.Core.stands l.fn.core r → IfSome (rest_of l.fn.lines (g.S.Source.left l.fn.source))
      (λ bytes. WhereTold (Along (start_of most_frames l.fn.addr l.fn.lines.number r) bytes l.lines.number l.lines.ended l.events (g.C.Core.stands l.core) (rest_of l.lines (g.S.Source.left l.source)) (g.O.Sink.took l.fn.out) (g.O.Sink.took l.out) (g.N.Door.faults l.fn.door) (g.N.Door.faults l.door)) (g.N.Door.told l.fn.door) (g.N.Door.told l.door));
  reaches : IsReady l.fn.lines (g.S.Source.left l.fn.source) → IfSome (rest_of l.fn.lines (g.S.Source.left l.fn.source)) (λ bytes. Reaches l.fn.lines.number bytes l.lines.number l.lines.ended (rest_of l.lines (g.S.Source.left l.source)));
  rests : g.C.Core.rests l.core (g.D.Disk.size l.disk) None;
  told : KeepsTold g.C.Core.rests l.fn.core (g.D.Disk.size l.fn.disk) l.core (g.D.Disk.size l.disk) (g.D.Disk.told l.fn.disk) (g.D.Disk.told l.disk);
  events : l.events ≤ l.turn;
  steps : g.C.Core.steps l.core ≤ g.C.Core.steps l.fn.core + l.turn * 4097;
  number : l.turn ≤ l.lines.number;
  small : 1 ≤ l.turn → l.lines.number ≤ most_lines;
  last : l.fn.lines.ended ≡ false → l.lines.ended ≡ false;
  running : l.fn.lines.stop ≡ None → l.lines.stop ≡ None;
  unstopped : l.lines.stop ≢ Some ReadFault;
  read : g.S.Source.faults l.fn.source ≤ g.S.Source.faults l.source;
  disk : g.D.Disk.faults l.fn.disk ≤ g.D.Disk.faults l.disk;
  reads_served : g.S.Source.faults l.source ≡ g.S.Source.faults l.fn.source;
  writes_served : g.O.Sink.faults l.out ≡ g.O.Sink.faults l.fn.out;
  disk_served : g.D.Disk.faults l.disk ≡ g.D.Disk.faults l.fn.disk;
  wrote : g.O.Sink.faults l.fn.out ≤ g.O.Sink.faults l.out;
}
