use Rattle.std.proofs.Common.{◌≡◌, ◌<◌, ◌≤◌, true, false, Option, None, IfSome}
use Rattle.fuxi_io.specs.Disks.{Told}
use Rattle.fuxi_io.specs.Reading.{rest_of}
use Rattle.fuxi_terms.specs.Limits.{most_lines}
use Rattle.input_lines.specs.LineProgress.{Along}
use Rattle.epoch_lease.specs.Files.{lease_of}
use Rattle.epoch_lease.specs.LeaseProgress.{Rests}
use Rattle.epoch_lease.specs.LeaseRuns.{lease_runner}
use Rattle.epoch_lease.proofs.run.run_lines.Given as goal

abbrev pub invariant-loop-turn : goal.invariant-loop-turn
invariant-loop-turn g l = record {
  along : IfSome (g.S.Source.left l.fn.source) (λ bytes. Along lease_runner (lease_of l.fn.lease) bytes 0 l.lines.number true (λ s. lease_of l.lease ≡ s) (rest_of l.lines (g.S.Source.left l.source)) (g.O.Sink.took l.fn.out) (g.O.Sink.took l.out));
  rests : (before : Option Told) → Rests before l.fn.lease (g.D.Disk.told l.fn.disk) → Rests before l.lease (g.D.Disk.told l.disk);
  number : l.turn ≤ l.lines.number;
  small : 1 ≤ l.turn → l.lines.number ≤ most_lines;
  running : l.lines.stop ≡ None;
  sound : l.lease.hard.broken ≡ false;
  long : l.lease.hard.gate < g.D.Disk.size l.disk;
  reads_served : g.S.Source.faults l.source ≡ g.S.Source.faults l.fn.source;
  writes_served : g.O.Sink.faults l.out ≡ g.O.Sink.faults l.fn.out;
  disk_served : g.D.Disk.faults l.disk ≡ g.D.Disk.faults l.fn.disk;
}
