use Rattle.std.proofs.Common.{◌≤◌, ◌-◌, ◌≡◌, take, length}
use Rattle.std.specs.Io.KnownBytes.{Appends}
use Rattle.fuxi_io.proofs.outside.write_all_of.Given as goal

abbrev pub invariant-loop-at : goal.invariant-loop-at
invariant-loop-at g l = record {
  within : l.at ≤ length l.bytes;
  took : Appends (g.O.Sink.took l.fn.out) (g.O.Sink.took l.out) (take l.at l.bytes);
  same : g.O.Sink.faults l.out ≡ g.O.Sink.faults l.fn.out;
  unused : l.at ≡ 0 → l.out ≡ l.fn.out;
}

abbrev pub decreases-loop-at : goal.decreases-loop-at
decreases-loop-at g l = length l.bytes - l.at
