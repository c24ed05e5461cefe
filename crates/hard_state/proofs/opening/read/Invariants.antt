use Rattle.std.proofs.Common.{◌≡◌, ◌*◌, ◌<◌, ◌≤◌, drop, Some}
use Rattle.fuxi_io.specs.Disks.{Told}
use Rattle.fuxi_terms.specs.Limits.{most_records}
use Rattle.hard_state.specs.HardFiles.{reads_as}
use Rattle.hard_state.specs.FilePieces.{IsPieceOf, end_of}
use Rattle.hard_state.proofs.OpensAsTheFile.{walk}
use Rattle.hard_state.proofs.opening.read.Given as goal

abbrev pub invariant-loop-number : goal.invariant-loop-number
invariant-loop-number g l = record {
  told : g.D.Disk.told l.disk ≡ g.D.Disk.told l.fn.disk;
  size : g.D.Disk.size l.disk ≡ g.D.Disk.size l.fn.disk;
  later : g.D.Disk.faults l.fn.disk ≤ g.D.Disk.faults l.disk;
  served : g.D.Disk.faults l.disk ≡ g.D.Disk.faults l.fn.disk;
  holds : (t : Told) → g.D.Disk.told l.fn.disk ≡ Some t → IsPieceOf l.window t.now.bytes;
  from : l.window.begin ≤ l.at;
  to : l.at ≤ end_of l.window;
  inside : end_of l.window ≤ l.fn.len;
  within : l.at < l.fn.len;
  count : l.state.records ≡ l.number;
  few : l.state.records ≤ most_records;
  short : l.at ≤ 568 * l.number;
  walked : (t : Told) → g.D.Disk.told l.fn.disk ≡ Some t → walk l.number l.at l.state (drop l.at t.now.bytes) ≡ reads_as t.now.bytes;
}
