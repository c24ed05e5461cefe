use Rattle.std.proofs.Common.{◌≡◌, ◌≤◌, length, reverse}
use Rattle.fuxi_io.specs.MemoryDisks.{synced_of}
use Rattle.fuxi_io.proofs.memory_disk.last_synced.Given as goal

abbrev pub invariant-loop-done : goal.invariant-loop-done
invariant-loop-done l = record {
  same : synced_of l.file.items l.left (reverse l.done) ≡ synced_of l.fn.bytes l.fn.covered (reverse l.fn.log);
  fewer : length l.done ≤ length l.fn.log;
}

abbrev pub decreases-loop-done : goal.decreases-loop-done
decreases-loop-done l = length l.done
