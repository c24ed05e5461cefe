use Rattle.std.proofs.Common.{◌≡◌, ◌+◌, ◌-◌, ◌*◌, ◌<◌, ◌≤◌, length, None}
use Rattle.fuxi_io.specs.Doors.{WhereTold}
use Rattle.node_core.specs.Roles.{Role, Keeps}
use Rattle.node_core.specs.FrameReaders.{Listening, Broken}
use Rattle.node_core.proofs.frame_reader.listen.Given as goal

abbrev pub invariant-loop-alloc : goal.invariant-loop-alloc
invariant-loop-alloc g l = record {
  listening : (r : Role) → g.C.Core.stands l.fn.core r → WhereTold (Listening l.most (g.C.Core.stands l.now) r l.reader) (g.N.Door.told l.fn.door) (g.N.Door.told l.door);
  broken : WhereTold Broken (g.N.Door.told l.fn.door) (g.N.Door.told l.door);
  rests : Keeps (g.C.Core.rests l.fn.core) (g.C.Core.rests l.now);
  runs : l.reader.stuck ≡ None;
  few : l.reader.count ≤ l.most;
  steps : g.C.Core.steps l.now ≤ g.C.Core.steps l.fn.core + l.reader.count;
  short : length l.reader.bytes < 266288;
  later : g.N.Door.faults l.fn.door ≤ g.N.Door.faults l.door;
}

-- a packet more takes more off than what then waits can grow by
abbrev pub decreases-loop-alloc : goal.decreases-loop-alloc
decreases-loop-alloc g l = (l.most - l.reader.count) * 300000 + (300000 - length l.reader.bytes)
