use Rattle.std.proofs.Common.{ap, arith}
use Rattle.schedule_replay.specs.PacketPools.{Stored, bytes_of}
use Rattle.schedule_replay.proofs.PacketPoolsLemmas.{all_bytes}
use Rattle.schedule_replay.proofs.pool.PacketPool.bytes.Goals as goal

pub returns-clause-sum : goal.returns-clause-sum
returns-clause-sum c = omega (arith, c.len.ensures, c.self.inside.written.bytes.ok.0, all_bytes c.self.inside.pieces.items c.self.inside.before c.self.inside.before_bytes c.self.inside.written.bytes.items c.self.inside.written.ends.items c.self.invariant, ap (λ (p : Stored). bytes_of p.frames) c.self.view_is)
