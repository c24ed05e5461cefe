use Rattle.std.proofs.Common.{length, ap, arith}
use Rattle.schedule_replay.specs.PacketPools.{Stored}
use Rattle.schedule_replay.proofs.PacketPoolsLemmas.{all_length}
use Rattle.schedule_replay.proofs.pool.PacketPool.len.Goals as goal

pub returns-clause-len : goal.returns-clause-len
returns-clause-len c = omega (arith, c.len.ensures, c.self.inside.written.ends.ok.0, all_length c.self.inside.pieces.items c.self.inside.before c.self.inside.before_bytes c.self.inside.written.bytes.items c.self.inside.written.ends.items c.self.invariant, ap (λ (p : Stored). length p.frames) c.self.view_is)
