use Rattle.std.proofs.Common.{length, ap, arith}
use Rattle.schedule_replay.specs.PacketPools.{Stored}
use Rattle.schedule_replay.proofs.PacketPoolsLemmas.{all_length}
use Rattle.schedule_replay.proofs.pool.PacketPool.frame.Goals as goal

pub frame_at-requires-clause-there : goal.frame_at-requires-clause-there
frame_at-requires-clause-there c =
    let here = c.if-number-len.false in
    let behind = c.if-at-before.false in
    omega (arith, all_length c.self.inside.pieces.items c.self.inside.before c.self.inside.before_bytes c.self.inside.written.bytes.items c.self.inside.written.ends.items c.self.invariant, ap (λ (p : Stored). length p.frames) c.self.view_is, here, behind, c.len.ensures.len, c.requires.first, ap length c.deref-3.ensures.value)
