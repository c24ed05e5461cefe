use Rattle.std.proofs.Common.{◌∷◌, [], length, ◌∙◌, ap, arith}
use Rattle.wire_frames.specs.Frames.{frame}
use Rattle.schedule_replay.specs.PacketPools.{Stored, bytes_of}
use Rattle.schedule_replay.proofs.PacketPoolsLemmas.{all_bytes, pool_written}
use Rattle.schedule_replay.proofs.pool.PacketPool.put.Goals as goal

pub write-requires-clause-room : goal.write-requires-clause-room
write-requires-clause-room c =
    let same = c.self.view_is ∙ c.make_room.ensures in
    omega (arith, c.requires.room, ap (λ (p : Stored). bytes_of p.frames) same, all_bytes c.self.inside.pieces.items c.self.inside.before c.self.inside.before_bytes c.self.inside.written.bytes.items c.self.inside.written.ends.items c.self.invariant)

pub invariant_of-self-2 : goal.invariant_of-self-2
invariant_of-self-2 c =
    let same = c.self.view_is ∙ c.make_room.ensures in
    pool_written c.self.inside.pieces.items c.self.inside.before c.self.inside.before_bytes c.self.inside.written.bytes.items c.self.inside.written.ends.items c.write.new.self.bytes.items c.write.new.self.ends.items (frame c.args.packet.now ∷ []) c.self.invariant
    c.in_ok-write.ensures.frames c.in_ok-write.ensures.ends
    (omega (arith, c.requires.few, ap (λ (p : Stored). length p.frames) same)) (omega (arith, c.requires.room, ap (λ (p : Stored). bytes_of p.frames) same))
