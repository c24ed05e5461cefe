use Rattle.std.proofs.Common.{map, take, length, length-append, ap, sym, ◌∙◌, arith}
use Rattle.std.proofs.lemmas.List.{length-map, length-take-le, take-map}
use Rattle.std.proofs.Math.ListN.{get_or-map}
use Rattle.std.proofs.lemmas.List.Sums.{sum_by-append, sum_by_more_le}
use Rattle.wire_frames.specs.Frames.{frame}
use Rattle.schedule_replay.specs.PacketPools.{Stored, bytes_of}
use Rattle.schedule_replay.proofs.pool.PacketPool.put_each.Goals as goal

pub put-requires-clause-few : goal.put-requires-clause-few
put-requires-clause-few c =
    let xs = c.args.packets.now in
    let i = c.loop-packet.packet-index in
    let both = ap (λ (p : Stored). length p.frames) c.loop-packet.invariant ∙ length-append c.args.self.now.frames (map frame (take i xs)) in
    omega (arith, c.requires.few, c.loop-packet-test.true, both, length-map (take i xs) frame, length-take-le i xs (omega (arith, c.loop-packet-test.true)))

pub put-requires-clause-room : goal.put-requires-clause-room
put-requires-clause-room c =
    let xs = c.args.packets.now in
    let i = c.loop-packet.packet-index in
    let next = c.packet-item.result in
    let here = get_or-map frame xs i next ∙ ap frame (sym c.packet-item.is) in
    let fits = sum_by_more_le length (map frame xs) i (frame next) (omega (arith, c.loop-packet-test.true, length-map xs frame)) in
    let both = ap (λ (p : Stored). bytes_of p.frames) c.loop-packet.invariant ∙ sum_by-append length c.args.self.now.frames (map frame (take i xs)) in
    let first = ap bytes_of (take-map frame i xs) in
    omega (arith, c.requires.room, fits, ap length here, both, first)
