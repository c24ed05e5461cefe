use Rattle.std.proofs.Common.{◌≡◌, ◌++◌, length, length-append, ap, ◌∙◌, arith}
use Rattle.wire_frames.specs.Frames.{frame}
use Rattle.schedule_replay.proofs.FrameEndsLemmas.{ends_more, frames_more}
use Rattle.schedule_replay.proofs.pieces.OpenPiece.write.Goals as goal

pub returns-clause-frames : goal.returns-clause-frames
returns-clause-frames c =
    let more = frames_more c.args.self.now.bytes.items (frame c.args.packet.now) c.args.self.now.ends.items c.requires.ends in
    grind (arith, more, c.in_ok-write_packet.ensures.ok, c.reserve.ensures.items, c.push_reserved.ensures.items, c.len.ensures)

pub returns-clause-ends : goal.returns-clause-ends
returns-clause-ends c =
    let wrote : c.write_packet.new.out.items ≡ c.args.self.now.bytes.items ++ frame c.args.packet.now = c.in_ok-write_packet.ensures.ok in
    let longer = ap length wrote ∙ length-append c.args.self.now.bytes.items (frame c.args.packet.now) in
    let more = ends_more 0 c.args.self.now.ends.items (length c.args.self.now.bytes.items) (length c.write_packet.new.out.items) c.requires.ends (omega (arith, longer)) in
    grind (arith, more, c.reserve.ensures.items, c.push_reserved.ensures.items, c.len.ensures)
