use Rattle.std.proofs.Common.{◌∙◌, ap, ◌++◌}
use Rattle.wire_frames.specs.Frames.{frame}
use Rattle.wire_frames.proofs.FramesLemmas.{frame_written}
use Rattle.wire_frames.proofs.write.write_packet.Goals as goal

pub returns-in-Ok-clause-ok : goal.returns-in-Ok-clause-ok
returns-in-Ok-clause-ok c =
    let first = c.append.ensures.items ∙ ap (λ l. c.reserve.new.self.items ++ l) (c.as_flattened.ensures.value ∙ c.front_of-front.ensures) in
    frame_written c.args.packet.now c.frame_length-length.result _ _ _ c.frame_length-length.ensures.length first c.in-Ok.ensures.ok
    ∙ ap (λ l. l ++ frame c.args.packet.now) c.reserve.ensures.items
