use Rattle.wire_frames.proofs.ReadingIsOne.{one_frame_at, same_frame}
use Rattle.wire_frames.proofs.law.one_frame.Goals as goal

pub returns : goal.returns
returns c = λ x y a b more rest f g e. let one = one_frame_at x y a b more rest f g e in (one.packet, same_frame x y a b f g one.packet)
