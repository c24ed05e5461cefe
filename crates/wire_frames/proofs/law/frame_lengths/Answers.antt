use Rattle.std.proofs.Common.{◌∙◌, ap, length}
use Rattle.wire_frames.proofs.FramesLemmas.{frame_long}
use Rattle.wire_frames.proofs.law.frame_lengths.Goals as goal

pub returns : goal.returns
returns c = λ x bytes f. ap length f.written ∙ frame_long x f.form
