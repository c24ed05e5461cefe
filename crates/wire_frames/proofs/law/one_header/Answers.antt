use Rattle.wire_frames.proofs.ReadingIsOne.{one_header}
use Rattle.wire_frames.proofs.law.one_header.Goals as goal

pub returns : goal.returns
returns c = one_header
