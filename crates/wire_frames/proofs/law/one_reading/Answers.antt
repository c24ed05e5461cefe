use Rattle.wire_frames.proofs.ReadingIsOne.{one_reading}
use Rattle.wire_frames.proofs.MoreBytes.{more_bytes, short_part}
use Rattle.wire_frames.proofs.law.one_reading.Goals as goal

pub returns : goal.returns
returns c = record { one = one_reading; more = more_bytes; short = short_part }
