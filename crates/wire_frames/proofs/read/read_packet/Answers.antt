use Rattle.wire_frames.proofs.HeaderFaults.{header_faults}
use Rattle.wire_frames.proofs.read.read_packet.Goals as goal

pub returns-in-Err : goal.returns-in-Err
returns-in-Err c = header_faults c.args.bytes.now c.in-Err.fault c.in-Err.ensures.err
