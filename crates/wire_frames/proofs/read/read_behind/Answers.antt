use Rattle.std.proofs.Common.{arith}
use Rattle.wire_frames.proofs.Found.{frame_in}
use Rattle.wire_frames.proofs.Refused.{none_begins}
use Rattle.wire_frames.proofs.read.read_behind.Goals as goal

pub returns-in-Ok : goal.returns-in-Ok
returns-in-Ok c =
    let h = c.requires in
    let read = c.in-Ok.ensures in
    record {
      within = h.whole;
      frame = record {
        formed = record { parties = h.parties; place = h.fits; body = read.0.0 };
        room = h.room;
        form = read.0.1;
        written = frame_in c.args.bytes.now c.args.front.now c.in-Ok.body (λ i. omega (arith, c.type_inv.bytes i)) h read.1;
      };
    }

pub returns-in-Err-NotBody : goal.returns-in-Err-NotBody
returns-in-Err-NotBody c =
    let h = c.requires in
    (h.right, none_begins c.args.bytes.now c.args.front.now h (rw c.in-Err-NotBody.field-0-is at c.in-Err-NotBody.ensures))
