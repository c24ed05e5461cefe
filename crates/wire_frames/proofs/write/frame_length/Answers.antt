use Rattle.std.proofs.Common.{◌+◌, refl, sym, ap, ◌∙◌, arith}
use Rattle.wire_frames.proofs.Bodies.{body_within}
use Rattle.wire_frames.proofs.FramesLemmas.{frame_long}
use Rattle.wire_frames.proofs.write.frame_length.Goals as goal

pub overflow_add-result : goal.overflow_add-result
overflow_add-result c = omega (arith, c.body_len.ensures.len, body_within c.args.packet.now.body c.body_len.ensures.form)

pub returns-clause-frame : goal.returns-clause-frame
returns-clause-frame c = record { formed = c.requires; room = c.read_numbers.ensures; form = c.body_len.ensures.form; written = refl }

pub returns-clause-length : goal.returns-clause-length
returns-clause-length c = ap (λ n. 48 + n) c.body_len.ensures.len ∙ sym (frame_long c.args.packet.now c.body_len.ensures.form)

pub returns-clause-within : goal.returns-clause-within
returns-clause-within c = omega (arith, c.body_len.ensures.len, body_within c.args.packet.now.body c.body_len.ensures.form)
