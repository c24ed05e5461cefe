use Rattle.std.proofs.Common.{◌+◌, ◌<◌, length, refl, sym, ap, subst, ◌∙◌}
use Rattle.wire_frames.specs.Streams.{Streaming}
use Rattle.node_core.specs.FrameReaders.{FrameReader}
use Rattle.node_core.proofs.FrameReadersLemmas.{advances, at_end, at_stranger, fault_steps, shorter}
use Rattle.node_core.proofs.frame_reader.hear_one.Goals as goal

pub returns-in-Ok-hear-clause-steps : goal.returns-in-Ok-hear-clause-steps
returns-in-Ok-hear-clause-steps g c r s =
    let stuck = ap (λ (e : FrameReader). e.stuck) c.reader.view_is ∙ c.requires.runs in
    advances c.args.most _ _ _ c.reader.view_is c.requires.few r c.in-Ok.packet _ c.pull.new.self _ refl (c.in-Ok.ensures.pulls stuck) (c.if-not-allows.ensures r s) c.if-is_end.ensures (c.in-Ok-hear.ensures.hears r s) refl refl refl

pub returns-then-is_end-clause-steps : goal.returns-then-is_end-clause-steps
returns-then-is_end-clause-steps g c r s =
    let stuck = ap (λ (e : FrameReader). e.stuck) c.reader.view_is ∙ c.requires.runs in
    at_end c.args.most _ _ _ c.reader.view_is c.requires.few r c.in-Ok.packet _ c.pull.new.self _ refl (c.in-Ok.ensures.pulls stuck) (c.if-not-allows.ensures r s) c.if-is_end.ensures s refl refl

pub returns-then-not-allows-clause-steps : goal.returns-then-not-allows-clause-steps
returns-then-not-allows-clause-steps g c r s =
    let stuck = ap (λ (e : FrameReader). e.stuck) c.reader.view_is ∙ c.requires.runs in
    at_stranger c.args.most _ _ _ c.reader.view_is c.requires.few r c.in-Ok.packet _ c.pull.new.self _ refl (c.in-Ok.ensures.pulls stuck) (c.if-not-allows.ensures r s) s refl refl

pub returns-in-Ok-hear-clause-heard : goal.returns-in-Ok-hear-clause-heard
returns-in-Ok-hear-clause-heard g c is =
    let stuck = ap (λ (e : FrameReader). e.stuck) c.reader.view_is ∙ c.requires.runs in
    let p = c.in-Ok.ensures.pulls stuck in
    (ap (λ (e : FrameReader). e.count + 1) c.reader.view_is, ap (λ (s : Streaming). s.stuck) p.rest, subst (λ (e : FrameReader). length c.pull.new.self.left < length e.bytes) c.reader.view_is (shorter c.in-Ok.packet _ c.pull.new.self p))

pub returns-in-Some-clause-steps : goal.returns-in-Some-clause-steps
returns-in-Some-clause-steps g c r s =
    let stuck = ap (λ (e : FrameReader). e.stuck) c.reader.view_is ∙ c.requires.runs in
    let p = c.in-Err.ensures.pulls stuck in
    fault_steps c.args.most _ _ c.pull.new.self _ _ _ c.reader.view_is c.requires.few stuck c.in-Err.fault c.in-Some.step (sym c.in-Some.is ∙ c.step_at.ensures) p.0 p.1 r s
