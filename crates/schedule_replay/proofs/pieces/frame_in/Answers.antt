use Rattle.std.proofs.Common.{◌-◌, length, slice_get, sym, ◌∙◌, ap, subst, arith}
use Rattle.schedule_replay.specs.FrameEnds.{AreEnds, frames_in}
use Rattle.schedule_replay.proofs.FullPiecesLemmas.{holds}
use Rattle.schedule_replay.proofs.pieces.frame_in.Goals as goal

pub overflow_sub-at : goal.overflow_sub-at
overflow_sub-at c = (holds c.args.pieces.now c.holder_of.result c.args.at c.index-pieces-holder_of.result c.requires.each c.requires.there c.holder_of.ensures.there c.index-pieces-holder_of.is c.holder_of.ensures.first c.holder_of.ensures.next).from

pub frame_at-requires-clause-there : goal.frame_at-requires-clause-there
frame_at-requires-clause-there c = omega (arith, (holds c.args.pieces.now c.holder_of.result c.args.at c.index-pieces-holder_of.result c.requires.each c.requires.there c.holder_of.ensures.there c.index-pieces-holder_of.is c.holder_of.ensures.first c.holder_of.ensures.next).there, ap length c.deref.ensures.value)

pub frame_at-requires-clause-ends : goal.frame_at-requires-clause-ends
frame_at-requires-clause-ends c =
    let h = holds c.args.pieces.now c.holder_of.result c.args.at c.index-pieces-holder_of.result c.requires.each c.requires.there c.holder_of.ensures.there c.index-pieces-holder_of.is c.holder_of.ensures.first c.holder_of.ensures.next in
    subst (λ b. AreEnds 0 c.deref.result.now (length b)) (sym c.as_slice.ensures) (subst (λ l. AreEnds 0 l (length c.index-pieces-holder_of.result.bytes)) (sym c.deref.ensures.value) h.ends)

pub returns : goal.returns
returns c =
    let h = holds c.args.pieces.now c.holder_of.result c.args.at c.index-pieces-holder_of.result c.requires.each c.requires.there c.holder_of.ensures.there c.index-pieces-holder_of.is c.holder_of.ensures.first c.holder_of.ensures.next in
    let one = c.index-pieces-holder_of.result in
    let both = ap (λ b. frames_in b c.deref.result.now) c.as_slice.ensures ∙ ap (frames_in one.bytes) c.deref.ensures.value in
    h.is ∙ ap (λ l. slice_get l (c.args.at - one.first)) (sym both) ∙ c.frame_at.ensures
