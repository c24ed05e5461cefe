use Rattle.std.proofs.Common.{ℕ, List, ◌-◌, ◌∷◌, get_or, length, slice_range, Some, sym, ◌∙◌, ap, subst, arith}
use Rattle.schedule_replay.specs.FrameEnds.{AreEnds}
use Rattle.schedule_replay.proofs.FrameEndsLemmas.{frame_of}
use Rattle.schedule_replay.proofs.FullPiecesLemmas.{holds}
use Rattle.schedule_replay.proofs.pieces.share_in.Goals as goal

pub overflow_sub-at : goal.overflow_sub-at
overflow_sub-at c = (holds c.args.pieces.now c.holder_of.result c.args.at c.index-pieces-holder_of.result c.requires.each c.requires.there c.holder_of.ensures.there c.index-pieces-holder_of.is c.holder_of.ensures.first c.holder_of.ensures.next).from

pub bounds_of-start-requires-clause-there : goal.bounds_of-start-requires-clause-there
bounds_of-start-requires-clause-there c = omega (arith, (holds c.args.pieces.now c.holder_of.result c.args.at c.index-pieces-holder_of.result c.requires.each c.requires.there c.holder_of.ensures.there c.index-pieces-holder_of.is c.holder_of.ensures.first c.holder_of.ensures.next).there, ap length c.deref.ensures.value)

pub bounds_of-start-requires-clause-ends : goal.bounds_of-start-requires-clause-ends
bounds_of-start-requires-clause-ends c =
    let h = holds c.args.pieces.now c.holder_of.result c.args.at c.index-pieces-holder_of.result c.requires.each c.requires.there c.holder_of.ensures.there c.index-pieces-holder_of.is c.holder_of.ensures.first c.holder_of.ensures.next in
    subst (AreEnds 0 c.deref.result.now) (sym c.len.ensures.value) (subst (λ l. AreEnds 0 l (length c.index-pieces-holder_of.result.bytes)) (sym c.deref.ensures.value) h.ends)

pub returns : goal.returns
returns c =
    let h = holds c.args.pieces.now c.holder_of.result c.args.at c.index-pieces-holder_of.result c.requires.each c.requires.there c.holder_of.ensures.there c.index-pieces-holder_of.is c.holder_of.ensures.first c.holder_of.ensures.next in
    let one = c.index-pieces-holder_of.result in
    let at = c.args.at - one.first in
    let bounds = c.bounds_of-start.ensures.is ∙ ap (λ (l : List ℕ). (get_or (0 ∷ l) at 0, get_or l at 0)) c.deref.ensures.value in
    h.is ∙ frame_of one.bytes one.ends.items at h.there ∙ ap (λ (b : ℕ × ℕ). Some (slice_range one.bytes b.0 b.1)) (sym bounds) ∙ ap Some (sym c.in_ok-slice.ensures.ok)
