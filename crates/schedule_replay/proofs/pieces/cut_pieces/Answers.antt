use Rattle.std.proofs.Common.{◌≡◌, ◌<◌, length, sym, ◌∙◌, ap, subst, arith}
use Rattle.std.proofs.lemmas.List.{take_more_set}
use Rattle.schedule_replay.specs.FullPieces.{ArePieces, frames_of}
use Rattle.schedule_replay.proofs.FullPiecesLemmas.{cut_between, cut_within, first_is, holds_in}
use Rattle.schedule_replay.proofs.pieces.cut_pieces.Goals as goal

pub overflow_sub-inside : goal.overflow_sub-inside
overflow_sub-inside c =
    let ss = c.args.pieces.now.items in
    let i = c.holder_of-holder.result in
    let s = c.index.result.now in
    (holds_in ss c.deref.result.now i c.args.kept s c.deref.ensures.value c.requires.each c.requires.there c.holder_of-holder.ensures.there c.index.ensures c.holder_of-holder.ensures.first c.holder_of-holder.ensures.next).from

pub returns-then-inside-eq0-clause-frames : goal.returns-then-inside-eq0-clause-frames
returns-then-inside-eq0-clause-frames c =
    let ss = c.args.pieces.now.items in
    let i = c.holder_of-holder.result in
    let s = c.index.result.now in
    let lt : i < length ss = subst (λ l. i < length l) c.deref.ensures.value c.holder_of-holder.ensures.there in
    let h = holds_in ss c.deref.result.now i c.args.kept s c.deref.ensures.value c.requires.each c.requires.there c.holder_of-holder.ensures.there c.index.ensures c.holder_of-holder.ensures.first c.holder_of-holder.ensures.next in
    ap frames_of c.truncate.ensures.items ∙ (cut_between ss i c.args.kept s c.requires.each lt c.index.ensures (omega (arith, h.from, c.if-inside-eq0.true))).frames

pub returns-then-inside-eq0-clause-each : goal.returns-then-inside-eq0-clause-each
returns-then-inside-eq0-clause-each c =
    let ss = c.args.pieces.now.items in
    let i = c.holder_of-holder.result in
    let s = c.index.result.now in
    let lt : i < length ss = subst (λ l. i < length l) c.deref.ensures.value c.holder_of-holder.ensures.there in
    let h = holds_in ss c.deref.result.now i c.args.kept s c.deref.ensures.value c.requires.each c.requires.there c.holder_of-holder.ensures.there c.index.ensures c.holder_of-holder.ensures.first c.holder_of-holder.ensures.next in
    subst (ArePieces 0) (sym c.truncate.ensures.items) (cut_between ss i c.args.kept s c.requires.each lt c.index.ensures (omega (arith, h.from, c.if-inside-eq0.true))).each

pub cut-requires : goal.cut-requires
cut-requires c =
    let ss = c.args.pieces.now.items in
    let i = c.holder_of-holder.result in
    let s = c.index.result.now in
    let lt : i < length ss = subst (λ l. i < length l) c.deref.ensures.value c.holder_of-holder.ensures.there in
    let t = c.index_mut.result.now in
    let same : s.first ≡ t.first = sym (first_is ss i s lt c.index.ensures) ∙ first_is ss i t lt c.index_mut.ensures.value in
    let h = holds_in ss c.deref.result.now i c.args.kept t c.deref.ensures.value c.requires.each c.requires.there c.holder_of-holder.ensures.there c.index_mut.ensures.value c.holder_of-holder.ensures.first c.holder_of-holder.ensures.next in
    record { there = omega (arith, same, h.there) }

pub returns-clause-frames : goal.returns-clause-frames
returns-clause-frames c =
    let ss = c.args.pieces.now.items in
    let i = c.holder_of-holder.result in
    let s = c.index.result.now in
    let lt : i < length ss = subst (λ l. i < length l) c.deref.ensures.value c.holder_of-holder.ensures.there in
    let t = c.index_mut.result.now in
    let same : s.first ≡ t.first = sym (first_is ss i s lt c.index.ensures) ∙ first_is ss i t lt c.index_mut.ensures.value in
    let h = holds_in ss c.deref.result.now i c.args.kept t c.deref.ensures.value c.requires.each c.requires.there c.holder_of-holder.ensures.there c.index_mut.ensures.value c.holder_of-holder.ensures.first c.holder_of-holder.ensures.next in
    let cut = cut_within ss i c.args.kept s.first t c.cut.new.self c.requires.each lt c.index_mut.ensures.value h same c.cut.ensures.bytes c.cut.ensures.ends c.cut.ensures.first in
    let items = c.truncate-2.ensures.items ∙ take_more_set ss i c.cut.new.self lt in
    ap frames_of items ∙ cut.frames

pub returns-clause-each : goal.returns-clause-each
returns-clause-each c =
    let ss = c.args.pieces.now.items in
    let i = c.holder_of-holder.result in
    let s = c.index.result.now in
    let lt : i < length ss = subst (λ l. i < length l) c.deref.ensures.value c.holder_of-holder.ensures.there in
    let t = c.index_mut.result.now in
    let same : s.first ≡ t.first = sym (first_is ss i s lt c.index.ensures) ∙ first_is ss i t lt c.index_mut.ensures.value in
    let h = holds_in ss c.deref.result.now i c.args.kept t c.deref.ensures.value c.requires.each c.requires.there c.holder_of-holder.ensures.there c.index_mut.ensures.value c.holder_of-holder.ensures.first c.holder_of-holder.ensures.next in
    let cut = cut_within ss i c.args.kept s.first t c.cut.new.self c.requires.each lt c.index_mut.ensures.value h same c.cut.ensures.bytes c.cut.ensures.ends c.cut.ensures.first in
    let items = c.truncate-2.ensures.items ∙ take_more_set ss i c.cut.new.self lt in
    subst (ArePieces 0) (sym items) cut.each
