use Rattle.std.proofs.Common.{◌-◌, length, slice_get, Some, sym, ◌∙◌, ap, arith}
use Rattle.schedule_replay.specs.FrameEnds.{frames_in}
use Rattle.schedule_replay.specs.PacketPools.{Stored}
use Rattle.schedule_replay.proofs.PacketPoolsLemmas.{all_length, written_at}
use Rattle.schedule_replay.proofs.pool.PacketPool.share.Goals as goal

pub frame_at-bytes-requires-clause-there : goal.frame_at-bytes-requires-clause-there
frame_at-bytes-requires-clause-there c =
    let here = c.if-number-len.false in
    let behind = c.if-at-before.false in
    omega (arith, all_length c.self.inside.pieces.items c.self.inside.before c.self.inside.before_bytes c.self.inside.written.bytes.items c.self.inside.written.ends.items c.self.invariant, ap (λ (p : Stored). length p.frames) c.self.view_is, here, behind, c.len.ensures.len, c.requires.first, ap length c.deref-3.ensures.value)

pub returns-clause-some : goal.returns-clause-some
returns-clause-some c =
    let behind = c.if-at-before.false in
    let own = c.self.inside in
    let both = ap (λ b. frames_in b c.deref-3.result.now) c.deref-2.ensures.value ∙ ap (frames_in own.written.bytes.items) c.deref-3.ensures.value in
    ap (λ (p : Stored). slice_get p.frames (c.args.number - 1)) (sym c.self.view_is)
    ∙ written_at own.pieces.items own.written.bytes.items own.written.ends.items (c.args.number - 1) (omega (arith, behind, c.self.invariant.before_is))
    ∙ ap (λ n. slice_get (frames_in own.written.bytes.items own.written.ends.items) (c.args.number - 1 - n)) (sym c.self.invariant.before_is)
    ∙ ap (λ l. slice_get l (c.args.number - 1 - own.before)) (sym both)
    ∙ c.frame_at-bytes.ensures
    ∙ ap Some (sym c.in_ok-copy_from_slice.ensures)
