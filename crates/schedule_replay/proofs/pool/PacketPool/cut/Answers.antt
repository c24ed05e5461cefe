use Rattle.std.proofs.Common.{◌≤◌, ◌-◌, length, take, ◌∙◌, ap, arith}
use Rattle.schedule_replay.specs.PacketPools.{Stored, all_frames}
use Rattle.schedule_replay.proofs.FrameEndsLemmas.{frames_cut}
use Rattle.schedule_replay.proofs.PacketPoolsLemmas.{all_length, pool_cut}
use Rattle.schedule_replay.proofs.pool.PacketPool.cut.Goals as goal

pub cut-requires : goal.cut-requires
cut-requires c = record { there = omega (arith, c.requires.there, ap (λ (p : Stored). length p.frames) c.self.view_is, c.if-kept-before.true, all_length c.self.inside.pieces.items c.self.inside.before c.self.inside.before_bytes c.self.inside.written.bytes.items c.self.inside.written.ends.items c.self.invariant) }

pub invariant_of-self : goal.invariant_of-self
invariant_of-self c =
    let there : c.args.kept ≤ length (all_frames c.self.inside.pieces.items c.self.inside.written.bytes.items c.self.inside.written.ends.items) = omega (arith, c.requires.there, ap (λ (p : Stored). length p.frames) c.self.view_is) in
    let few : c.args.kept - c.self.inside.before ≤ length c.self.inside.written.ends.items = omega (arith, there, c.if-kept-before.true, all_length c.self.inside.pieces.items c.self.inside.before c.self.inside.before_bytes c.self.inside.written.bytes.items c.self.inside.written.ends.items c.self.invariant) in
    let cut = frames_cut c.self.inside.written.bytes.items c.self.inside.written.ends.items c.cut.new.self.bytes.items c.cut.new.self.ends.items (c.args.kept - c.self.inside.before) c.self.invariant.rising few c.cut.ensures.bytes c.cut.ensures.ends in
    let all = pool_cut c.self.inside.pieces.items c.self.inside.before c.self.inside.before_bytes c.self.inside.written.bytes.items c.self.inside.written.ends.items c.cut.new.self.bytes.items c.cut.new.self.ends.items c.args.kept c.self.invariant c.if-kept-before.true there cut in
    all.pool

pub returns-then-kept-before : goal.returns-then-kept-before
returns-then-kept-before c =
    let there : c.args.kept ≤ length (all_frames c.self.inside.pieces.items c.self.inside.written.bytes.items c.self.inside.written.ends.items) = omega (arith, c.requires.there, ap (λ (p : Stored). length p.frames) c.self.view_is) in
    let few : c.args.kept - c.self.inside.before ≤ length c.self.inside.written.ends.items = omega (arith, there, c.if-kept-before.true, all_length c.self.inside.pieces.items c.self.inside.before c.self.inside.before_bytes c.self.inside.written.bytes.items c.self.inside.written.ends.items c.self.invariant) in
    let cut = frames_cut c.self.inside.written.bytes.items c.self.inside.written.ends.items c.cut.new.self.bytes.items c.cut.new.self.ends.items (c.args.kept - c.self.inside.before) c.self.invariant.rising few c.cut.ensures.bytes c.cut.ensures.ends in
    let all = pool_cut c.self.inside.pieces.items c.self.inside.before c.self.inside.before_bytes c.self.inside.written.bytes.items c.self.inside.written.ends.items c.cut.new.self.bytes.items c.cut.new.self.ends.items c.args.kept c.self.invariant c.if-kept-before.true there cut in
    all.frames ∙ ap (λ (p : Stored). take c.args.kept p.frames) c.self.view_is
