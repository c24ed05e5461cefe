use Rattle.std.proofs.Common.{ℕ, List, [], ◌∷◌, ◌++◌, ◌∙◌, ap, arith}
use Rattle.schedule_replay.specs.PacketPools.{Stored}
use Rattle.schedule_replay.proofs.PacketPoolsLemmas.{pool_sealed_as, frames_are_as}
use Rattle.schedule_replay.proofs.pool.PacketPool.make_room.Goals as goal

pub invariant_of-self-in-Ok : goal.invariant_of-self-in-Ok
invariant_of-self-in-Ok c =
    let own = c.self.inside in
    let s = c.in-Ok.piece in
    let is_bytes = c.in-Ok.ensures.bytes ∙ ap (λ v. v.bytes.items) c.replace.ensures.value in
    let is_ends = c.in-Ok.ensures.ends ∙ ap (λ v. v.ends.items) c.replace.ensures.value in
    let more = c.push_reserved.ensures.items ∙ ap (λ l. l ++ s ∷ []) c.reserve.ensures.items in
    let no_bytes = ap (λ v. v.bytes.items) c.replace.ensures.after ∙ c.in_ok-next.ensures.bytes in
    let no_ends = ap (λ v. v.ends.items) c.replace.ensures.after ∙ c.in_ok-next.ensures.ends in
    pool_sealed_as own.pieces.items own.before own.before_bytes own.written.bytes.items own.written.ends.items s c.push_reserved.new.self.items _ _ c.replace.new.dest.bytes.items c.replace.new.dest.ends.items
    c.self.invariant is_bytes is_ends c.in-Ok.ensures.first more
    (omega (arith, c.len.ensures, own.written.ends.ok.0)) (omega (arith, c.len-2.ensures, own.written.bytes.ok.0)) no_bytes no_ends

pub returns-in-Ok : goal.returns-in-Ok
returns-in-Ok c =
    let own = c.self.inside in
    let s = c.in-Ok.piece in
    let is_bytes = c.in-Ok.ensures.bytes ∙ ap (λ v. v.bytes.items) c.replace.ensures.value in
    let is_ends = c.in-Ok.ensures.ends ∙ ap (λ v. v.ends.items) c.replace.ensures.value in
    let more = c.push_reserved.ensures.items ∙ ap (λ l. l ++ s ∷ []) c.reserve.ensures.items in
    let no_bytes = ap (λ v. v.bytes.items) c.replace.ensures.after ∙ c.in_ok-next.ensures.bytes in
    let no_ends = ap (λ v. v.ends.items) c.replace.ensures.after ∙ c.in_ok-next.ensures.ends in
    let all = frames_are_as own.pieces.items own.written.bytes.items own.written.ends.items s c.push_reserved.new.self.items c.replace.new.dest.bytes.items c.replace.new.dest.ends.items is_bytes is_ends more no_bytes no_ends in
    ap (λ (l : List (List ℕ)). let p : Stored = record { frames = l } in p) all ∙ c.self.view_is
