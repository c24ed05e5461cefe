use Rattle.std.proofs.Common.{◌<◌, Option, sym, subst, ◌∙◌, Some}
use Rattle.slot_pool.specs.declared.pool.Slot.{Slot}
use Rattle.slot_pool.specs.Pools.{value_at}
use Rattle.wait_queue.proofs.WalksLemmas.{Reached, walk_left, reached_start, reached_live, walk_ends, walk_steps, walk_done}
use Rattle.wait_queue.proofs.node.place_of.Goals as goal

pub get-node-requires : goal.get-node-requires
get-node-requires c =
    let w = c.requires.walks in
    reached_live _ _ _ _ _ _ _ w (Some c.in-Some.slot) (subst (λ (p : Option Slot). Reached c.requires.front c.requires.middle p) c.in-Some.is (c.loop-place.invariant _ _ _ w))

pub returns-then-stands_before : goal.returns-then-stands_before
returns-then-stands_before c = λ front middle next w.
    walk_ends _ _ _ _ _ _ _ w c.in-Some.slot (subst (λ (p : Option Slot). Reached front middle p) c.in-Some.is (c.loop-place.invariant _ _ _ w)) c.get-node.result.now c.get-node.ensures (sym c.stands_before.ensures ∙ c.if-stands_before.true)

pub loop-place-smaller : goal.loop-place-smaller
loop-place-smaller c =
    let w = c.requires.walks in
    subst (λ (p : Option Slot). walk_left (value_at c.args.pool.now) c.args.key_first c.slot-place.result < walk_left (value_at c.args.pool.now) c.args.key_first p) (sym c.in-Some.is)
    (walk_steps _ _ _ _ _ _ _ w c.in-Some.slot (subst (λ (p : Option Slot). Reached c.requires.front c.requires.middle p) c.in-Some.is (c.loop-place.invariant _ _ _ w)) c.get-node.result.now c.slot-place.result c.get-node.ensures (sym c.stands_before.ensures ∙ c.if-stands_before.false) c.slot-place.ensures).falls

pub loop-place-preserved : goal.loop-place-preserved
loop-place-preserved c = λ front middle next w.
    (walk_steps _ _ _ _ _ _ _ w c.in-Some.slot (subst (λ (p : Option Slot). Reached front middle p) c.in-Some.is (c.loop-place.invariant _ _ _ w)) c.get-node.result.now c.slot-place.result c.get-node.ensures (sym c.stands_before.ensures ∙ c.if-stands_before.false) c.slot-place.ensures).reached

pub loop-place-init : goal.loop-place-init
loop-place-init c = λ front middle next w. reached_start _ _ _ _ _ _ _ w

pub returns : goal.returns
returns c = λ front middle next w.
    c.in_default.is ∙ walk_done _ _ _ _ _ _ _ w (subst (λ (p : Option Slot). Reached front middle p) c.in_default.is (c.loop-place.invariant _ _ _ w))
