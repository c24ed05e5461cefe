use Rattle.std.proofs.Common.{◌≡◌, ◌<◌, length, get_or, ap, ◌∙◌, arith}
use Rattle.std.proofs.lemmas.List.{get_or_read}
use Rattle.slot_pool.specs.Pools.{slot_at}
use Rattle.locality_tree.proofs.LeftLemmas.{wide, leaving_start, in_queue, leaving_on, leaving_ends}
use Rattle.locality_tree.proofs.layout.leave_places.Goals as goal

pub loop-place-init : goal.loop-place-init
loop-place-init c = record {
  here = c.next-place.ensures.found;
  leaving = λ may. leaving_start c.standing_lists.ensures.entries _ _ _ may c.next-place.result (λ k h. c.next-place.ensures.between k (omega arith) h);
}

pub index-requires : goal.index-requires
index-requires c =
    let t = c.loop-place-test.true in
    let n = c.len-count.ensures in
    let inside = wide c.standing_lists.ensures.entries _ _ _ c.requires c.loop-place.place (omega (arith, t, n)) in
    let long = c.args.unit.now.numbers.ok in
    omega (arith, inside, long)

pub index_mut-queue-requires : goal.index_mut-queue-requires
index_mut-queue-requires c =
    let t = c.loop-place-test.true in
    let n = c.len-count.ensures in
    let same = (c.loop-place.invariant.leaving c.requires).so_far.count in
    omega (arith, t, n, same)

pub remove-requires : goal.remove-requires
remove-requires c =
    let t = c.loop-place-test.true in
    let n = c.len-count.ensures in
    let few = c.requires.kept.few in
    let queued : c.loop-place.place < length c.args.queues.now.items = omega (arith, t, n) in
    let inside = wide c.standing_lists.ensures.entries _ _ _ c.requires c.loop-place.place queued in
    in_queue c.standing_lists.ensures.entries _ _ _ c.requires c.loop-place.pool c.loop-place.queues.items c.loop-place.place (c.loop-place.invariant.leaving c.requires) queued (c.loop-place.invariant.here (omega (arith, queued, few))) c.index_mut-queue.result.now c.slot-slot.result c.index_mut-queue.ensures.value
    (c.slot-slot.ensures.slot ∙ ap (slot_at c.loop-place.pool) (get_or_read c.args.unit.now.numbers.items c.loop-place.place _ inside c.index.ensures 0))

pub loop-place-preserved : goal.loop-place-preserved
loop-place-preserved c =
    let t = c.loop-place-test.true in
    let n = c.len-count.ensures in
    let few = c.requires.kept.few in
    let queued : c.loop-place.place < length c.args.queues.now.items = omega (arith, t, n) in
    let inside = wide c.standing_lists.ensures.entries _ _ _ c.requires c.loop-place.place queued in
    let least = c.next-place-in-loop-place.ensures.least in
    let slot : c.slot-slot.result ≡ slot_at c.loop-place.pool (get_or c.args.unit.now.numbers.items c.loop-place.place 0) = c.slot-slot.ensures.slot ∙ ap (slot_at c.loop-place.pool) (get_or_read c.args.unit.now.numbers.items c.loop-place.place _ inside c.index.ensures 0) in
    record {
      here = c.next-place-in-loop-place.ensures.found;
      leaving = λ may. leaving_on c.standing_lists.ensures.entries _ _ _ may c.loop-place.pool c.loop-place.queues.items c.loop-place.place (c.loop-place.invariant.leaving may) queued (c.loop-place.invariant.here (omega (arith, queued, few))) c.standing_lists.ensures.distinct c.remove.new.pool c.index_mut-queue.result.now c.remove.new.self c.slot-slot.result c.index_mut-queue.ensures.value slot c.remove.ensures.others c.remove.ensures.order c.remove.ensures.removed c.remove.ensures.spare c.next-place-in-loop-place.result (omega (arith, least))
          (λ k h g. c.next-place-in-loop-place.ensures.between k (omega (arith, h)) g);
    }

pub returns-clause-left : goal.returns-clause-left
returns-clause-left c = λ may sets w.
    let t = c.loop-place-test.false in
    let n = c.len-count.ensures in
    leaving_ends c.standing_lists.ensures.entries _ _ _ may c.loop-place.pool c.loop-place.queues.items c.loop-place.place (c.loop-place.invariant.leaving may) (omega (arith, t, n)) sets w
