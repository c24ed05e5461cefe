use Rattle.std.proofs.Common.{◌≡◌, ◌<◌, ◌-◌, ℕ, List, length, subst, sym, arith}
use Rattle.slot_pool.specs.Pools.{value_at}
use Rattle.locality_tree.specs.declared.layout.UnitSlots.{UnitSlots}
use Rattle.locality_tree.specs.Layouts.{slots_of, sets_of}
use Rattle.locality_tree.specs.Paths.{IsRanking, pairs_of}
use Rattle.locality_tree.proofs.PathsLemmas.{whole_tail, leads_whole}
use Rattle.locality_tree.proofs.path.Path.at.Goals as goal

pub skip-at_rack-requires-clause-from : goal.skip-at_rack-requires-clause-from
skip-at_rack-requires-clause-from c =
    let l = c.args.layout.now in
    record { tail = c.requires.kept.lists c.args.rack_place; is_tail = whole_tail (value_at l.pool) l.pool.spare l.queues.items (slots_of l) (sets_of l.slots.items) c.args.rack_place c.index-rack.result.now c.first-first_rack.result c.requires.kept c.index-rack.ensures c.requires.rack (c.first-first_rack.ensures (value_at l.pool)) }

pub skip-at_cluster-requires-clause-from : goal.skip-at_cluster-requires-clause-from
skip-at_cluster-requires-clause-from c =
    let l = c.args.layout.now in
    let near = c.requires.near in
    let queued : c.len-last.result - 1 < length l.queues.items = omega arith in
    record { tail = c.requires.kept.lists (c.len-last.result - 1); is_tail = whole_tail (value_at l.pool) l.pool.spare l.queues.items (slots_of l) (sets_of l.slots.items) (c.len-last.result - 1) c.index-cluster.result.now c.first-first_cluster.result c.requires.kept c.index-cluster.ensures queued (c.first-first_cluster.ensures (value_at l.pool)) }

pub returns : goal.returns
returns c = λ kept pairs ranking.
    let l = c.args.layout.now in
    let near = c.requires.near in
    let last : c.len-last.result - 1 ≡ length l.queues.items - 1 = omega arith in
    let queued : c.len-last.result - 1 < length l.queues.items = omega arith in
    let few = kept.few in
    let rack = c.requires.rack in
    let rack_tail = whole_tail (value_at l.pool) l.pool.spare l.queues.items (slots_of l) (sets_of l.slots.items) c.args.rack_place c.index-rack.result.now c.first-first_rack.result kept c.index-rack.ensures c.requires.rack (c.first-first_rack.ensures (value_at l.pool)) in
    let cluster_tail = whole_tail (value_at l.pool) l.pool.spare l.queues.items (slots_of l) (sets_of l.slots.items) (c.len-last.result - 1) c.index-cluster.result.now c.first-first_cluster.result kept c.index-cluster.ensures queued (c.first-first_cluster.ensures (value_at l.pool)) in
    leads_whole _ pairs (kept.lists c.args.near_place) (kept.lists c.args.rack_place) (kept.lists (c.len-last.result - 1)) (omega (arith, near, few)) (omega (arith, rack, few))
    (whole_tail (value_at l.pool) l.pool.spare l.queues.items (slots_of l) (sets_of l.slots.items) c.args.near_place c.index-near.result.now c.first-at_near.result kept c.index-near.ensures near (c.first-at_near.ensures (value_at l.pool)))
    (c.skip-at_rack.ensures (kept.lists c.args.rack_place) rack_tail)
    (c.skip-at_cluster.ensures (kept.lists (c.len-last.result - 1)) cluster_tail)
    (subst (λ (us : List UnitSlots). IsRanking pairs (pairs_of (sets_of us) c.args.near_place c.args.rack_place (kept.lists c.args.near_place) (kept.lists c.args.rack_place) (kept.lists (c.len-last.result - 1)))) (sym c.deref-units.ensures.value)
    (subst (λ (n : ℕ). IsRanking pairs (pairs_of (sets_of l.slots.items) c.args.near_place c.args.rack_place (kept.lists c.args.near_place) (kept.lists c.args.rack_place) (kept.lists n))) (sym last) ranking))
