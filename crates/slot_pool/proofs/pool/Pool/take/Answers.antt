use Rattle.std.proofs.Common.{map, sym, ap, subst, ◌∙◌, arith, IsSome}
use Rattle.std.proofs.lemmas.List.{map-set}
use Rattle.slot_pool.specs.PoolLayout.{value_of}
use Rattle.slot_pool.specs.Pools.{value_at}
use Rattle.slot_pool.proofs.PoolLayoutLemmas.{emptied, live_room, value_inside}
use Rattle.slot_pool.proofs.PoolsLemmas.{live_reads, reads_as_before, differs_taken}
use Rattle.slot_pool.proofs.pool.Pool.take.Goals as goal

pub push_reserved-requires : goal.push_reserved-requires
push_reserved-requires g c =
    let r = live_reads (map value_of c.self.inside.cells.items) c.self.inside.generations.items c.args.slot (subst (λ p. IsSome (value_at p c.args.slot)) (sym c.self.view_is) c.requires) in
    omega (arith, live_room (map value_of c.self.inside.cells.items) c.self.inside.generations.items c.self.inside.free.items c.args.slot.number c.self.inside.room r.value c.self.invariant.0 r.stands, c.self.invariant.1.free_fit)

pub invariant_of-self : goal.invariant_of-self
invariant_of-self g c =
    let r = live_reads (map value_of c.self.inside.cells.items) c.self.inside.generations.items c.args.slot (subst (λ p. IsSome (value_at p c.args.slot)) (sym c.self.view_is) c.requires) in
    (rw (c.replace.ensures.after, c.push_reserved.ensures.items, map-set) (emptied _ _ _ _ _ _ r.value c.self.invariant.0 r.stands), rw c.push_reserved.ensures.capacity c.self.invariant.1)

pub returns-clause-others : goal.returns-clause-others
returns-clause-others g c = λ other differs.
    let r = live_reads (map value_of c.self.inside.cells.items) c.self.inside.generations.items c.args.slot (subst (λ p. IsSome (value_at p c.args.slot)) (sym c.self.view_is) c.requires) in
    rw (c.replace.ensures.after, map-set) (reads_as_before (map value_of c.self.inside.cells.items) c.self.inside.generations.items _ _ c.args.slot.number c.args.slot.generation (differs_taken (map value_of c.self.inside.cells.items) c.self.inside.generations.items c.args.slot.number _ (value_inside _ _ r.value r.stands)) r.present other differs ∙ ap (λ p. value_at p other) c.self.view_is)
