use Rattle.std.proofs.Common.{◌<◌, length, map, refl, sym, ap, subst, ◌∙◌, arith, IsSome}
use Rattle.std.proofs.lemmas.List.{map-set, get_or_read, length-map}
use Rattle.slot_pool.specs.declared.cell.Cell.TheVariants.{Vacant, Live}
use Rattle.slot_pool.specs.PoolLayout.{value_of}
use Rattle.slot_pool.specs.Pools.{value_at}
use Rattle.slot_pool.proofs.PoolLayoutLemmas.{rewritten, value_inside, read_value}
use Rattle.slot_pool.proofs.PoolsLemmas.{live_reads, read_present}
use Rattle.slot_pool.proofs.pool.Pool.get_mut.Goals as goal

pub invariant_of-self-lent : goal.invariant_of-self-lent
invariant_of-self-lent g c w =
    let r = live_reads (map value_of c.self.inside.cells.items) c.self.inside.generations.items c.args.slot (subst (λ p. IsSome (value_at p c.args.slot)) (sym c.self.view_is) c.requires) in
    (rw (map-set value_of c.self.inside.cells.items c.args.slot.number (Live w)) (rewritten (map value_of c.self.inside.cells.items) c.self.inside.generations.items c.self.inside.free.items c.args.slot.number c.self.inside.room r.value w c.self.invariant.0 r.stands), c.self.invariant.1)

pub returns : goal.returns
returns g c =
    let r = live_reads (map value_of c.self.inside.cells.items) c.self.inside.generations.items c.args.slot (subst (λ p. IsSome (value_at p c.args.slot)) (sym c.self.view_is) c.requires) in
    let inside : c.args.slot.number < length (map value_of c.self.inside.cells.items) = value_inside (map value_of c.self.inside.cells.items) c.args.slot.number r.value r.stands in
    let cell = get_or_read c.self.inside.cells.items c.args.slot.number c.index_mut.result.now (omega (arith, length-map c.self.inside.cells.items value_of)) c.index_mut.ensures.value Vacant in (
      (refl {a = c.value_mut.result.ghost_name}, λ w. rw (← c.self.view_is, map-set value_of c.self.inside.cells.items c.args.slot.number (Live w))),
      record { writes_back = tt; value = rw (← c.self.view_is) (read_present (map value_of c.self.inside.cells.items) c.self.inside.generations.items c.args.slot r.present ∙ read_value c.self.inside.cells.items c.args.slot.number ∙ sym (ap value_of cell) ∙ c.value_mut.ensures.value) },
    )
