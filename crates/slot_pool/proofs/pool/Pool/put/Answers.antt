use Rattle.std.proofs.Common.{◌≡◌, Some, None, length, map, get_or, set, sym, ap, ◌∙◌, arith}
use Rattle.std.proofs.lemmas.List.{map-set, map_push, get_or-set_same, length-map, get_or_read}
use Rattle.slot_pool.specs.PoolLayout.{value_of}
use Rattle.slot_pool.specs.Pools.{value_at}
use Rattle.slot_pool.proofs.PoolLayoutLemmas.{last_free, refilled, last_vacant}
use Rattle.slot_pool.proofs.PoolsLemmas.{read_present, read_nothing, reads_as_before, differs_set, differs_appended}
use Rattle.slot_pool.proofs.pool.Pool.put.Goals as goal

pub invariant_of-self : goal.invariant_of-self
invariant_of-self g c =
    let was = last_free (map value_of c.self.inside.cells.items) c.self.inside.generations.items c.self.inside.free.items c.pop.new.self.items c.in-Some.number c.self.inside.room c.pop.result c.self.invariant.0 c.pop.ensures.items c.in-Some.is in
    (rw (c.replace.ensures.after, map-set) (refilled _ _ _ _ _ c.args.value was), rw c.pop.ensures.capacity c.self.invariant.1)

pub returns-in-Vacant-clause-absent : goal.returns-in-Vacant-clause-absent
returns-in-Vacant-clause-absent g c =
    let was = last_free (map value_of c.self.inside.cells.items) c.self.inside.generations.items c.self.inside.free.items c.pop.new.self.items c.in-Some.number c.self.inside.room c.pop.result c.self.invariant.0 c.pop.ensures.items c.in-Some.is in
    rw (← c.self.view_is) (read_nothing _ _ (record { number = c.in-Some.number; generation = c.index.result.now }) (last_vacant _ _ _ _ _ was).1)

pub returns-in-Vacant-clause-generation : goal.returns-in-Vacant-clause-generation
returns-in-Vacant-clause-generation g c =
    let was = last_free (map value_of c.self.inside.cells.items) c.self.inside.generations.items c.self.inside.free.items c.pop.new.self.items c.in-Some.number c.self.inside.room c.pop.result c.self.invariant.0 c.pop.ensures.items c.in-Some.is in
    let inside = (last_vacant _ _ _ _ _ was).0 in
    rw (← c.self.view_is) (get_or_read c.self.inside.generations.items c.in-Some.number c.index.result.now (omega (arith, was.numbered)) c.index.ensures 0)

pub returns-in-Vacant-clause-put : goal.returns-in-Vacant-clause-put
returns-in-Vacant-clause-put g c =
    let was = last_free (map value_of c.self.inside.cells.items) c.self.inside.generations.items c.self.inside.free.items c.pop.new.self.items c.in-Some.number c.self.inside.room c.pop.result c.self.invariant.0 c.pop.ensures.items c.in-Some.is in
    let inside = (last_vacant _ _ _ _ _ was).0 in
    let present = sym (get_or_read c.self.inside.generations.items c.in-Some.number c.index.result.now (omega (arith, was.numbered)) c.index.ensures 0) in
    rw (c.replace.ensures.after, map-set) (read_present (set (map value_of c.self.inside.cells.items) c.in-Some.number (Some c.args.value)) c.self.inside.generations.items (record { number = c.in-Some.number; generation = c.index.result.now }) present ∙ get_or-set_same (map value_of c.self.inside.cells.items) c.in-Some.number (Some c.args.value) None inside)

pub returns-in-Vacant-clause-others : goal.returns-in-Vacant-clause-others
returns-in-Vacant-clause-others g c = λ slot other.
    let was = last_free (map value_of c.self.inside.cells.items) c.self.inside.generations.items c.self.inside.free.items c.pop.new.self.items c.in-Some.number c.self.inside.room c.pop.result c.self.invariant.0 c.pop.ensures.items c.in-Some.is in
    let inside = (last_vacant _ _ _ _ _ was).0 in
    let present = sym (get_or_read c.self.inside.generations.items c.in-Some.number c.index.result.now (omega (arith, was.numbered)) c.index.ensures 0) in
    rw (c.replace.ensures.after, map-set) (reads_as_before (map value_of c.self.inside.cells.items) c.self.inside.generations.items _ c.self.inside.generations.items c.in-Some.number c.index.result.now (differs_set (map value_of c.self.inside.cells.items) c.self.inside.generations.items c.in-Some.number (Some c.args.value)) present slot other ∙ ap (λ p. value_at p slot) c.self.view_is)

pub returns-in-None-clause-others : goal.returns-in-None-clause-others
returns-in-None-clause-others g c = λ slot other.
    let numbered = c.self.invariant.0.numbered in
    let mapped = length-map c.self.inside.cells.items value_of in
    let number : c.len-number.result ≡ length (map value_of c.self.inside.cells.items) = omega arith in
    let unused : get_or c.self.inside.generations.items c.len-number.result 0 ≡ 0 = Rattle.std.proofs.lemmas.List.get_or_past c.self.inside.generations.items c.len-number.result 0 (omega arith) in
    rw (c.push_reserved.ensures.items, c.push_reserved-in-None.ensures.items, map_push) (reads_as_before (map value_of c.self.inside.cells.items) c.self.inside.generations.items _ _ c.len-number.result 0 (differs_appended (map value_of c.self.inside.cells.items) c.self.inside.generations.items c.len-number.result (Some c.args.value) number numbered) unused slot other ∙ ap (λ p. value_at p slot) c.self.view_is)
