use Rattle.std.proofs.Common.{◌≡◌, ◌-◌, ◌<◌, [], length, get_or, sym, ◌∙◌, ap, subst, arith}
use Rattle.std.proofs.lemmas.List.{length-map}
use Rattle.fuxi_terms.specs.Vectors.{at_place, minus}
use Rattle.fuxi_terms.proofs.ByPlace.{at_place-get_or, get_or-minus, fits_from}
use Rattle.fuxi_terms.specs.Cluster.{has_at}
use Rattle.fuxi_terms.specs.Tables.{total_at}
use Rattle.grant_table.specs.GrantTables.{TableRecord, as_known, cells_of, entries_in, loads_of}
use Rattle.grant_table.proofs.ChangedCounts.{load_at, has_is}
use Rattle.grant_table.proofs.table.GrantTable.free.Goals as goal

pub minus-requires : goal.minus-requires
minus-requires g c =
    let machine = subst (λ (t : TableRecord). c.args.machine.0 < length t.cluster.machines) (sym c.self.view_is) c.requires in
    let there = subst (λ n. c.args.machine.0 < n) (sym c.self.invariant.machines ∙ length-map c.self.inside.used.items _) machine in
    let load = load_at c.self.inside.used.items c.args.machine.0 c.index.result.now there c.index.ensures in
    fits_from c.index.result.now.q c.machine.result.now.has.q (λ i lt.
    let t = c.self.invariant.totals c.args.machine.0 i machine in
    let f = c.self.invariant.fits c.args.machine.0 i machine in
    let h = has_is c.self.inside.cluster.machines c.args.machine.0 i c.machine.result.now c.machine.ensures in
    let u : get_or (get_or (loads_of c.self.inside.used.items) c.args.machine.0 []) i 0 ≡ get_or c.index.result.now.q i 0 = ap (λ xs. get_or xs i 0) load in
    let p = at_place-get_or c.machine.result.now.has.q i in
    omega (arith, t, f, h, u, p))

pub returns-clause-free : goal.returns-clause-free
returns-clause-free g c i =
    let machine = subst (λ (t : TableRecord). c.args.machine.0 < length t.cluster.machines) (sym c.self.view_is) c.requires in
    let there = subst (λ n. c.args.machine.0 < n) (sym c.self.invariant.machines ∙ length-map c.self.inside.used.items _) machine in
    let load = load_at c.self.inside.used.items c.args.machine.0 c.index.result.now there c.index.ensures in
    let t = c.self.invariant.totals c.args.machine.0 i machine in
    let h = has_is c.self.inside.cluster.machines c.args.machine.0 i c.machine.result.now c.machine.ensures in
    let u : get_or (get_or (loads_of c.self.inside.used.items) c.args.machine.0 []) i 0 ≡ get_or c.index.result.now.q i 0 = ap (λ xs. get_or xs i 0) load in
    let p = at_place-get_or c.machine.result.now.has.q i in
    let r : at_place c.minus.result.q i ≡ get_or (minus c.machine.result.now.has.q c.index.result.now.q) i 0 = at_place-get_or c.minus.result.q i ∙ ap (λ xs. get_or xs i 0) c.minus.ensures in
    let d = get_or-minus c.machine.result.now.has.q c.index.result.now.q i in
    let all : at_place c.minus.result.q i ≡ has_at c.self.inside.cluster c.args.machine.0 i - total_at (as_known c.self.inside.jobs.items) c.args.machine.0 i (entries_in (cells_of c.self.inside.slots.items)) = omega (arith, t, h, u, p, r, d) in
    subst (λ (t : TableRecord). at_place c.minus.result.q i ≡ has_at t.cluster c.args.machine.0 i - total_at (as_known t.jobs) c.args.machine.0 i t.entries) c.self.view_is all
