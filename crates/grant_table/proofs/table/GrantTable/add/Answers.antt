use Rattle.std.proofs.Common.{◌≡◌, ℕ, ◌+◌, ◌*◌, ◌<◌, ◌≤◌, List, [], get_or, set, sym, ◌∙◌, ap, subst, arith}
use Rattle.std.proofs.lemmas.List.{length-map, map-set}
use Rattle.fuxi_terms.specs.Jobs.{size_at, group_of}
use Rattle.fuxi_terms.specs.Cluster.{has_at}
use Rattle.fuxi_terms.specs.Tables.{spot, held_on, total_at}
use Rattle.fuxi_terms.specs.declared.vectors.Res.{Res}
use Rattle.grant_table.specs.GrantTables.{TableRecord, Cell, cell_of, cell_at, cells_of, with_cell, with_count, raised, entries_in, loads_of, as_known, IsLevel}
use Rattle.grant_table.proofs.Totals.{in_rack_within}
use Rattle.grant_table.proofs.SetTotals.{set_level}
use Rattle.grant_table.proofs.ChangedCounts.{load_at, usage_read, rack_is, there_from, us, rack_there, held_few, size_is, load_room, usage_room, may_add, added_entries}
use Rattle.grant_table.proofs.table.GrantTable.add.Goals as goal

pub raise_at-requires-clause-rack : goal.raise_at-requires-clause-rack
raise_at-requires-clause-rack c =
    let h = there_from c.args.self.now _ _ _ _ _ c.args.app.0 c.args.unit.0 c.args.machine.0 c.self.view_is c.self.invariant c.requires.unit c.requires.machine in
    let r = rack_is c.self.inside.cluster.machines c.args.machine.0 c.machine.result.now c.machine.ensures in
    let l = (us _ _ _ _ _ _ _ _ h).racks in
    let t = rack_there _ _ _ _ _ _ _ _ h in
    omega (arith, r, l, t)

pub raise_at-requires-clause-held : goal.raise_at-requires-clause-held
raise_at-requires-clause-held c =
    let h = there_from c.args.self.now _ _ _ _ _ c.args.app.0 c.args.unit.0 c.args.machine.0 c.self.view_is c.self.invariant c.requires.unit c.requires.machine in
    let f = held_few _ _ _ _ _ _ _ _ h in
    omega (arith, f)

pub raise_at-requires-clause-in_rack : goal.raise_at-requires-clause-in_rack
raise_at-requires-clause-in_rack c =
    let h = there_from c.args.self.now _ _ _ _ _ c.args.app.0 c.args.unit.0 c.args.machine.0 c.self.view_is c.self.invariant c.requires.unit c.requires.machine in
    let r = rack_is c.self.inside.cluster.machines c.args.machine.0 c.machine.result.now c.machine.ensures in
    let x = us _ _ _ _ _ _ _ _ h in
    let t = rack_there _ _ _ _ _ _ _ _ h in
    let f = held_few _ _ _ _ _ _ _ _ h in
    let e = x.in_rack c.machine.result.now.rack.0 (omega (arith, r, t)) in
    let w = in_rack_within c.self.inside.cluster (entries_in (cells_of c.self.inside.slots.items)) c.args.app.0 c.args.unit.0 c.machine.result.now.rack.0 in
    let o = x.held in
    omega (arith, f, e, w, o)

pub with_more-requires : goal.with_more-requires
with_more-requires c =
    let h = there_from c.args.self.now _ _ _ _ _ c.args.app.0 c.args.unit.0 c.args.machine.0 c.self.view_is c.self.invariant c.requires.unit c.requires.machine in
    let few = subst (λ (t : TableRecord). held_on t.entries c.args.app.0 c.args.unit.0 c.args.machine.0 + c.args.count ≤ 100000) (sym c.self.view_is) c.requires.few in
    let room = subst (λ (t : TableRecord). (i : ℕ) → total_at (as_known t.jobs) c.args.machine.0 i t.entries + c.args.count * size_at (as_known t.jobs) c.args.app.0 c.args.unit.0 i ≤ has_at t.cluster c.args.machine.0 i) (sym c.self.view_is) c.requires.room in
    let cell : cell_of c.holding_at-holding.result.now ≡ cell_at (cells_of c.self.inside.slots.items) c.args.app.0 c.args.unit.0 = rw (← c.deref.ensures.value) c.holding_at-holding.ensures in
    let there = subst (λ n. c.args.machine.0 < n) (sym c.self.invariant.machines ∙ length-map c.self.inside.used.items _) h.machine in
    let load = load_at c.self.inside.used.items c.args.machine.0 c.index_mut-used.result.now there c.index_mut-used.ensures.value in
    let size : (i : ℕ) → get_or c.holding_at-holding.result.now.size.q i 0 ≡ size_at (as_known c.self.inside.jobs.items) c.args.app.0 c.args.unit.0 i = λ i. ap (λ (x : Cell). get_or x.size i 0) cell ∙ size_is _ _ _ _ _ _ _ _ h i in
    λ i.
    let r = load_room _ _ _ _ _ _ _ _ h c.args.count few room i in
    let u : get_or (get_or (loads_of c.self.inside.used.items) c.args.machine.0 []) i 0 ≡ get_or c.index_mut-used.result.now.q i 0 = ap (λ xs. get_or xs i 0) load in
    let w : get_or c.index_mut-used.result.now.q i 0 + c.args.count * get_or c.holding_at-holding.result.now.size.q i 0 ≤ 1000000000000 =
    subst (λ x. get_or c.index_mut-used.result.now.q i 0 + c.args.count * x ≤ 1000000000000) (sym (size i)) (subst (λ x. x + c.args.count * size_at (as_known c.self.inside.jobs.items) c.args.app.0 c.args.unit.0 i ≤ 1000000000000) u r) in
    omega (arith, w)

pub with_more-requires-2 : goal.with_more-requires-2
with_more-requires-2 c =
    let h = there_from c.args.self.now _ _ _ _ _ c.args.app.0 c.args.unit.0 c.args.machine.0 c.self.view_is c.self.invariant c.requires.unit c.requires.machine in
    let few = subst (λ (t : TableRecord). held_on t.entries c.args.app.0 c.args.unit.0 c.args.machine.0 + c.args.count ≤ 100000) (sym c.self.view_is) c.requires.few in
    let room = subst (λ (t : TableRecord). (i : ℕ) → total_at (as_known t.jobs) c.args.machine.0 i t.entries + c.args.count * size_at (as_known t.jobs) c.args.app.0 c.args.unit.0 i ≤ has_at t.cluster c.args.machine.0 i) (sym c.self.view_is) c.requires.room in
    let cell : cell_of c.holding_at-holding.result.now ≡ cell_at (cells_of c.self.inside.slots.items) c.args.app.0 c.args.unit.0 = rw (← c.deref.ensures.value) c.holding_at-holding.ensures in
    let group : c.holding_at-holding.result.now.group.0 ≡ group_of (as_known c.self.inside.jobs.items) c.args.app.0 = ap (λ (x : Cell). x.group) cell ∙ (us _ _ _ _ _ _ _ _ h).grouped in
    let load = usage_read _ _ _ _ c.self.inside.usages.items _ _ _ h c.holding_at-holding.result.now.group.0 group c.index_mut-usage.result.now c.index_mut-usage.ensures.value in
    let size : (i : ℕ) → get_or c.holding_at-holding.result.now.size.q i 0 ≡ size_at (as_known c.self.inside.jobs.items) c.args.app.0 c.args.unit.0 i = λ i. ap (λ (x : Cell). get_or x.size i 0) cell ∙ size_is _ _ _ _ _ _ _ _ h i in
    λ i.
    let r = usage_room _ _ _ _ _ _ _ _ h c.args.count few room i in
    let u : get_or (get_or (loads_of c.self.inside.usages.items) (group_of (as_known c.self.inside.jobs.items) c.args.app.0) []) i 0 ≡ get_or c.index_mut-usage.result.now.q i 0 = ap (λ g. get_or (get_or (loads_of c.self.inside.usages.items) g []) i 0) (sym group) ∙ ap (λ xs. get_or xs i 0) load in
    let w : get_or c.index_mut-usage.result.now.q i 0 + c.args.count * get_or c.holding_at-holding.result.now.size.q i 0 ≤ 1000000000000000 =
    subst (λ x. get_or c.index_mut-usage.result.now.q i 0 + c.args.count * x ≤ 1000000000000000) (sym (size i)) (subst (λ x. x + c.args.count * size_at (as_known c.self.inside.jobs.items) c.args.app.0 c.args.unit.0 i ≤ 1000000000000000) u r) in
    omega (arith, w)

pub invariant_of-self : goal.invariant_of-self
invariant_of-self c =
    let h = there_from c.args.self.now _ _ _ _ _ c.args.app.0 c.args.unit.0 c.args.machine.0 c.self.view_is c.self.invariant c.requires.unit c.requires.machine in
    let few = subst (λ (t : TableRecord). held_on t.entries c.args.app.0 c.args.unit.0 c.args.machine.0 + c.args.count ≤ 100000) (sym c.self.view_is) c.requires.few in
    let room = subst (λ (t : TableRecord). (i : ℕ) → total_at (as_known t.jobs) c.args.machine.0 i t.entries + c.args.count * size_at (as_known t.jobs) c.args.app.0 c.args.unit.0 i ≤ has_at t.cluster c.args.machine.0 i) (sym c.self.view_is) c.requires.room in
    let cell : cell_of c.holding_at-holding.result.now ≡ cell_at (cells_of c.self.inside.slots.items) c.args.app.0 c.args.unit.0 = rw (← c.deref.ensures.value) c.holding_at-holding.ensures in
    let group : c.holding_at-holding.result.now.group.0 ≡ group_of (as_known c.self.inside.jobs.items) c.args.app.0 = ap (λ (x : Cell). x.group) cell ∙ (us _ _ _ _ _ _ _ _ h).grouped in
    let here = subst (λ n. c.args.machine.0 < n) (sym c.self.invariant.machines ∙ length-map c.self.inside.used.items _) h.machine in
    let load = load_at c.self.inside.used.items c.args.machine.0 c.index_mut-used.result.now here c.index_mut-used.ensures.value in
    let usage = usage_read _ _ _ _ c.self.inside.usages.items _ _ _ h c.holding_at-holding.result.now.group.0 group c.index_mut-usage.result.now c.index_mut-usage.ensures.value in
    let size : (i : ℕ) → get_or c.holding_at-holding.result.now.size.q i 0 ≡ size_at (as_known c.self.inside.jobs.items) c.args.app.0 c.args.unit.0 i = λ i. ap (λ (x : Cell). get_or x.size i 0) cell ∙ size_is _ _ _ _ _ _ _ _ h i in
    let q : (i : ℕ) → get_or c.with_more.result.q i 0 ≡ get_or (get_or (loads_of c.self.inside.used.items) c.args.machine.0 []) i 0 + c.args.count * size_at (as_known c.self.inside.jobs.items) c.args.app.0 c.args.unit.0 i = λ i.
    c.with_more.ensures i ∙ (λ j. get_or (sym load j) i 0 + c.args.count * size i j) in
    let p : (i : ℕ) → get_or c.with_more-2.result.q i 0 ≡ get_or (get_or (loads_of c.self.inside.usages.items) (group_of (as_known c.self.inside.jobs.items) c.args.app.0) []) i 0 + c.args.count * size_at (as_known c.self.inside.jobs.items) c.args.app.0 c.args.unit.0 i = λ i.
    c.with_more-2.ensures i ∙ (λ j. get_or (sym usage j) i 0 + c.args.count * size i j) ∙ ap (λ g. get_or (get_or (loads_of c.self.inside.usages.items) g []) i 0 + c.args.count * size_at (as_known c.self.inside.jobs.items) c.args.app.0 c.args.unit.0 i) group in
    let may = may_add _ _ _ _ _ _ _ _ h c.args.count few room c.with_more.result.q c.with_more-2.result.q q p in
    let level = set_level _ _ _ _ _ _ _ _ _ _ _ _ _ c.self.invariant may in
    let rack = rack_is c.self.inside.cluster.machines c.args.machine.0 c.machine.result.now c.machine.ensures in
    let f : Res → List ℕ = λ r. r.q in
    let cells = ap (λ r. with_cell (cells_of c.self.inside.slots.items) c.args.app.0 c.args.unit.0 (raised (cell_at (cells_of c.self.inside.slots.items) c.args.app.0 c.args.unit.0) c.args.machine.0 r c.args.count)) (sym rack) ∙ sym c.raise_at.ensures in
    let loads = sym (map-set f c.self.inside.used.items c.args.machine.0 c.with_more.result) in
    let spent = ap (λ g. set (loads_of c.self.inside.usages.items) g c.with_more-2.result.q) (sym group) ∙ sym (map-set f c.self.inside.usages.items c.holding_at-holding.result.now.group.0 c.with_more-2.result) in
    subst (λ x. IsLevel c.self.inside.cluster c.self.inside.jobs.items (cells_of c.raise_at.new.slots.items) (loads_of (set c.self.inside.used.items c.args.machine.0 c.with_more.result)) x) spent
    (subst (λ x. IsLevel c.self.inside.cluster c.self.inside.jobs.items (cells_of c.raise_at.new.slots.items) x (set (loads_of c.self.inside.usages.items) (group_of (as_known c.self.inside.jobs.items) c.args.app.0) c.with_more-2.result.q)) loads
    (subst (λ x. IsLevel c.self.inside.cluster c.self.inside.jobs.items x (set (loads_of c.self.inside.used.items) c.args.machine.0 c.with_more.result.q) (set (loads_of c.self.inside.usages.items) (group_of (as_known c.self.inside.jobs.items) c.args.app.0) c.with_more-2.result.q)) cells level))

pub returns : goal.returns
returns c =
    let h = there_from c.args.self.now _ _ _ _ _ c.args.app.0 c.args.unit.0 c.args.machine.0 c.self.view_is c.self.invariant c.requires.unit c.requires.machine in
    let few = subst (λ (t : TableRecord). held_on t.entries c.args.app.0 c.args.unit.0 c.args.machine.0 + c.args.count ≤ 100000) (sym c.self.view_is) c.requires.few in
    let room = subst (λ (t : TableRecord). (i : ℕ) → total_at (as_known t.jobs) c.args.machine.0 i t.entries + c.args.count * size_at (as_known t.jobs) c.args.app.0 c.args.unit.0 i ≤ has_at t.cluster c.args.machine.0 i) (sym c.self.view_is) c.requires.room in
    let rack = rack_is c.self.inside.cluster.machines c.args.machine.0 c.machine.result.now c.machine.ensures in
    let e = ap entries_in (c.raise_at.ensures ∙ ap (λ r. with_cell (cells_of c.self.inside.slots.items) c.args.app.0 c.args.unit.0 (raised (cell_at (cells_of c.self.inside.slots.items) c.args.app.0 c.args.unit.0) c.args.machine.0 r c.args.count)) rack) ∙ added_entries _ _ _ _ _ _ _ _ h c.args.count few room in
    subst (λ (t : TableRecord). record { cluster = c.self.inside.cluster; jobs = c.self.inside.jobs.items; entries = entries_in (cells_of c.raise_at.new.slots.items) } ≡ record t { entries = with_count t.entries (spot c.args.app.0 c.args.unit.0 c.args.machine.0) c.args.count }) c.self.view_is
    (λ i. record { cluster = c.self.inside.cluster; jobs = c.self.inside.jobs.items; entries = e i })
