use Rattle.std.proofs.Common.{◌≡◌, ℕ, ◌-◌, ◌*◌, ◌<◌, ◌≤◌, List, [], get_or, set, sym, ◌∙◌, ap, subst, arith}
use Rattle.std.proofs.lemmas.List.{length-map, map-set}
use Rattle.fuxi_terms.specs.Jobs.{size_at, group_of}
use Rattle.fuxi_terms.specs.Tables.{spot, held_on}
use Rattle.fuxi_terms.specs.declared.vectors.Res.{Res}
use Rattle.grant_table.specs.GrantTables.{TableRecord, Cell, cell_of, cell_at, cells_of, with_cell, lowered, entries_in, loads_of, as_known, without_count, IsLevel}
use Rattle.grant_table.proofs.SetTotals.{set_level}
use Rattle.grant_table.proofs.ChangedCounts.{load_at, usage_read, rack_is, there_from, us, rack_there, part_held, part_rack, fewer, size_is, taken_load, taken_usage, may_take, taken_entries}
use Rattle.grant_table.proofs.table.GrantTable.take.Goals as goal

pub lower_at-requires-clause-rack : goal.lower_at-requires-clause-rack
lower_at-requires-clause-rack c =
    let h = there_from c.args.self.now _ _ _ _ _ c.args.app.0 c.args.unit.0 c.args.machine.0 c.self.view_is c.self.invariant c.requires.unit c.requires.machine in
    let r = rack_is c.self.inside.cluster.machines c.args.machine.0 c.machine.result.now c.machine.ensures in
    let l = (us _ _ _ _ _ _ _ _ h).racks in
    let t = rack_there _ _ _ _ _ _ _ _ h in
    omega (arith, r, l, t)

pub lower_at-requires-clause-count : goal.lower_at-requires-clause-count
lower_at-requires-clause-count c =
    let h = there_from c.args.self.now _ _ _ _ _ c.args.app.0 c.args.unit.0 c.args.machine.0 c.self.view_is c.self.invariant c.requires.unit c.requires.machine in
    let held = subst (λ (t : TableRecord). c.args.count ≤ held_on t.entries c.args.app.0 c.args.unit.0 c.args.machine.0) (sym c.self.view_is) c.requires.held in
    fewer _ _ _ _ _ _ _ _ h c.args.count held

pub lower_at-requires-clause-held : goal.lower_at-requires-clause-held
lower_at-requires-clause-held c =
    let h = there_from c.args.self.now _ _ _ _ _ c.args.app.0 c.args.unit.0 c.args.machine.0 c.self.view_is c.self.invariant c.requires.unit c.requires.machine in
    let held = subst (λ (t : TableRecord). c.args.count ≤ held_on t.entries c.args.app.0 c.args.unit.0 c.args.machine.0) (sym c.self.view_is) c.requires.held in
    let f = fewer _ _ _ _ _ _ _ _ h c.args.count held in
    let p = part_held _ _ _ _ _ _ _ _ h in
    omega (arith, f, p)

pub lower_at-requires-clause-in_rack : goal.lower_at-requires-clause-in_rack
lower_at-requires-clause-in_rack c =
    let h = there_from c.args.self.now _ _ _ _ _ c.args.app.0 c.args.unit.0 c.args.machine.0 c.self.view_is c.self.invariant c.requires.unit c.requires.machine in
    let held = subst (λ (t : TableRecord). c.args.count ≤ held_on t.entries c.args.app.0 c.args.unit.0 c.args.machine.0) (sym c.self.view_is) c.requires.held in
    let r = rack_is c.self.inside.cluster.machines c.args.machine.0 c.machine.result.now c.machine.ensures in
    let f = fewer _ _ _ _ _ _ _ _ h c.args.count held in
    let p = part_rack _ _ _ _ _ _ _ _ h in
    subst (λ x. c.args.count ≤ get_or (cell_at (cells_of c.self.inside.slots.items) c.args.app.0 c.args.unit.0).racks x 0) (sym r) (omega (arith, f, p))

pub without-requires : goal.without-requires
without-requires c =
    let h = there_from c.args.self.now _ _ _ _ _ c.args.app.0 c.args.unit.0 c.args.machine.0 c.self.view_is c.self.invariant c.requires.unit c.requires.machine in
    let held = subst (λ (t : TableRecord). c.args.count ≤ held_on t.entries c.args.app.0 c.args.unit.0 c.args.machine.0) (sym c.self.view_is) c.requires.held in
    let cell : cell_of c.holding_at-holding.result.now ≡ cell_at (cells_of c.self.inside.slots.items) c.args.app.0 c.args.unit.0 = rw (← c.deref.ensures.value) c.holding_at-holding.ensures in
    let here = subst (λ n. c.args.machine.0 < n) (sym c.self.invariant.machines ∙ length-map c.self.inside.used.items _) h.machine in
    let load = load_at c.self.inside.used.items c.args.machine.0 c.index_mut-used.result.now here c.index_mut-used.ensures.value in
    let size : (i : ℕ) → get_or c.holding_at-holding.result.now.size.q i 0 ≡ size_at (as_known c.self.inside.jobs.items) c.args.app.0 c.args.unit.0 i = λ i. ap (λ (x : Cell). get_or x.size i 0) cell ∙ size_is _ _ _ _ _ _ _ _ h i in
    λ i.
    let t = taken_load _ _ _ _ _ _ _ _ h c.args.count held i in
    let u : get_or (get_or (loads_of c.self.inside.used.items) c.args.machine.0 []) i 0 ≡ get_or c.index_mut-used.result.now.q i 0 = ap (λ xs. get_or xs i 0) load in
    subst (λ x. c.args.count * x ≤ get_or c.index_mut-used.result.now.q i 0) (sym (size i)) (subst (λ x. c.args.count * size_at (as_known c.self.inside.jobs.items) c.args.app.0 c.args.unit.0 i ≤ x) u t)

pub without-requires-2 : goal.without-requires-2
without-requires-2 c =
    let h = there_from c.args.self.now _ _ _ _ _ c.args.app.0 c.args.unit.0 c.args.machine.0 c.self.view_is c.self.invariant c.requires.unit c.requires.machine in
    let held = subst (λ (t : TableRecord). c.args.count ≤ held_on t.entries c.args.app.0 c.args.unit.0 c.args.machine.0) (sym c.self.view_is) c.requires.held in
    let cell : cell_of c.holding_at-holding.result.now ≡ cell_at (cells_of c.self.inside.slots.items) c.args.app.0 c.args.unit.0 = rw (← c.deref.ensures.value) c.holding_at-holding.ensures in
    let group : c.holding_at-holding.result.now.group.0 ≡ group_of (as_known c.self.inside.jobs.items) c.args.app.0 = ap (λ (x : Cell). x.group) cell ∙ (us _ _ _ _ _ _ _ _ h).grouped in
    let usage = usage_read _ _ _ _ c.self.inside.usages.items _ _ _ h c.holding_at-holding.result.now.group.0 group c.index_mut-usage.result.now c.index_mut-usage.ensures.value in
    let size : (i : ℕ) → get_or c.holding_at-holding.result.now.size.q i 0 ≡ size_at (as_known c.self.inside.jobs.items) c.args.app.0 c.args.unit.0 i = λ i. ap (λ (x : Cell). get_or x.size i 0) cell ∙ size_is _ _ _ _ _ _ _ _ h i in
    λ i.
    let t = taken_usage _ _ _ _ _ _ _ _ h c.args.count held i in
    let u : get_or (get_or (loads_of c.self.inside.usages.items) (group_of (as_known c.self.inside.jobs.items) c.args.app.0) []) i 0 ≡ get_or c.index_mut-usage.result.now.q i 0 = ap (λ g. get_or (get_or (loads_of c.self.inside.usages.items) g []) i 0) (sym group) ∙ ap (λ xs. get_or xs i 0) usage in
    subst (λ x. c.args.count * x ≤ get_or c.index_mut-usage.result.now.q i 0) (sym (size i)) (subst (λ x. c.args.count * size_at (as_known c.self.inside.jobs.items) c.args.app.0 c.args.unit.0 i ≤ x) u t)

pub invariant_of-self : goal.invariant_of-self
invariant_of-self c =
    let h = there_from c.args.self.now _ _ _ _ _ c.args.app.0 c.args.unit.0 c.args.machine.0 c.self.view_is c.self.invariant c.requires.unit c.requires.machine in
    let held = subst (λ (t : TableRecord). c.args.count ≤ held_on t.entries c.args.app.0 c.args.unit.0 c.args.machine.0) (sym c.self.view_is) c.requires.held in
    let cell : cell_of c.holding_at-holding.result.now ≡ cell_at (cells_of c.self.inside.slots.items) c.args.app.0 c.args.unit.0 = rw (← c.deref.ensures.value) c.holding_at-holding.ensures in
    let group : c.holding_at-holding.result.now.group.0 ≡ group_of (as_known c.self.inside.jobs.items) c.args.app.0 = ap (λ (x : Cell). x.group) cell ∙ (us _ _ _ _ _ _ _ _ h).grouped in
    let usage = usage_read _ _ _ _ c.self.inside.usages.items _ _ _ h c.holding_at-holding.result.now.group.0 group c.index_mut-usage.result.now c.index_mut-usage.ensures.value in
    let here = subst (λ n. c.args.machine.0 < n) (sym c.self.invariant.machines ∙ length-map c.self.inside.used.items _) h.machine in
    let load = load_at c.self.inside.used.items c.args.machine.0 c.index_mut-used.result.now here c.index_mut-used.ensures.value in
    let size : (i : ℕ) → get_or c.holding_at-holding.result.now.size.q i 0 ≡ size_at (as_known c.self.inside.jobs.items) c.args.app.0 c.args.unit.0 i = λ i. ap (λ (x : Cell). get_or x.size i 0) cell ∙ size_is _ _ _ _ _ _ _ _ h i in
    let q : (i : ℕ) → get_or c.without.result.q i 0 ≡ get_or (get_or (loads_of c.self.inside.used.items) c.args.machine.0 []) i 0 - c.args.count * size_at (as_known c.self.inside.jobs.items) c.args.app.0 c.args.unit.0 i = λ i.
    c.without.ensures i ∙ (λ j. get_or (sym load j) i 0 - c.args.count * size i j) in
    let p : (i : ℕ) → get_or c.without-2.result.q i 0 ≡ get_or (get_or (loads_of c.self.inside.usages.items) (group_of (as_known c.self.inside.jobs.items) c.args.app.0) []) i 0 - c.args.count * size_at (as_known c.self.inside.jobs.items) c.args.app.0 c.args.unit.0 i = λ i.
    c.without-2.ensures i ∙ (λ j. get_or (sym usage j) i 0 - c.args.count * size i j) ∙ ap (λ g. get_or (get_or (loads_of c.self.inside.usages.items) g []) i 0 - c.args.count * size_at (as_known c.self.inside.jobs.items) c.args.app.0 c.args.unit.0 i) group in
    let may = may_take _ _ _ _ _ _ _ _ h c.args.count held c.without.result.q c.without-2.result.q q p in
    let level = set_level _ _ _ _ _ _ _ _ _ _ _ _ _ c.self.invariant may in
    let r = rack_is c.self.inside.cluster.machines c.args.machine.0 c.machine.result.now c.machine.ensures in
    let f : Res → List ℕ = λ r. r.q in
    let cells = ap (λ r. with_cell (cells_of c.self.inside.slots.items) c.args.app.0 c.args.unit.0 (lowered (cell_at (cells_of c.self.inside.slots.items) c.args.app.0 c.args.unit.0) c.args.machine.0 r c.args.count)) (sym r) ∙ sym c.lower_at.ensures in
    let loads = sym (map-set f c.self.inside.used.items c.args.machine.0 c.without.result) in
    let spent = ap (λ g. set (loads_of c.self.inside.usages.items) g c.without-2.result.q) (sym group) ∙ sym (map-set f c.self.inside.usages.items c.holding_at-holding.result.now.group.0 c.without-2.result) in
    subst (λ x. IsLevel c.self.inside.cluster c.self.inside.jobs.items (cells_of c.lower_at.new.slots.items) (loads_of (set c.self.inside.used.items c.args.machine.0 c.without.result)) x) spent
    (subst (λ x. IsLevel c.self.inside.cluster c.self.inside.jobs.items (cells_of c.lower_at.new.slots.items) x (set (loads_of c.self.inside.usages.items) (group_of (as_known c.self.inside.jobs.items) c.args.app.0) c.without-2.result.q)) loads
    (subst (λ x. IsLevel c.self.inside.cluster c.self.inside.jobs.items x (set (loads_of c.self.inside.used.items) c.args.machine.0 c.without.result.q) (set (loads_of c.self.inside.usages.items) (group_of (as_known c.self.inside.jobs.items) c.args.app.0) c.without-2.result.q)) cells level))

pub returns : goal.returns
returns c =
    let h = there_from c.args.self.now _ _ _ _ _ c.args.app.0 c.args.unit.0 c.args.machine.0 c.self.view_is c.self.invariant c.requires.unit c.requires.machine in
    let held = subst (λ (t : TableRecord). c.args.count ≤ held_on t.entries c.args.app.0 c.args.unit.0 c.args.machine.0) (sym c.self.view_is) c.requires.held in
    let r = rack_is c.self.inside.cluster.machines c.args.machine.0 c.machine.result.now c.machine.ensures in
    let e = ap entries_in (c.lower_at.ensures ∙ ap (λ r. with_cell (cells_of c.self.inside.slots.items) c.args.app.0 c.args.unit.0 (lowered (cell_at (cells_of c.self.inside.slots.items) c.args.app.0 c.args.unit.0) c.args.machine.0 r c.args.count)) r) ∙ taken_entries _ _ _ _ _ _ _ _ h c.args.count held in
    subst (λ (t : TableRecord). record { cluster = c.self.inside.cluster; jobs = c.self.inside.jobs.items; entries = entries_in (cells_of c.lower_at.new.slots.items) } ≡ record t { entries = without_count t.entries (spot c.args.app.0 c.args.unit.0 c.args.machine.0) c.args.count }) c.self.view_is
    (λ i. record { cluster = c.self.inside.cluster; jobs = c.self.inside.jobs.items; entries = e i })
