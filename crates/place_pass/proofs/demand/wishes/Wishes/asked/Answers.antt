use Rattle.std.proofs.Common.{◌≡◌, ◌<◌, ℕ, true, false, [], length, get_or, set, sym, ap, subst, arith}
use Rattle.std.proofs.lemmas.List.{length-map}
use Rattle.place_pass.specs.Cells.{WishesRecord, cell_of, cell_at, all_cells, no_cell, taken, taken_all}
use Rattle.place_pass.proofs.SlotsLemmas.{slot_there, slot_cells, few_in_slot, each_in_slot, slot_taken, slot_wishes}
use Rattle.place_pass.proofs.demand.wishes.Wishes.asked.Goals as goal

pub index_mut-units-requires : goal.index_mut-units-requires
index_mut-units-requires c =
    let there = slot_there c.self.inside.slots.items c.self.inside.cluster c.self.inside.opened.items c.args.app.0 c.self.view_is 0 c.requires.here in
    let long = c.self.inside.slots.ok in
    omega (arith, there, long)

pub take_over-requires-clause-few : goal.take_over-requires-clause-few
take_over-requires-clause-few c = few_in_slot c.self.inside.cluster c.self.inside.slots.items c.self.inside.opened.items c.args.app.0 c.index_mut-units.result.now c.self.invariant.0 c.self.view_is c.requires.here c.index_mut-units.ensures.value

pub take_over-requires-clause-near : goal.take_over-requires-clause-near
take_over-requires-clause-near c u l = (each_in_slot c.self.inside.cluster c.self.inside.slots.items c.self.inside.opened.items c.args.app.0 c.index_mut-units.result.now c.self.invariant.0 c.self.view_is c.requires.here c.index_mut-units.ensures.value u l).near

pub take_over-requires-clause-same : goal.take_over-requires-clause-same
take_over-requires-clause-same c =
    let v = c.self.inside in
    let es = c.args.demand.now.entries in
    let a = c.args.app.0 in
    let units = c.index_mut-units.result.now in
    let is = slot_cells c.self.inside.cluster c.self.inside.slots.items c.self.inside.opened.items c.args.app.0 c.index_mut-units.result.now c.self.invariant.0 c.self.view_is c.requires.here c.index_mut-units.ensures.value in
    let n = length-map units.items cell_of in
    let long = ap length is in
    let same = subst (λ (w : WishesRecord). (u : ℕ) → u < length (get_or w.cells a []) → get_or c.args.differing.now u true ≡ false → taken w.cluster es u (cell_at w.cells a u) ≡ cell_at w.cells a u) (sym c.self.view_is) c.requires.same in
    λ u lt f. subst (λ xs. taken v.cluster es u (get_or xs u no_cell) ≡ get_or xs u no_cell) (sym is) (same u (omega (arith, lt, n, long)) f)

pub invariant_of-self : goal.invariant_of-self
invariant_of-self c =
    let wishes = slot_wishes c.self.inside.cluster c.self.inside.slots.items c.self.inside.opened.items c.args.app.0 c.index_mut-units.result.now c.self.invariant.0 c.self.view_is c.requires.here c.index_mut-units.ensures.value c.args.demand.now.entries c.take_over.new.units c.take_over.ensures.cells c.self.inside.least.q c.entries-counts.ensures.counts c.self.invariant.1 in
    (wishes.0, wishes.1, c.self.invariant.2)

pub returns-clause-cells : goal.returns-clause-cells
returns-clause-cells c =
    let v = c.self.inside in
    subst (λ (w : WishesRecord). record { cluster = v.cluster; cells = all_cells (set v.slots.items c.args.app.0 c.take_over.new.units); opened = v.opened.items } ≡ record w { cells = set w.cells c.args.app.0 (taken_all w.cluster c.args.demand.now.entries 0 (get_or w.cells c.args.app.0 [])) }) c.self.view_is
    (λ i. record { cluster = v.cluster; cells = slot_taken c.self.inside.cluster c.self.inside.slots.items c.self.inside.opened.items c.args.app.0 c.index_mut-units.result.now c.self.invariant.0 c.self.view_is c.requires.here c.index_mut-units.ensures.value c.args.demand.now.entries c.take_over.new.units c.take_over.ensures.cells i; opened = v.opened.items })
