use Rattle.std.proofs.Common.{◌≡◌, [], get_or, set, sym, subst, arith}
use Rattle.place_pass.specs.Cells.{WishesRecord, all_cells, taken_all}
use Rattle.place_pass.specs.DemandScopes.{AsksSameBut}
use Rattle.place_pass.proofs.SlotsLemmas.{slot_there, slot_cells, each_in_slot, slot_taken, slot_wishes}
use Rattle.place_pass.proofs.demand.wishes.Wishes.asked_at.Goals as goal

pub index_mut-units-requires : goal.index_mut-units-requires
index_mut-units-requires c =
    let there = slot_there c.self.inside.slots.items c.self.inside.cluster c.self.inside.opened.items c.args.app.0 c.self.view_is 0 c.requires.here in
    let long = c.self.inside.slots.ok in
    omega (arith, there, long)

pub write_changes-requires-clause-near : goal.write_changes-requires-clause-near
write_changes-requires-clause-near c u l = (each_in_slot c.self.inside.cluster c.self.inside.slots.items c.self.inside.opened.items c.args.app.0 c.index_mut-units.result.now c.self.invariant.0 c.self.view_is c.requires.here c.index_mut-units.ensures.value u l).near

pub write_changes-requires-clause-racks : goal.write_changes-requires-clause-racks
write_changes-requires-clause-racks c u l = (each_in_slot c.self.inside.cluster c.self.inside.slots.items c.self.inside.opened.items c.args.app.0 c.index_mut-units.result.now c.self.invariant.0 c.self.view_is c.requires.here c.index_mut-units.ensures.value u l).racks

pub write_changes-requires-clause-avoided : goal.write_changes-requires-clause-avoided
write_changes-requires-clause-avoided c u l = (each_in_slot c.self.inside.cluster c.self.inside.slots.items c.self.inside.opened.items c.args.app.0 c.index_mut-units.result.now c.self.invariant.0 c.self.view_is c.requires.here c.index_mut-units.ensures.value u l).avoided

pub write_changes-requires-clause-same : goal.write_changes-requires-clause-same
write_changes-requires-clause-same c =
    let es = c.args.demand.now.entries in
    let cs = c.args.changes.now in
    let same = subst (λ (w : WishesRecord). AsksSameBut cs w.cluster es (get_or w.cells c.args.app.0 [])) (sym c.self.view_is) c.requires.same in
    subst (AsksSameBut cs c.self.inside.cluster es) (sym (slot_cells c.self.inside.cluster c.self.inside.slots.items c.self.inside.opened.items c.args.app.0 c.index_mut-units.result.now c.self.invariant.0 c.self.view_is c.requires.here c.index_mut-units.ensures.value)) same

pub invariant_of-self : goal.invariant_of-self
invariant_of-self c =
    let wishes = slot_wishes c.self.inside.cluster c.self.inside.slots.items c.self.inside.opened.items c.args.app.0 c.index_mut-units.result.now c.self.invariant.0 c.self.view_is c.requires.here c.index_mut-units.ensures.value c.args.demand.now.entries c.write_changes.new.units c.write_changes.ensures.cells c.self.inside.least.q c.entries-counts.ensures.counts c.self.invariant.1 in
    (wishes.0, wishes.1, c.self.invariant.2)

pub returns-clause-cells : goal.returns-clause-cells
returns-clause-cells c =
    let v = c.self.inside in
    subst (λ (w : WishesRecord). record { cluster = v.cluster; cells = all_cells (set v.slots.items c.args.app.0 c.write_changes.new.units); opened = v.opened.items } ≡ record w { cells = set w.cells c.args.app.0 (taken_all w.cluster c.args.demand.now.entries 0 (get_or w.cells c.args.app.0 [])) }) c.self.view_is
    (λ i. record { cluster = v.cluster; cells = slot_taken c.self.inside.cluster c.self.inside.slots.items c.self.inside.opened.items c.args.app.0 c.index_mut-units.result.now c.self.invariant.0 c.self.view_is c.requires.here c.index_mut-units.ensures.value c.args.demand.now.entries c.write_changes.new.units c.write_changes.ensures.cells i; opened = v.opened.items })
