use Rattle.std.proofs.Common.{◌<◌, length, get_or, [], sym, ◌∙◌, ap, subst, arith}
use Rattle.fuxi_terms.specs.Cluster.{ClusterRecord, rack_of}
use Rattle.fuxi_terms.specs.Jobs.{unit_count}
use Rattle.fuxi_terms.specs.Tables.{Table}
use Rattle.grant_table.specs.GrantTables.{TableRecord, as_known}
use Rattle.wait_queue.specs.declared.node.Entry.{Entry}
use Rattle.locality_tree.specs.Trees.{unit_number}
use Rattle.spec_roles.specs.Placing.{has_pair}
use Rattle.place_pass.specs.PlacerTrees.{AllStand, WaitsIn, Restood, RestoodAt}
use Rattle.place_pass.proofs.CellsMatchTable.{rack_small}
use Rattle.place_pass.proofs.PlacerTreesLemmas.{holds_on, waits_in}
use Rattle.place_pass.proofs.StandsAfterChange.{all_apart, all_told}
use Rattle.place_pass.proofs.line.standing.tell_spot.Goals as goal

pub returns-then-not-has-clause-stands : goal.returns-then-not-has-clause-stands
returns-then-not-has-clause-stands c before is all =
    let w = c.args.wishes.now in
    let line = c.args.line.now.pairs in
    subst (λ (es : Table). AllStand w.cluster w.cells es line c.args.tree.now) (sym (ap (λ (t : TableRecord). t.entries) is.is))
    (all_apart w.cluster w.cells before.entries c.args.app.0 c.args.unit.0 c.args.machine.0 is.number is.sound.counts.sorted line c.args.tree.now (sym c.has.ensures ∙ c.if-not-has.true) all)

pub mark_spot-requires-clause-here : goal.mark_spot-requires-clause-here
mark_spot-requires-clause-here c = subst (λ (e : Entry). e.unit.0 < length (get_or c.args.wishes.now.cells e.app.0 [])) (sym c.entry_for-entry.ensures) c.requires.here

pub mark_spot-requires-clause-there : goal.mark_spot-requires-clause-there
mark_spot-requires-clause-there c = subst (λ (e : Entry). e.unit.0 < unit_count (as_known c.args.table.now.jobs) e.app.0) (sym c.entry_for-entry.ensures) c.requires.there

pub mark_spot-requires-clause-machine : goal.mark_spot-requires-clause-machine
mark_spot-requires-clause-machine c =
    let k = ap (λ (x : ClusterRecord). length x.machines) c.requires.cluster in
    let m = c.requires.machine in
    omega (arith, k, m)

pub mark_spot-requires-clause-waits : goal.mark_spot-requires-clause-waits
mark_spot-requires-clause-waits c =
    let w = c.args.wishes.now in
    let line = c.args.line.now.pairs in
    subst (λ (e : Entry). WaitsIn w.cluster e c.args.tree.now) (sym c.entry_for-entry.ensures)
    (waits_in w.cluster w.cells (λ p. has_pair p line) c.args.turn_of.now.items c.args.tree.now c.args.app.0 c.args.unit.0 c.requires.holds (sym c.has.ensures ∙ c.if-not-has.false) c.requires.here)

pub returns-clause-holds : goal.returns-clause-holds
returns-clause-holds c =
    let w = c.args.wishes.now in
    holds_on w.cluster w.cells (λ p. has_pair p c.args.line.now.pairs) c.args.turn_of.now.items c.args.tree.now c.mark_spot.new.tree c.args.app.0 c.args.unit.0 c.requires.holds (sym c.has.ensures ∙ c.if-not-has.false)
    (subst (λ (e : Entry). Restood (unit_number e.app.0 e.unit.0) c.args.tree.now c.mark_spot.new.tree) c.entry_for-entry.ensures c.mark_spot.ensures.restood)

pub returns-clause-stands : goal.returns-clause-stands
returns-clause-stands c before is all =
    let w = c.args.wishes.now in
    let line = c.args.line.now.pairs in
    let a = c.args.app.0 in let u = c.args.unit.0 in let m = c.args.machine.0 in
    let k = ap (λ (x : ClusterRecord). length x.machines) c.requires.cluster in
    let there = c.requires.machine in
    let entries = ap (λ (t : TableRecord). t.entries) is.is in
    let small : rack_of w.cluster m < 64 = subst (λ (x : ClusterRecord). rack_of x m < 64) (sym c.requires.cluster) (rack_small c.args.table.now.cluster c.is_sound.ensures.valid m there) in
    let at = subst (λ (es : Table). RestoodAt w.cluster w.cells es a u m (rack_of w.cluster m) c.args.tree.now c.mark_spot.new.tree) entries
    (subst (λ (e : Entry). RestoodAt w.cluster w.cells c.args.table.now.entries e.app.0 e.unit.0 m (rack_of w.cluster m) c.args.tree.now c.mark_spot.new.tree) c.entry_for-entry.ensures c.mark_spot.ensures.spot) in
    subst (λ (es : Table). AllStand w.cluster w.cells es line c.mark_spot.new.tree) (sym entries)
    (all_told w.cluster w.cells before.entries a u m is.number is.sound.counts.sorted line c.args.tree.now c.mark_spot.new.tree c.requires.holds.few (sym c.has.ensures ∙ c.if-not-has.false) (omega (arith, k, there)) small c.requires.holds.racks
    (subst (λ (e : Entry). Restood (unit_number e.app.0 e.unit.0) c.args.tree.now c.mark_spot.new.tree) c.entry_for-entry.ensures c.mark_spot.ensures.restood) at all)
