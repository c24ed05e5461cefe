use Rattle.std.proofs.Common.{◌≡◌, ◌<◌, true, false, length, get_or, [], sym, ◌∙◌, ap, subst, arith}
use Rattle.fuxi_terms.specs.Jobs.{unit_count}
use Rattle.grant_table.specs.GrantTables.{as_known}
use Rattle.wait_queue.specs.declared.node.Entry.{Entry}
use Rattle.locality_tree.specs.Trees.{unit_number}
use Rattle.spec_roles.specs.Placing.{has_pair}
use Rattle.place_pass.specs.PlacerTrees.{WaitsIn}
use Rattle.place_pass.specs.DemandScopes.{StoodAt}
use Rattle.place_pass.proofs.StandsAtChanges.{admitted_there}
use Rattle.place_pass.proofs.PlacerTreesLemmas.{holds_on, numbers_apart, waits_in}
use Rattle.place_pass.proofs.demand.changes.stand_key_in.Goals as goal

-- a unit that the table does not have does not wait, and one that is not of the line does not
pub returns-then-key-units-clause-stood : goal.returns-then-key-units-clause-stood
returns-then-key-units-clause-stood c same has =
    let l = admitted_there c.args.wishes.now.cells c.args.line.now.pairs c.args.app.0 c.args.key.now.unit c.requires.admitted has in
    let e = c.units.ensures.number in let ge = c.if-key-units.true in
    absurd (omega (arith, l, same, e, ge))

pub returns-then-not-has-clause-stood : goal.returns-then-not-has-clause-stood
returns-then-not-has-clause-stood c same has = let f : true ≡ false = sym has ∙ sym c.has.ensures ∙ c.if-not-has.true in cc

pub entry_for-entry-requires-clause-unit : goal.entry_for-entry-requires-clause-unit
entry_for-entry-requires-clause-unit c = admitted_there c.args.wishes.now.cells c.args.line.now.pairs c.args.app.0 c.args.key.now.unit c.requires.admitted (sym c.has.ensures ∙ c.if-not-has.false)

pub stand_key-requires-clause-here : goal.stand_key-requires-clause-here
stand_key-requires-clause-here c = subst (λ (e : Entry). e.unit.0 < length (get_or c.args.wishes.now.cells e.app.0 [])) (sym c.entry_for-entry.ensures) (admitted_there c.args.wishes.now.cells c.args.line.now.pairs c.args.app.0 c.args.key.now.unit c.requires.admitted (sym c.has.ensures ∙ c.if-not-has.false))

pub stand_key-requires-clause-there : goal.stand_key-requires-clause-there
stand_key-requires-clause-there c =
    let e = c.units.ensures.number in let lt = c.if-key-units.false in
    let there : c.args.key.now.unit < unit_count (as_known c.args.table.now.jobs) c.args.app.0 = omega (arith, e, lt) in
    subst (λ (e : Entry). e.unit.0 < unit_count (as_known c.args.table.now.jobs) e.app.0) (sym c.entry_for-entry.ensures) there

pub stand_key-requires-clause-waits : goal.stand_key-requires-clause-waits
stand_key-requires-clause-waits c =
    let w = c.args.wishes.now in
    let has = sym c.has.ensures ∙ c.if-not-has.false in
    subst (λ (e : Entry). WaitsIn w.cluster e c.args.tree.now) (sym c.entry_for-entry.ensures)
    (waits_in w.cluster w.cells (λ p. has_pair p c.args.line.now.pairs) c.args.turn_of.now.items c.args.tree.now c.args.app.0 c.args.key.now.unit c.requires.holds has (admitted_there w.cells c.args.line.now.pairs c.args.app.0 c.args.key.now.unit c.requires.admitted has))

pub stand_key-requires-clause-unit : goal.stand_key-requires-clause-unit
stand_key-requires-clause-unit c = sym (ap (λ (e : Entry). e.unit.0) c.entry_for-entry.ensures)

pub returns-clause-holds : goal.returns-clause-holds
returns-clause-holds c =
    let w = c.args.wishes.now in
    let stood = subst (λ (e : Entry). StoodAt w.cluster w.cells c.args.table.now.entries e.app.0 c.args.key.now c.args.tree.now c.stand_key.new.tree) c.entry_for-entry.ensures c.stand_key.ensures in
    holds_on w.cluster w.cells (λ p. has_pair p c.args.line.now.pairs) c.args.turn_of.now.items c.args.tree.now c.stand_key.new.tree c.args.app.0 c.args.key.now.unit c.requires.holds (sym c.has.ensures ∙ c.if-not-has.false) stood.restood

pub returns-clause-stood : goal.returns-clause-stood
returns-clause-stood c _ _ =
    let w = c.args.wishes.now in
    subst (λ (e : Entry). StoodAt w.cluster w.cells c.args.table.now.entries e.app.0 c.args.key.now c.args.tree.now c.stand_key.new.tree) c.entry_for-entry.ensures c.stand_key.ensures

pub returns-clause-others : goal.returns-clause-others
returns-clause-others c a u lu f =
    let w = c.args.wishes.now in
    let stood = subst (λ (e : Entry). StoodAt w.cluster w.cells c.args.table.now.entries e.app.0 c.args.key.now c.args.tree.now c.stand_key.new.tree) c.entry_for-entry.ensures c.stand_key.ensures in
    let low = c.requires.holds.few c.args.app.0 c.args.key.now.unit (sym c.has.ensures ∙ c.if-not-has.false) in
    stood.restood.others (unit_number a u) (numbers_apart c.args.app.0 c.args.key.now.unit a u low lu f)
