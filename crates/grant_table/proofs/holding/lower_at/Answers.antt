use Rattle.std.proofs.Common.{◌≤◌, get_or, refl, subst}
use Rattle.grant_table.specs.GrantTables.{Cell, lowered}
use Rattle.grant_table.proofs.Cells.{cell_changed, cell_found}
use Rattle.grant_table.proofs.holding.lower_at.Goals as goal

pub lower-requires-clause-count : goal.lower-requires-clause-count
lower-requires-clause-count c =
    subst (λ (x : Cell). c.args.count ≤ get_or x.counts c.args.machine 0)
    (cell_found c.args.slots.now.items c.args.app c.args.unit c.index_mut-units.result.now c.index_mut-holding.result.now c.requires.unit c.index_mut-units.ensures.value c.index_mut-holding.ensures.value) c.requires.count

pub lower-requires-clause-in_rack : goal.lower-requires-clause-in_rack
lower-requires-clause-in_rack c =
    subst (λ (x : Cell). c.args.count ≤ get_or x.racks c.args.rack 0)
    (cell_found c.args.slots.now.items c.args.app c.args.unit c.index_mut-units.result.now c.index_mut-holding.result.now c.requires.unit c.index_mut-units.ensures.value c.index_mut-holding.ensures.value) c.requires.in_rack

pub returns : goal.returns
returns c =
    cell_changed c.args.slots.now.items c.args.app c.args.unit c.index_mut-units.result.now _ c.index_mut-holding.result.now c.lower.new.self (λ (x : Cell). lowered x c.args.machine c.args.rack c.args.count)
    c.requires.unit c.index_mut-units.ensures.value c.index_mut-holding.ensures.value refl c.lower.ensures
