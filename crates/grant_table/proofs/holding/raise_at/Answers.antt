use Rattle.std.proofs.Common.{◌+◌, ◌<◌, ◌^◌, get_or, refl, subst}
use Rattle.grant_table.specs.GrantTables.{Cell, raised}
use Rattle.grant_table.proofs.Cells.{cell_changed, cell_found}
use Rattle.grant_table.proofs.holding.raise_at.Goals as goal

pub raise-requires-clause-in_rack : goal.raise-requires-clause-in_rack
raise-requires-clause-in_rack c =
    subst (λ (x : Cell). get_or x.racks c.args.rack 0 + c.args.count < 2 ^ 32)
    (cell_found c.args.slots.now.items c.args.app c.args.unit c.index_mut-units.result.now c.index_mut-holding.result.now c.requires.unit c.index_mut-units.ensures.value c.index_mut-holding.ensures.value) c.requires.in_rack

pub returns : goal.returns
returns c =
    cell_changed c.args.slots.now.items c.args.app c.args.unit c.index_mut-units.result.now _ c.index_mut-holding.result.now c.raise.new.self (λ (x : Cell). raised x c.args.machine c.args.rack c.args.count)
    c.requires.unit c.index_mut-units.ensures.value c.index_mut-holding.ensures.value refl c.raise.ensures
