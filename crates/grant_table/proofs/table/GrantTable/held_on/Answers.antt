use Rattle.std.proofs.Common.{◌≡◌, get_or, sym, ◌∙◌, ap}
use Rattle.fuxi_terms.specs.Tables.{held_on}
use Rattle.grant_table.specs.GrantTables.{TableRecord, Cell, cell_of, cell_at, cells_of}
use Rattle.grant_table.proofs.SetTotals.{count_in}
use Rattle.grant_table.proofs.table.GrantTable.held_on.Goals as goal

pub returns : goal.returns
returns c =
    let cell : cell_of c.holding_at-holding.result.now ≡ cell_at (cells_of c.self.inside.slots.items) c.args.app.0 c.args.unit.0 = rw (← c.deref.ensures.value) c.holding_at-holding.ensures in
    let counts = ap (λ (x : Cell). x.counts) cell in
    c.count.ensures ∙ ap (λ xs. get_or xs c.args.machine.0 0) counts
    ∙ sym (count_in _ _ _ _ _ c.self.invariant c.args.app.0 c.args.unit.0 c.args.machine.0)
    ∙ ap (λ (t : TableRecord). held_on t.entries c.args.app.0 c.args.unit.0 c.args.machine.0) c.self.view_is
