use Rattle.std.proofs.Common.{◌≡◌, ◌<◌, length, get_or, sym, ◌∙◌, ap, subst, arith}
use Rattle.fuxi_terms.specs.Jobs.{unit_count}
use Rattle.fuxi_terms.specs.Tables.{held_on}
use Rattle.grant_table.specs.GrantTables.{TableRecord, Cell, cell_of, cell_at, cells_of, as_known}
use Rattle.grant_table.proofs.Cells.{rack_within}
use Rattle.grant_table.proofs.SetTotals.{count_in}
use Rattle.grant_table.proofs.table.GrantTable.counts.Goals as goal

pub counts-requires : goal.counts-requires
counts-requires c =
    let there = subst (λ (t : TableRecord). c.args.unit.0 < unit_count (as_known t.jobs) c.args.app.0) (sym c.self.view_is) c.requires in
    let cell : cell_of c.holding_at.result.now ≡ cell_at (cells_of c.self.inside.slots.items) c.args.app.0 c.args.unit.0 = rw (← c.deref.ensures.value) c.holding_at.ensures in
    let racks = ap (λ (x : Cell). length x.racks) cell ∙ (c.self.invariant.unit c.args.app.0 c.args.unit.0 there).racks in
    (rack_within c.holding_at.result.now.numbers.items 63 (omega (arith, racks))).1

pub returns-clause-is : goal.returns-clause-is
returns-clause-is c = λ m.
    let cell : cell_of c.holding_at.result.now ≡ cell_at (cells_of c.self.inside.slots.items) c.args.app.0 c.args.unit.0 = rw (← c.deref.ensures.value) c.holding_at.ensures in
    ap (λ xs. get_or xs m 0) c.counts.ensures ∙ ap (λ (x : Cell). get_or x.counts m 0) cell
    ∙ sym (count_in _ _ _ _ _ c.self.invariant c.args.app.0 c.args.unit.0 m)
    ∙ ap (λ (t : TableRecord). held_on t.entries c.args.app.0 c.args.unit.0 m) c.self.view_is
