use Rattle.std.proofs.Common.{◌≡◌, nat_lt, get_or, sym, ◌∙◌, ap}
use Rattle.fuxi_terms.specs.Tables.{held_in}
use Rattle.place_pass.specs.Cells.{Cell, cell_at}
use Rattle.place_pass.proofs.demand.wishes.Wishes.is_unmet_in.Goals as goal

pub returns : goal.returns
returns c =
    let cell = cell_at c.args.self.now.cells c.args.app.0 c.args.unit.0 in
    let r = c.args.rack.0 in
    let read : get_or c.wish-wish.result.now.racks r 0 ≡ get_or cell.racks r 0 = ap (λ (x : Cell). get_or x.racks r 0) c.wish-wish.ensures.cell in
    (λ i. nat_lt (c.held_in_rack.ensures i) (read i)) ∙ (λ i. nat_lt (held_in (sym c.requires.cluster i) c.args.table.now.entries c.args.app.0 c.args.unit.0 c.args.rack.0) (get_or cell.racks c.args.rack.0 0))
