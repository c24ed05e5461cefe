use Rattle.std.proofs.Common.{◌<◌, List, [], length, get_or, sym, ◌∙◌, ap, subst}
use Rattle.std.specs.Global.{Vec}
use Rattle.place_pass.specs.declared.demand.wishes.Wish.{Wish}
use Rattle.place_pass.specs.Cells.{cells_of, cell_at}
use Rattle.place_pass.proofs.SlotsLemmas.{unit_in_slot, cell_in_slot}
use Rattle.place_pass.proofs.demand.wishes.Wishes.wish.Goals as goal

pub wish_at-requires : goal.wish_at-requires
wish_at-requires c =
    let w = c.self.inside in
    subst (λ (slots : List (Vec Wish)). c.args.unit.0 < length (get_or (cells_of slots) c.args.app.0 [])) (sym c.deref.ensures.value) (unit_in_slot w.slots.items w.cluster w.opened.items c.args.app.0 c.self.view_is c.args.unit.0 c.requires)

pub returns-clause-cell : goal.returns-clause-cell
returns-clause-cell c =
    let w = c.self.inside in
    c.wish_at.ensures ∙ ap (λ (slots : List (Vec Wish)). cell_at (cells_of slots) c.args.app.0 c.args.unit.0) c.deref.ensures.value ∙ cell_in_slot w.slots.items w.cluster w.opened.items c.args.app.0 c.self.view_is c.args.unit.0
