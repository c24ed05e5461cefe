use Rattle.std.proofs.Common.{◌≡◌, List, ℕ, ◌∙◌, ap}
use Rattle.place_pass.specs.Bounds.{turn_at}
use Rattle.place_pass.specs.Cells.{Cell, cell_at}
use Rattle.place_pass.proofs.line.standing.entry_for.Goals as goal

pub returns : goal.returns
returns c =
    let e : c.wish.result.now.priority ≡ (cell_at c.args.wishes.now.cells c.args.app.0 c.args.unit.0).unit.priority = ap (λ (x : Cell). x.unit.priority) c.wish.ensures.cell in
    let f = c.turn_of_unit-turn.ensures ∙ ap (λ (xs : List ℕ). turn_at xs c.args.app.0 c.args.unit.0) c.deref.ensures.value in
    λ i. record { app = c.args.app; unit = c.args.unit; priority = e i; turn = f i }
