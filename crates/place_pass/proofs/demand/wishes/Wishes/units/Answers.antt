use Rattle.std.proofs.Common.{[], length, sym, ◌∙◌, ap, arith}
use Rattle.std.proofs.lemmas.List.{get_or-map, length-map}
use Rattle.place_pass.specs.Cells.{cell_of, cells_in}
use Rattle.place_pass.proofs.SlotsLemmas.{all_at}
use Rattle.place_pass.proofs.demand.wishes.Wishes.units.Goals as goal

pub returns-then-number-len-clause-few : goal.returns-then-number-len-clause-few
returns-then-number-len-clause-few c =
    let slots = c.self.inside.slots in
    let v = c.index.result.now in
    let lt = c.if-number-len.true in
    let l = c.len.ensures in
    let is = all_at slots.items c.args.app.0 ∙ get_or-map cells_in slots.items c.args.app.0 v [] (omega (arith, lt, l)) ∙ ap cells_in (sym c.index.ensures) in
    let n = ap length is ∙ length-map v.items cell_of in
    let f = c.self.invariant.0.few c.args.app.0 in
    let e = c.len-then-number-len.ensures in
    omega (arith, n, f, e)
