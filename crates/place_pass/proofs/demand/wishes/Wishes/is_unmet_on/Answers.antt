use Rattle.std.proofs.Common.{◌≡◌, nat_lt, length, get_or, ◌∙◌, ap, arith}
use Rattle.std.proofs.lemmas.Grind.{get_or_default_zero}
use Rattle.fuxi_terms.specs.Cluster.{ClusterRecord}
use Rattle.place_pass.specs.Cells.{Cell, cell_at}
use Rattle.place_pass.proofs.demand.wishes.Wishes.is_unmet_on.Goals as goal

pub held_on-requires-clause-machine : goal.held_on-requires-clause-machine
held_on-requires-clause-machine c =
    let m = ap (λ (x : ClusterRecord). length x.machines) c.requires.cluster in
    let l = c.requires.machine in
    omega (arith, m, l)

pub returns : goal.returns
returns c =
    let m = c.args.machine.0 in
    let near = c.wish-wish.result.now.near.items in
    let wide = (c.wish-wish.ensures.sound.unit c.args.app.0 c.args.unit.0 c.requires.here).near in
    let long = ap (λ (x : Cell). length x.near) c.wish-wish.ensures.cell in
    let lt = c.requires.machine in
    let read : c.index.result.now ≡ get_or (cell_at c.args.self.now.cells c.args.app.0 c.args.unit.0).near m 0 =
    c.index.ensures ∙ get_or_default_zero near m c.index.result.now (omega (arith, wide, long, lt)) ∙ ap (λ (x : Cell). get_or x.near m 0) c.wish-wish.ensures.cell in
    λ i. nat_lt (c.held_on.ensures i) (read i)
