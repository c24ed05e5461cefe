use Rattle.std.proofs.Common.{nat_lt, length, get_or, sym, ◌∙◌, ap, arith}
use Rattle.std.proofs.Math.ListN.{get_or-eq_default}
use Rattle.fuxi_terms.specs.Cluster.{ClusterRecord}
use Rattle.place_pass.specs.Cells.{Cell, cell_at}
use Rattle.place_pass.proofs.CellsLemmas.{one_where}
use Rattle.place_pass.proofs.CellsMatchTable.{few_machines}
use Rattle.place_pass.proofs.demand.wishes.Wishes.avoids.Goals as goal

pub returns-then-machine-machines : goal.returns-then-machine-machines
returns-then-machine-machines c =
    let long = (c.cluster.ensures.sound.unit c.args.app.0 c.args.unit.0 c.requires).avoided in
    let number = c.machines.ensures.number in
    let same = ap (λ (x : ClusterRecord). length x.machines) c.cluster.ensures.cluster in
    let ge = c.if-machine-machines.true in
    sym (ap (nat_lt 0) (get_or-eq_default (cell_at c.args.self.now.cells c.args.app.0 c.args.unit.0).avoided 0 (omega (arith, long, number, same, ge))))

pub contains-requires : goal.contains-requires
contains-requires c =
    let few = few_machines c.cluster.result.now c.machines.ensures.valid in
    let number = c.machines.ensures.number in
    let lt = c.if-machine-machines.false in
    omega (arith, few, number, lt)

pub returns : goal.returns
returns c =
    let long = (c.wish.ensures.sound.unit c.args.app.0 c.args.unit.0 c.requires).near in
    let near = ap (λ (x : Cell). length x.near) c.wish.ensures.cell in
    let number = c.machines.ensures.number in
    let same = ap (λ (x : ClusterRecord). length x.machines) c.cluster.ensures.cluster in
    let lt = c.if-machine-machines.false in
    c.contains.ensures ∙ sym (one_where (length c.wish.result.now.near.items) c.args.machine.0 c.wish.result.now.avoided (omega (arith, long, near, number, same, lt)))
    ∙ ap (λ (x : Cell). nat_lt 0 (get_or x.avoided c.args.machine.0 0)) c.wish.ensures.cell
