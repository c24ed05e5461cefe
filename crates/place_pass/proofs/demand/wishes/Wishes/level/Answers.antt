use Rattle.std.proofs.Common.{cond, length, sym, ◌∙◌, ap, arith}
use Rattle.fuxi_terms.specs.Cluster.{ClusterRecord}
use Rattle.fuxi_terms.specs.Tables.{spot}
use Rattle.place_pass.specs.Bounds.{is_nearer_in}
use Rattle.place_pass.specs.Placers.{board_over}
use Rattle.place_pass.proofs.CellsMatchTable.{count_is}
use Rattle.place_pass.proofs.demand.wishes.Wishes.level.Goals as goal

pub is_unmet_on-requires-clause-cluster : goal.is_unmet_on-requires-clause-cluster
is_unmet_on-requires-clause-cluster c = c.requires.level.cluster_is

pub is_unmet_on-requires-clause-there : goal.is_unmet_on-requires-clause-there
is_unmet_on-requires-clause-there c =
    let n = count_is c.args.self.now.cluster c.args.self.now.cells c.args.table.now c.requires.level c.args.app.0 in
    let lt = c.requires.unit in
    omega (arith, n, lt)

pub is_unmet_on-requires-clause-machine : goal.is_unmet_on-requires-clause-machine
is_unmet_on-requires-clause-machine c =
    let n = ap (λ (x : ClusterRecord). length x.machines) c.requires.level.cluster_is in
    let lt = c.requires.machine in
    omega (arith, n, lt)

pub returns-then-is_unmet_on : goal.returns-then-is_unmet_on
returns-then-is_unmet_on c =
    let nearer = is_nearer_in (board_over c.args.self.now.cells c.args.self.now.opened c.args.table.now) c.args.table.now.entries (spot c.args.app.0 c.args.unit.0 c.args.machine.0) in
    ap (λ x. cond x 0 (cond nearer 1 2)) (sym c.if-is_unmet_on.true ∙ c.is_unmet_on.ensures)

pub is_near_rack-requires-clause-there : goal.is_near_rack-requires-clause-there
is_near_rack-requires-clause-there c =
    let n = count_is c.args.self.now.cluster c.args.self.now.cells c.args.table.now c.requires.level c.args.app.0 in
    let lt = c.requires.unit in
    omega (arith, n, lt)

pub returns-then-is_near_rack : goal.returns-then-is_near_rack
returns-then-is_near_rack c =
    let nearer = is_nearer_in (board_over c.args.self.now.cells c.args.self.now.opened c.args.table.now) c.args.table.now.entries (spot c.args.app.0 c.args.unit.0 c.args.machine.0) in
    ap (λ y. cond y 1 2) (sym c.if-is_near_rack.true ∙ c.is_near_rack.ensures) ∙ ap (λ x. cond x 0 (cond nearer 1 2)) (sym c.if-is_unmet_on.false ∙ c.is_unmet_on.ensures)
