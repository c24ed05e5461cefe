use Rattle.std.proofs.Common.{◌≡◌, ◌∙◌, ap}
use Rattle.fuxi_terms.specs.Cluster.{ClusterRecord, rack_of}
use Rattle.place_pass.specs.PlacerTrees.{is_unmet_in}
use Rattle.place_pass.proofs.CellsMatchTable.{rack_is, rack_few}
use Rattle.place_pass.proofs.demand.wishes.Wishes.is_near_rack.Goals as goal

pub is_unmet_in-requires-clause-rack : goal.is_unmet_in-requires-clause-rack
is_unmet_in-requires-clause-rack c = rack_few c.cluster.result.now c.args.table.now.cluster c.cluster.ensures.cluster c.cluster.ensures.sound.valid c.args.machine.0 c.requires.machine c.machine.result.now c.machine.ensures

pub returns : goal.returns
returns c =
    let t = c.args.table.now in
    let m = c.args.machine.0 in
    let rack : c.machine.result.now.rack.0 ≡ rack_of t.cluster m = rack_is c.cluster.result.now.machines m c.machine.result.now c.machine.ensures ∙ ap (λ (x : ClusterRecord). rack_of x m) c.cluster.ensures.cluster in
    c.is_unmet_in.ensures ∙ (λ i. is_unmet_in (c.requires.cluster i) c.args.self.now.cells t.entries c.args.app.0 c.args.unit.0 (rack i))
