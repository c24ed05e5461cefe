use Rattle.std.proofs.Common.{◌≡◌, ◌<◌, length, refl, sym, ◌∙◌, ap, arith}
use Rattle.fuxi_terms.specs.Cluster.{ClusterRecord, rack_of}
use Rattle.locality_tree.specs.Trees.{unit_number, place_count, rack_place}
use Rattle.place_pass.specs.PlacerTrees.{is_unmet_in}
use Rattle.place_pass.proofs.CellsMatchTable.{rack_is, rack_few, rack_small}
use Rattle.place_pass.proofs.PlacerTreesLemmas.{restood_then, marked, marked_here, marked_apart, marked_waits, racks_long}
use Rattle.place_pass.proofs.line.standing.mark_spot.Goals as goal

pub turn_on-requires-clause-waits : goal.turn_on-requires-clause-waits
turn_on-requires-clause-waits c = c.requires.waits.entry

pub turn_on-requires-clause-machine : goal.turn_on-requires-clause-machine
turn_on-requires-clause-machine c =
    let l = racks_long c.args.wishes.now.cluster c.args.tree.now c.requires.waits.racks in
    let m = c.requires.machine in
    omega (arith, l, m)

pub machine-requires : goal.machine-requires
machine-requires c =
    let k = ap (λ (x : ClusterRecord). length x.machines) c.requires.cluster in
    let n = ap (λ (x : ClusterRecord). length x.machines) c.cluster.ensures.cluster in
    let m = c.requires.machine in
    omega (arith, k, n, m)

pub is_unmet_in-in_rack-requires-clause-rack : goal.is_unmet_in-in_rack-requires-clause-rack
is_unmet_in-in_rack-requires-clause-rack c =
    let k = ap (λ (x : ClusterRecord). length x.machines) c.requires.cluster in
    let m = c.requires.machine in
    rack_few c.cluster.result.now c.args.table.now.cluster c.cluster.ensures.cluster c.cluster.ensures.sound.valid c.args.machine.0 (omega (arith, k, m)) c.machine.result.now c.machine.ensures

pub turn_within-requires-clause-waits : goal.turn_within-requires-clause-waits
turn_within-requires-clause-waits c = (marked_waits c.args.wishes.now.cluster c.args.tree.now c.turn_on.new.tree c.args.entry.now c.args.machine.0 c.is_unmet_on-unmet.result c.requires.waits c.turn_on.ensures).entry

pub turn_within-requires-clause-rack : goal.turn_within-requires-clause-rack
turn_within-requires-clause-rack c =
    let k = ap (λ (x : ClusterRecord). length x.machines) c.requires.cluster in
    let m = c.requires.machine in
    rack_few c.cluster.result.now c.args.table.now.cluster c.cluster.ensures.cluster c.cluster.ensures.sound.valid c.args.machine.0 (omega (arith, k, m)) c.machine.result.now c.machine.ensures

pub returns-clause-restood : goal.returns-clause-restood
returns-clause-restood c =
    let cl = c.args.wishes.now.cluster in
    let e = c.args.entry.now in
    let one = marked cl c.args.tree.now c.turn_on.new.tree e c.args.machine.0 c.is_unmet_on-unmet.result c.requires.waits c.turn_on.ensures in
    let waits = marked_waits cl c.args.tree.now c.turn_on.new.tree e c.args.machine.0 c.is_unmet_on-unmet.result c.requires.waits c.turn_on.ensures in
    let two = marked cl c.turn_on.new.tree c.turn_within.new.tree e (rack_place c.turn_on.new.tree.racks c.machine.result.now.rack.0) c.is_unmet_in-in_rack.result waits c.turn_within.ensures in
    restood_then (unit_number e.app.0 e.unit.0) c.args.tree.now c.turn_on.new.tree c.turn_within.new.tree one two

pub returns-clause-spot : goal.returns-clause-spot
returns-clause-spot c =
    let cl = c.args.wishes.now.cluster in
    let e = c.args.entry.now in
    let m = c.args.machine.0 in
    let r = c.machine.result.now.rack.0 in
    let t = c.args.tree.now in
    let t1 = c.turn_on.new.tree in
    let t2 = c.turn_within.new.tree in
    let w = c.requires.waits in
    let unmet = c.is_unmet_on-unmet.result in
    let in_rack = c.is_unmet_in-in_rack.result in
    let one = marked cl t t1 e m unmet w c.turn_on.ensures in
    let w1 = marked_waits cl t t1 e m unmet w c.turn_on.ensures in
    let there = c.requires.machine in
    let k = ap (λ (x : ClusterRecord). length x.machines) c.requires.cluster in
    let l = racks_long cl t w.racks in
    let l1 = ap length one.racks in
    let rack : r ≡ rack_of cl m = rack_is c.cluster.result.now.machines m c.machine.result.now c.machine.ensures ∙ ap (λ (x : ClusterRecord). rack_of x m) (c.cluster.ensures.cluster ∙ sym c.requires.cluster) in
    let small = rack_small c.args.table.now.cluster c.cluster.ensures.sound.valid m (omega (arith, k, there)) in
    let same_rack = ap (λ (x : ClusterRecord). rack_of x m) c.requires.cluster in
    let at_machine : m < place_count t.racks = omega (arith, there, l) in
    let at_rack : rack_place t1.racks r < place_count t1.racks = omega (arith, rack, small, same_rack) in
    record {
      near = marked_apart cl t1 t2 e (rack_place t1.racks r) in_rack w1 c.turn_within.ensures at_rack m (omega (arith, there, l, l1)) ∙ marked_here cl t t1 e m unmet w c.turn_on.ensures at_machine m refl ∙ c.is_unmet_on-unmet.ensures;
      rack = marked_here cl t1 t2 e (rack_place t1.racks r) in_rack w1 c.turn_within.ensures at_rack (rack_place t.racks (rack_of cl m)) (omega (arith, l1, rack)) ∙ c.is_unmet_in-in_rack.ensures
          ∙ ap (is_unmet_in cl c.args.wishes.now.cells c.args.table.now.entries e.app.0 e.unit.0) rack;
      rest = λ place d f. marked_apart cl t1 t2 e (rack_place t1.racks r) in_rack w1 c.turn_within.ensures at_rack place (omega (arith, f, l1, rack)) ∙ marked_apart cl t t1 e m unmet w c.turn_on.ensures at_machine place d;
    }
