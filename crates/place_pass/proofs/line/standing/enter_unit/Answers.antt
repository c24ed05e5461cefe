use Rattle.std.proofs.Common.{◌∙◌, length, ap, arith}
use Rattle.locality_tree.specs.Trees.{unit_number, rack_place}
use Rattle.place_pass.proofs.PlacerTreesLemmas.{racks_long, restood_then, waits_on}
use Rattle.place_pass.proofs.line.standing.enter_unit.Goals as goal

pub enter_machines-requires-clause-nowhere : goal.enter_machines-requires-clause-nowhere
enter_machines-requires-clause-nowhere c m lt = let l = racks_long c.args.wishes.now.cluster c.args.tree.now c.requires.waits.racks in c.requires.nowhere m (omega (arith, lt, l))

pub enter_racks-requires-clause-waits : goal.enter_racks-requires-clause-waits
enter_racks-requires-clause-waits c = waits_on c.args.wishes.now.cluster c.args.entry.now (unit_number c.args.entry.now.app.0 c.args.entry.now.unit.0) c.args.tree.now c.enter_machines.new.tree c.requires.waits c.enter_machines.ensures.restood

pub enter_racks-requires-clause-nowhere : goal.enter_racks-requires-clause-nowhere
enter_racks-requires-clause-nowhere c r lt =
    let l = racks_long c.args.wishes.now.cluster c.args.tree.now c.requires.waits.racks in
    let same = ap length c.enter_machines.ensures.restood.racks in
    c.enter_machines.ensures.rest (rack_place c.enter_machines.new.tree.racks r) (omega (arith, l, same)) ∙ c.requires.nowhere (rack_place c.enter_machines.new.tree.racks r) (omega (arith, lt, same))

pub returns-clause-restood : goal.returns-clause-restood
returns-clause-restood c = restood_then (unit_number c.args.entry.now.app.0 c.args.entry.now.unit.0) c.args.tree.now c.enter_machines.new.tree c.enter_racks.new.tree c.enter_machines.ensures.restood c.enter_racks.ensures.restood

pub returns-clause-stands : goal.returns-clause-stands
returns-clause-stands c = record {
  near = λ m lt. c.enter_racks.ensures.rest m lt ∙ c.enter_machines.ensures.near m lt;
  racks = c.enter_racks.ensures.racks;
}
