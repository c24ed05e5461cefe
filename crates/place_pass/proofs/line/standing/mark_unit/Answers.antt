use Rattle.std.proofs.Common.{◌∙◌}
use Rattle.locality_tree.specs.Trees.{unit_number}
use Rattle.place_pass.proofs.PlacerTreesLemmas.{restood_then, waits_on}
use Rattle.place_pass.proofs.line.standing.mark_unit.Goals as goal

pub mark_racks-requires-clause-waits : goal.mark_racks-requires-clause-waits
mark_racks-requires-clause-waits c = waits_on c.args.wishes.now.cluster c.args.entry.now (unit_number c.args.entry.now.app.0 c.args.entry.now.unit.0) c.args.tree.now c.mark_machines.new.tree c.requires.waits c.mark_machines.ensures.restood

pub returns-clause-restood : goal.returns-clause-restood
returns-clause-restood c = restood_then (unit_number c.args.entry.now.app.0 c.args.entry.now.unit.0) c.args.tree.now c.mark_machines.new.tree c.mark_racks.new.tree c.mark_machines.ensures.restood c.mark_racks.ensures.restood

pub returns-clause-stands : goal.returns-clause-stands
returns-clause-stands c = record {
  near = λ m lt. c.mark_racks.ensures.rest m lt ∙ c.mark_machines.ensures.near m lt;
  racks = c.mark_racks.ensures.racks;
}
