use Rattle.std.proofs.Common.{sym, ◌∙◌}
use Rattle.locality_tree.specs.Trees.{rack_place}
use Rattle.place_pass.proofs.PlacerTreesLemmas.{stood_so}
use Rattle.fuxi_terms.proofs.Booleans.{same_bool}
use Rattle.place_pass.proofs.line.standing.turn_within.Goals as goal

pub returns-then-stands_within-unmet : goal.returns-then-stands_within-unmet
returns-then-stands_within-unmet c = stood_so c.args.tree.now c.args.entry.now (rack_place c.args.tree.now.racks c.args.rack.0) c.args.unmet (sym c.stands_within.ensures ∙ same_bool c.stands_within.result c.args.unmet c.if-stands_within-unmet.true)
