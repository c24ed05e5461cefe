use Rattle.std.proofs.Common.{sym, ◌∙◌}
use Rattle.place_pass.proofs.PlacerTreesLemmas.{stood_so}
use Rattle.fuxi_terms.proofs.Booleans.{same_bool}
use Rattle.place_pass.proofs.line.standing.turn_on.Goals as goal

pub returns-then-stands_on-unmet : goal.returns-then-stands_on-unmet
returns-then-stands_on-unmet c = stood_so c.args.tree.now c.args.entry.now c.args.machine.0 c.args.unmet (sym c.stands_on.ensures ∙ same_bool c.stands_on.result c.args.unmet c.if-stands_on-unmet.true)
