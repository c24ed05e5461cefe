use Rattle.std.proofs.Common.{sym, ◌∙◌, ap}
use Rattle.locality_tree.specs.Trees.{with_stand}
use Rattle.place_pass.proofs.PlacerTreesLemmas.{stood_so}
use Rattle.place_pass.proofs.line.standing.enter_on.Goals as goal

pub returns-then-not-unmet : goal.returns-then-not-unmet
returns-then-not-unmet c = stood_so c.args.tree.now c.args.entry.now c.args.machine.0 c.args.unmet (c.requires.outside ∙ sym c.if-not-unmet.true)

pub returns : goal.returns
returns c = c.mark_machine.ensures ∙ ap (with_stand c.args.tree.now c.args.entry.now c.args.machine.0) (sym c.if-not-unmet.false)
