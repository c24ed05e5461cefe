use Rattle.std.proofs.Common.{sym, subst}
use Rattle.place_pass.specs.Scenes.{IsMarked, IsSettledBy}
use Rattle.place_pass.proofs.search.machines.consider_at.Goals as goal

pub is_passed-requires-clause-old : goal.is_passed-requires-clause-old
is_passed-requires-clause-old g c = subst (IsMarked c.args.input.now c.args.machine.0) (sym c.at.ensures) (c.requires.old c.args.machine.0)

pub returns-then-is_passed-clause-least : goal.returns-then-is_passed-clause-least
returns-then-is_passed-clause-least g c = c.is_passed.ensures.least c.if-is_passed.true

pub returns-then-is_passed-clause-settled : goal.returns-then-is_passed-clause-settled
returns-then-is_passed-clause-settled g c e = subst (IsSettledBy c.args.input.now c.args.machine.0) c.at.ensures (c.is_passed.ensures.settled c.if-is_passed.true e)
