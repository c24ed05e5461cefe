use Rattle.place_pass.proofs.ScenesLemmas.{WalkOn}
use Rattle.place_pass.proofs.search.look.best_on.Given as goal

abbrev pub invariant-loop-left : goal.invariant-loop-left
invariant-loop-left l = WalkOn l.input l.machine.0 l.groups l.path l.left

abbrev pub decreases-loop-left : goal.decreases-loop-left
decreases-loop-left l = l.left
