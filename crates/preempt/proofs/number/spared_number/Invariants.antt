use Rattle.std.proofs.Common.{◌≡◌}
use Rattle.preempt.specs.Counted.{least_of}
use Rattle.preempt.specs.GrantNumbers.{spared_in_one}
use Rattle.preempt.proofs.number.spared_number.Given as goal

abbrev pub invariant-loop-i : goal.invariant-loop-i
invariant-loop-i l = l.best ≡ least_of l.most l.i (spared_in_one l.group l.part l.size l.most)
