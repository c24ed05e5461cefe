use Rattle.std.proofs.Common.{◌≡◌}
use Rattle.preempt.specs.Counted.{greatest_of}
use Rattle.preempt.specs.GrantNumbers.{needed_in_one}
use Rattle.preempt.proofs.number.needed_number.Given as goal

abbrev pub invariant-loop-i : goal.invariant-loop-i
invariant-loop-i l = l.best ≡ greatest_of l.i (needed_in_one l.need l.all l.own l.e l.most)
