use Rattle.std.proofs.Common.{◌≡◌}
use Rattle.fuxi_terms.specs.Lists.{below_each}
use Rattle.preempt.specs.GrantNumbers.{reach_in}
use Rattle.preempt.proofs.number.reach.Given as goal

abbrev pub invariant-loop-i : goal.invariant-loop-i
invariant-loop-i l = l.all ≡ below_each l.i (reach_in l.has l.sums l.want)
