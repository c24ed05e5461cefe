use Rattle.std.proofs.Common.{◌≡◌}
use Rattle.fuxi_terms.specs.Lists.{below_each}
use Rattle.preempt.specs.GrantNumbers.{narrow_at}
use Rattle.preempt.proofs.number.is_narrow.Given as goal

abbrev pub invariant-loop-i : goal.invariant-loop-i
invariant-loop-i l = l.all ≡ below_each l.i (narrow_at l.resources l.size)
