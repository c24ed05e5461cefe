use Rattle.std.proofs.Common.{◌≡◌}
use Rattle.fuxi_terms.specs.Lists.{below_each}
use Rattle.preempt.specs.MachineRooms.{within_at}
use Rattle.preempt.proofs.room.is_within.Given as goal

abbrev pub invariant-loop-i : goal.invariant-loop-i
invariant-loop-i l = l.all ≡ below_each l.i (within_at l.size l.room)
